-- What is read has its sizes, whatever the bytes are.
use Rattle.std.proofs.Common.{◌≡◌, ◌∙◌, ℕ, zero, suc, ◌+◌, ◌*◌, ◌<◌, ◌≤◌, Bool, true, false, if◌then◌else◌, List, [], ◌∷◌, ◌++◌, length}
use Rattle.std.proofs.Common.{length-append, take, map, replicate, inl, inr, refl, sym, ap, arith}
use Rattle.std.specs.Prelude.{slice_index, slice_index_or}
use Rattle.std.specs.List.{count_by}
use Rattle.std.proofs.lemmas.Bool.{cases_lt}
use Rattle.std.proofs.lemmas.List.{length-map, length-take-le, get_or_past}
use Rattle.bpf_hash.specs.declared.runs.Runs.{Runs}
use Rattle.bpf_shared.specs.declared.shapes.MapShape.{MapShape}
use Rattle.bpf_shared.specs.Shape.{IsMapShape, elements}
use Rattle.bpf_hash.specs.Private.Runs.{run_of}
use Rattle.bpf_hash.specs.Private.Rows.{Rows, no_rows}
use Rattle.bpf_hash.specs.Private.Contents.{Contents, IsStore}
use Rattle.bpf_hash.specs.Private.Normal.{low_bit, high_bit, run_read}
use Rattle.bpf_hash.specs.Private.Sized.{AreFirst, AreSized, AreApart, IsReadTable}
use Rattle.bpf_hash.proofs.Blocks.{suc-mul}
use Rattle.bpf_hash.proofs.Normal.{zeros}

-- ---- notes
first_more : (xs ys : List ℕ) → AreFirst xs → AreFirst ys → AreFirst (xs ++ ys)
first_more [] ys a b k = b k
first_more (x ∷ xs) ys a b zero = a 0
first_more (x ∷ xs) ys a b (suc k) = first_more xs ys (λ j. a (suc j)) b k

first_low : (notes : List ℕ) → AreFirst (map low_bit notes)
first_low [] k = omega arith
first_low (n ∷ ns) zero = omega arith
first_low (n ∷ ns) (suc k) = first_low ns k

first_high : (notes : List ℕ) → AreFirst (map high_bit notes)
first_high [] k = omega arith
first_high (n ∷ ns) zero = omega arith
first_high (n ∷ ns) (suc k) = first_high ns k

-- ---- the parts of elements
pub part_sized : (present : Bool) (n : ℕ) (xs : List ℕ) → (present ≡ true → n ≤ length xs) → length (if present then take n xs else replicate n 0) ≡ n
part_sized true n xs fits = length-take-le n xs (fits refl)
part_sized false n xs fits = zeros n

more_size : (n w : ℕ) (old new more : List ℕ) → length old ≡ n * w → new ≡ old ++ more → length more ≡ w → length new ≡ (n + 1) * w
more_size n w old new more size e long =
    let sum = length-append old more in
    let all = ap (λ (xs : List ℕ). length xs) e in
    let next = suc-mul n w in
    omega (arith, size, sum, all, next, long)

pub sized_none : (shape : MapShape) (cpus : ℕ) → AreSized shape cpus 0 [] [] [] [] []
sized_none shape cpus = record {
  linked_size = omega arith;
  keys_size = omega arith;
  values_size = omega arith;
  held_size = omega arith;
  left_size = omega arith;
  held_first = λ k. omega arith;
  left_first = λ k. omega arith;
}

pub sized_more : (shape : MapShape) (cpus n : ℕ) (linked linked' : List Bool)
    (keys keys' values values' held held' left left' key value notes : List ℕ) (here : Bool) → AreSized shape cpus n linked keys values held left
    → linked' ≡ linked ++ here ∷ [] → keys' ≡ keys ++ key → length key ≡ shape.key → values' ≡ values ++ value → length value ≡ shape.value
    → length notes ≡ cpus → held' ≡ held ++ map low_bit notes → left' ≡ left ++ map high_bit notes
    → AreSized shape cpus (n + 1) linked' keys' values' held' left'
sized_more shape cpus n linked linked' keys keys' values values' held held' left left' key value notes here is l k key_size v value_size many h e = record {
  linked_size =
      (let sum = length-append linked (here ∷ []) in
      let all = ap (λ (xs : List Bool). length xs) l in
      let before = is.linked_size in
      omega (arith, sum, all, before));
  keys_size = more_size n shape.key keys keys' key is.keys_size k key_size;
  values_size = more_size n shape.value values values' value is.values_size v value_size;
  held_size = more_size n cpus held held' (map low_bit notes) is.held_size h (length-map notes low_bit ∙ many);
  left_size = more_size n cpus left left' (map high_bit notes) is.left_size e (length-map notes high_bit ∙ many);
  held_first = λ i. (let first = first_more held (map low_bit notes) is.held_first (first_low notes) i in
      let same = ap (λ (xs : List ℕ). slice_index xs i) h in omega (arith, first, same));
  left_first = λ i. (let first = first_more left (map high_bit notes) is.left_first (first_high notes) i in
      let same = ap (λ (xs : List ℕ). slice_index xs i) e in omega (arith, first, same));
}

-- ---- a table
marked_inside : (linked : List Bool) (i : ℕ) → slice_index_or linked i false ≡ true → i < length linked
marked_inside linked i marked = elim (cases_lt i (length linked)) [
  | inl l ↦ l
  | inr past ↦ let no : false ≡ true = sym (get_or_past linked i false past) ∙ marked in cc
]

pub sized_table : (shape : MapShape) (cpus : ℕ) (linked : List Bool) (keys values held left : List ℕ) → IsMapShape shape → cpus ≤ 16 →
    AreSized shape cpus (elements shape) linked keys values held left
    → count_by (λ b. b) linked ≤ shape.max → AreApart shape.key linked keys (length linked)
    → IsReadTable cpus (record { shape = shape; cpus = cpus; linked = linked; keys = keys; values = values; looked_up = held; left = left })
sized_table shape cpus linked keys values held left is few sized count apart = record {
  table = record {
    shape = is;
    cpus = few;
    linked = sized.linked_size;
    keys = sized.keys_size;
    values = sized.values_size;
    looked_up = sized.held_size;
    left = sized.left_size;
    count = count;
    distinct = λ i j a b e. apart i j (marked_inside linked i a) (marked_inside linked j b) a b e;
  };
  noted = refl;
  held = sized.held_first;
  left = sized.left_first;
}

-- ---- a store
first_count : (bytes : List ℕ) (c : ℕ) → c < length (map run_read bytes) → (run_of (map run_read bytes) c).count ≡ 1
first_count [] c l = absurd (omega arith)
first_count (b ∷ bs) zero l = refl
first_count (b ∷ bs) (suc c) l = first_count bs c (omega arith)

module _ (p : Contents) (bytes : List ℕ) (runs : p.runs ≡ map run_read bytes) (cpus : length p.runs ≤ 16) (maps : length p.tables ≤ 16)
    (read : (m : ℕ) → m < length p.tables → IsReadTable (length p.runs) (slice_index_or p.tables m no_rows)) where
  note_first : (notes : Rows → List ℕ) → notes no_rows ≡ [] → ((m : ℕ) → m < length p.tables → AreFirst (notes (slice_index_or p.tables m no_rows)))
      → (m k c : ℕ) → c < length p.runs → slice_index (notes (slice_index_or p.tables m no_rows)) k ≤ (run_of p.runs c).count
  note_first notes empty first m k c l =
      let inside : c < length (map run_read bytes) = (let e = ap (λ (rs : List Runs). length rs) runs in omega (arith, e)) in
      let one : (run_of p.runs c).count ≡ 1 = ap (λ (rs : List Runs). (run_of rs c).count) runs ∙ first_count bytes c inside in
      elim (cases_lt m (length p.tables)) [
        | inl there ↦ let small = first m there k in omega (arith, small, one)
        | inr past ↦
            let none : slice_index_or p.tables m no_rows ≡ no_rows = get_or_past p.tables m no_rows past in
            let e : slice_index (notes (slice_index_or p.tables m no_rows)) k ≡ 0 = ap (λ (t : Rows). slice_index (notes t) k) none ∙ ap
            (λ (xs : List ℕ). slice_index xs k) empty in
            omega (arith, e)
      ]

  pub read_store : IsStore p
  read_store = record {
    cpus = cpus;
    maps = maps;
    tables = λ m l. ((read m l).table, (read m l).noted);
    looked_up = λ m i c l. note_first (λ t. t.looked_up) refl (λ n k. (read n k).held) m _ c l;
    left = λ m i c l. note_first (λ t. t.left) refl (λ n k. (read n k).left) m _ c l;
  }
