-- The bytes that an array has at first, as its words spell them.
use Rattle.std.proofs.Common.{◌≡◌, ℕ, zero, suc, ◌+◌, ◌-◌, ◌*◌, ◌/◌, ◌%◌, ◌<◌, ◌≤◌, List, [], ◌∷◌, ◌++◌, length, take, drop, replicate}
use Rattle.std.proofs.Common.{slice_index, refl, ap, sym, subst, ◌∙◌, arith, Bool, true, false, if◌then◌else◌}
use Rattle.std.proofs.lemmas.List.{take-take, take_all, drop-drop}
use Rattle.std.proofs.lemmas.Nat.{mod-mul-add, mul-add-lt}
use Rattle.bpf_base.specs.Bytes.{little_endian, part}
use Rattle.bpf_shared.specs.declared.shapes.ArrayShape.{ArrayShape}
use Rattle.bpf_shared.specs.Shape.{IsShape, contents_of, copies, copy_size, copy_stride, array_stride, fixed_span}
use Rattle.bpf_shared.specs.Store.{first_bytes, fixed_number, fixed_value}
use Rattle.bpf_shared.proofs.Fixed.{fixed_is, length-first_bytes, copy_fits}
use Rattle.hop_layout.specs.declared.place.Place.{Place}
use Rattle.hop_layout.specs.declared.place.Place.TheVariants.{FixedWord}
use Rattle.hop_layout.specs.declared.about.About.{About}
use Rattle.hop_layout.specs.Layout.{words_for, array_words}
use Rattle.hop_layout.specs.Words.{AreBytes, word_of, bytes_of_words}
use Rattle.hop_layout.proofs.Parts.{word_none}
use Rattle.hop_layout.proofs.Spelled.{spelled_back, spelled_same}
use Rattle.hop_layout.proofs.WordBytes.{length-spelled, part_taken}
use Rattle.hop_words.specs.Ghost.{array_at, HasFixed, fixed_word}
use Rattle.hop_words.specs.Rule.{ShowsFixed}
use Rattle.hop_words.specs.Private.Made.{first_word, IsCopyStart}
use Rattle.hop_words.proofs.FixedPlaces.{array_back, copy_back, index_back, as_fixed, word_at, sized_array}
use Rattle.hop_layout.proofs.Maps.{array_is, words_few}
use native.Mathlib.Decide.{dec_lt}
use mathlib.Core.Logic.{dite}

-- ---- bytes that zeros follow
-- it's all one how many
pub part_padded : (bs : List ℕ) (m o at n : ℕ) → at + n ≤ m → at + n ≤ o → part (bs ++ replicate m 0) at n ≡ part (bs ++ replicate o 0) at n
part_padded bs m o zero zero l k = refl
part_padded [] zero o zero (suc n) l k = absurd (omega arith)
part_padded [] (suc m) zero zero (suc n) l k = absurd (omega arith)
part_padded [] (suc m) (suc o) zero (suc n) l k = let r = part_padded [] m o zero n (omega arith) (omega arith) in λ j. 0 ∷ r j
part_padded (x ∷ bs) m o zero (suc n) l k = let r = part_padded bs m o zero n (omega arith) (omega arith) in λ j. x ∷ r j
part_padded [] zero o (suc at) n l k = absurd (omega arith)
part_padded [] (suc m) zero (suc at) n l k = absurd (omega arith)
part_padded [] (suc m) (suc o) (suc at) n l k = part_padded [] m o at n (omega arith) (omega arith)
part_padded (x ∷ bs) m o (suc at) n l k = part_padded bs m o at n (omega arith) (omega arith)

pub bytes_padded : (bs : List ℕ) (m at n : ℕ) → AreBytes bs → AreBytes (part (bs ++ replicate m 0) at n)
bytes_padded [] zero zero zero b = tt
bytes_padded [] zero zero (suc n) b = tt
bytes_padded [] zero (suc at) zero b = tt
bytes_padded [] zero (suc at) (suc n) b = tt
bytes_padded [] (suc m) zero zero b = tt
bytes_padded [] (suc m) zero (suc n) b = (omega arith, bytes_padded [] m zero n tt)
bytes_padded [] (suc m) (suc at) n b = bytes_padded [] m at n tt
bytes_padded (x ∷ bs) m zero zero b = tt
bytes_padded (x ∷ bs) m zero (suc n) b = (b.0, bytes_padded bs m zero n b.1)
bytes_padded (x ∷ bs) m (suc at) n b = bytes_padded bs m at n b.1

-- numbers don't see them
number_padded : (bs : List ℕ) (m at n : ℕ) → little_endian (part (bs ++ replicate m 0) at n) ≡ little_endian (part bs at n)
number_padded [] zero at n = refl
number_padded [] (suc m) zero zero = refl
number_padded [] (suc m) zero (suc n) = let r = number_padded [] m zero n in let z = word_none [] zero n (omega arith) in omega arith
number_padded [] (suc m) (suc at) n = number_padded [] m at n ∙ (word_none [] at n (omega arith) ∙ sym (word_none [] (suc at) n (omega arith)))
number_padded (x ∷ bs) m zero zero = refl
number_padded (x ∷ bs) m zero (suc n) = let r = number_padded bs m zero n in omega arith
number_padded (x ∷ bs) m (suc at) n = number_padded bs m at n

-- n words, from the q-th word of bytes on
pub first_spelled : (n : ℕ) (bs : List ℕ) (q v : ℕ) → AreBytes bs → v ≤ 8 * n → first_bytes bs (8 * q) v ≡ take v (bytes_of_words n (λ j. word_of bs (q + j)))
first_spelled n bs q v are few =
    part_padded bs (8 * q + v) (8 * q + 8 * n) (8 * q) v (omega arith) (omega arith)
    ∙ (sym (take-take v (8 * n) (drop (8 * q) all) few)
    ∙ ap (take v) (sym back ∙ spelled_same n (word_of row) (λ j. word_of bs (q + j)) (λ j l. words j l)))
  where
    all : List ℕ
    all = bs ++ replicate (8 * q + 8 * n) 0

    row : List ℕ
    row = part all (8 * q) (8 * n)

    long : length row ≡ 8 * n
    long = length-first_bytes bs (8 * q) (8 * n)

    back : bytes_of_words n (word_of row) ≡ row
    back =
        let len = length-spelled n (word_of row) in
        sym (take_all (8 * n) (bytes_of_words n (word_of row)) (omega arith))
        ∙ (ap (λ (k : ℕ). take k (bytes_of_words n (word_of row))) (sym long) ∙ spelled_back n row
        (bytes_padded bs (8 * q + 8 * n) (8 * q) (8 * n) are) (let z = long in omega arith))

    words : (j : ℕ) → j < n → word_of row j ≡ word_of bs (q + j)
    words j l =
        ap little_endian (part_taken (8 * n) (8 * j) 8 (drop (8 * q) all) (omega arith)
        ∙ ap (take 8) (drop-drop (8 * j) (8 * q) all ∙ ap (λ (k : ℕ). drop k all) (let z : 8 * q + 8 * j ≡ 8 * (q + j) = omega arith in z)))
        ∙ number_padded bs (8 * q + 8 * n) (8 * (q + j)) 8

-- ---- arrays
-- a CPU's words
abbrev copy_words : ArrayShape → ℕ
copy_words g = copy_stride g / 8

pub eighths : (g : ArrayShape) → 8 * copy_words g ≡ copy_stride g
eighths g = whole ((copy_size g + 63) / 64)
  where
    whole : (q : ℕ) → 8 * (q * 64 / 8) ≡ q * 64
    whole q = omega arith

-- where a value's words are among those of its CPU
row_is : (g : ArrayShape) (k i : ℕ) → fixed_word g k i ≡ k * copy_words g + i * words_for g.value
row_is g k i =
    let z = word_at g k i in
    let e = eighths g in
    let s : array_stride g ≡ words_for g.value * 8 = refl in
    let p : k * copy_stride g ≡ 8 * (k * copy_words g) = ap (λ (x : ℕ). k * x) (sym e) ∙
    (let y : k * (8 * copy_words g) ≡ 8 * (k * copy_words g) = grind arith in y) in
    let q : i * array_stride g ≡ 8 * (i * words_for g.value) = (let y : i * (words_for g.value * 8) ≡ 8 * (i * words_for g.value) = grind arith in y) in
    omega arith

row_inside : (cpus : ℕ) (g : ArrayShape) (i j : ℕ) → i < g.max → j < words_for g.value → i * words_for g.value + j < copy_words g
row_inside cpus g i j l few =
    let r = mul-add-lt i (words_for g.value) j g.max l few in
    let e = eighths g in
    let f = copy_fits cpus g in
    let s : copy_size g ≡ 8 * (g.max * words_for g.value) = (let y : words_for g.value * 8 * g.max ≡ 8 * (g.max * words_for g.value) = grind arith in y) in
    omega arith

module _ (a : About) (shaped : IsShape a.shape) (are : (b : ℕ) → b < length a.shape.arrays → AreBytes (contents_of a.shape b)) (w : Place → ℕ)
    (made : (b k : ℕ) → b < length a.shape.arrays → k < array_words a.shape b → w (FixedWord b k) ≡ first_word a b k) where
  word_made : (b k i j : ℕ) → HasFixed a b k i → j < words_for (array_at a b).value → w (FixedWord b (fixed_word (array_at a b) k i + j)) ≡
      word_of (contents_of a.shape b) (i * words_for (array_at a b).value + j)
  word_made b k i j has few =
      let g = array_at a b in
      let at : fixed_word g k i + j ≡ k * copy_words g + (i * words_for g.value + j) = (let z = row_is g k i in omega arith) in
      let low = row_inside a.shape.cpus g i j has.index few in
      made b (fixed_word g k i + j) has.array (subst (λ (n : ℕ). n < array_words a.shape b) (sym at) (last g k (i * words_for g.value + j) has.copy low))
      ∙ ap (word_of (contents_of a.shape b)) (ap (λ (n : ℕ). n % copy_words g) at ∙ mod-mul-add k (copy_words g) (i * words_for g.value + j) low)
    where
      last : (g : ArrayShape) (k r : ℕ) → k < copies a.shape.cpus g → r < copy_words g → k * copy_words g + r < copies a.shape.cpus g * copy_stride g / 8
      last g k r l low =
          let z = mul-add-lt k (copy_words g) r (copies a.shape.cpus g) l low in
          let e = eighths g in
          let m : copies a.shape.cpus g * copy_stride g ≡ copies a.shape.cpus g * copy_words g * 8 = ap
          (λ (x : ℕ). copies a.shape.cpus g * x) (sym e) ∙
          (let y : copies a.shape.cpus g * (8 * copy_words g) ≡ copies a.shape.cpus g * copy_words g * 8 = grind arith in y) in
          omega arith

  -- the words as made spell the first bytes
  pub shows_first : ShowsFixed a (λ b k. w (FixedWord b k)) (fixed_value a.shape)
  shows_first b k i has =
      let g = array_at a b in
      let n = words_for g.value in
      fixed_is a.shape (fixed_number b k i) (as_fixed a shaped b k i has)
      ∙ ((λ t. record {
        bytes = first_bytes (contents_of a.shape (array_back a shaped b k i has t)) (index_back a shaped b k i has t * array_stride g) g.value;
        span = fixed_span (array_back a shaped b k i has t) g (copy_back a shaped b k i has t) (index_back a shaped b k i has t);
      })
      ∙ ap (λ (bs : List ℕ). record { bytes = bs; span = fixed_span b g k i })
      (ap (λ (x : ℕ). first_bytes (contents_of a.shape b) x g.value) (let y : i * (words_for g.value * 8) ≡ 8 * (i * words_for g.value) = grind arith in y)
      ∙ (first_spelled n (contents_of a.shape b) (i * n) g.value (are b has.array) (omega arith)
      ∙ ap (take g.value) (sym (spelled_same n (λ j. w (FixedWord b (fixed_word g k i + j)))
      (λ j. word_of (contents_of a.shape b) (i * n + j)) (λ j l. word_made b k i j has l))))))

-- ---- as the code writes them
-- the words of a copy, from its first on
pub copy_word : (a : About) (b n j : ℕ) → IsCopyStart a b n → j < copy_words (array_at a b) →
    (first_word a b (n + j) ≡ word_of (contents_of a.shape b) j) × (n + j < array_words a.shape b)
copy_word a b n j start low =
    let g = array_at a b in
    let at : n + j ≡ start.0 * copy_words g + j = ap (λ (x : ℕ). x + j) start.2 in (
      ap (word_of (contents_of a.shape b)) (ap (λ (x : ℕ). x % copy_words g) at ∙ mod-mul-add start.0 (copy_words g) j low),
      subst (λ (x : ℕ). x < array_words a.shape b) (sym at) (let z = mul-add-lt start.0 (copy_words g) j (copies a.shape.cpus g) start.1 low in
          let e = eighths g in
          let m : copies a.shape.cpus g * copy_stride g ≡ copies a.shape.cpus g * copy_words g * 8 = ap
          (λ (x : ℕ). copies a.shape.cpus g * x) (sym e) ∙
          (let y : copies a.shape.cpus g * (8 * copy_words g) ≡ copies a.shape.cpus g * copy_words g * 8 = grind arith in y) in
          omega arith),
    )

-- those after the last byte are zeros
pub copy_zero : (a : About) (b n k d : ℕ) → IsCopyStart a b n → n + d ≤ k → k < n + copy_words (array_at a b) → length
    (contents_of a.shape b) ≤ 8 * d → first_word a b k ≡ 0
copy_zero a b n k d start from low most =
    let at : n + (k - n) ≡ k = omega arith in
    ap (first_word a b) (sym at) ∙ ((copy_word a b n (k - n) start (omega arith)).0 ∙ word_none (contents_of a.shape b) (8 * (k - n)) 8 (omega arith))

-- numbers that are bytes each
pub are_bytes : (bs : List ℕ) → ((i : ℕ) → slice_index bs i < 256) → AreBytes bs
are_bytes [] f = tt
are_bytes (x ∷ bs) f = (f 0, are_bytes bs (λ i. f (suc i)))

-- a CPU's values have all the first bytes
pub contents_few : (a : About) (shaped : IsShape a.shape) (b : ℕ) → b < length a.shape.arrays → length (contents_of a.shape b) ≤ 8 * copy_words (array_at a b)
contents_few a shaped b l =
    let most = (shaped.arrays b (array_at a b) (array_is a.shape b l)).1 in
    let e = eighths (array_at a b) in
    let f = copy_fits a.shape.cpus (array_at a b) in
    omega arith

pub copies_some : (a : About) (shaped : IsShape a.shape) (b : ℕ) → 0 < copies a.shape.cpus (array_at a b)
copies_some a shaped b = go (array_at a b).per_cpu
  where
    go : (x : Bool) → 0 < (if x then a.shape.cpus else 1)
    go true = shaped.cpus.0
    go false = omega arith

-- and so few words that code counts them
pub copy_room : (a : About) (shaped : IsShape a.shape) (b n : ℕ) → b < length a.shape.arrays → IsCopyStart a b n → n + copy_words (array_at a b) ≤ 33554432
copy_room a shaped b n l start = dite (dec_lt 0 (copy_words g))
    (λ (some : 0 < copy_words g).
    let z = (copy_word a b n (copy_words g - 1) start (omega arith)).1 in
    let m = words_few a.shape.cpus (copies a.shape.cpus g) (copy_stride g) g shaped.cpus.1 (sized_array a shaped b l) refl refl in omega arith)
    (λ none. let e : copy_words g ≡ 0 = grind arith in let z : start.0 * copy_words g ≡ start.0 * 0 = ap (λ (x : ℕ). start.0 * x) e in
    let q = start.2 in omega arith)
  where
    g : ArrayShape
    g = array_at a b

pub all_copies : (a : About) (b : ℕ) → copies a.shape.cpus (array_at a b) * copy_words (array_at a b) ≡ array_words a.shape b
all_copies a b =
    let g = array_at a b in
    let e = eighths g in
    let m : copies a.shape.cpus g * copy_stride g ≡ copies a.shape.cpus g * copy_words g * 8 = ap (λ (x : ℕ). copies a.shape.cpus g * x)
    (sym e) ∙ (let y : copies a.shape.cpus g * (8 * copy_words g) ≡ copies a.shape.cpus g * copy_words g * 8 = grind arith in y) in
    omega arith
