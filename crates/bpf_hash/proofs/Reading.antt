-- An element of a table, read from the bytes that it was saved as.
use Rattle.std.proofs.Common.{◌≡◌, ◌∙◌, ℕ, zero, suc, ◌+◌, ◌≤◌, ◌==◌, true, false, Bool, ◌||◌, if◌then◌else◌, List, [], ◌∷◌, ◌++◌, length}
use Rattle.std.proofs.Common.{length-append, take, drop, map, replicate, slice_index, refl, sym, ap, subst, append_assoc, arith}
use Rattle.std.proofs.lemmas.List.{map-append}
use Rattle.std.proofs.Math.Seq.{take-append_seam}
use Rattle.bpf_hash.specs.declared.runs.Runs.{Runs}
use Rattle.bpf_shared.specs.declared.shapes.MapShape.{MapShape}
use Rattle.bpf_hash.specs.Private.Runs.{run_of}
use Rattle.bpf_hash.specs.Private.Rows.{Rows, key_of, bytes_of}
use Rattle.bpf_hash.specs.Private.Contents.{any_below}
use Rattle.bpf_hash.specs.Private.Saved.{bit, all_below, holds_row, keeps_row, note_of, notes_of, is_linked, marks_of, is_noted, block_of}
use Rattle.bpf_hash.specs.Private.Normal.{normal_key, normal_value, normal_held, normal_left, low_bit, high_bit, is_note, IsBlockAt}
use Rattle.bpf_hash.proofs.AnyBelow.{any_below_same}
use Rattle.bpf_hash.proofs.SavedAlike.{key_size, bytes_size, singles}
use Rattle.bpf_hash.proofs.Normal.{single_is}

-- ---- lists
pub drop_seam : (xs ys : List ℕ) (n : ℕ) → n ≡ length xs → drop n (xs ++ ys) ≡ ys
drop_seam [] ys zero e = refl
drop_seam [] ys (suc n) e = absurd (omega arith)
drop_seam (x ∷ xs) ys zero e = absurd (omega arith)
drop_seam (x ∷ xs) ys (suc n) e = drop_seam xs ys n (omega arith)

pub take_seam : (xs ys : List ℕ) (n : ℕ) → n ≡ length xs → take n (xs ++ ys) ≡ xs
take_seam xs ys n e = ap (λ (k : ℕ). take k (xs ++ ys)) e ∙ take-append_seam xs ys

-- ---- notes
low_is : (a b : Bool) → low_bit (bit 1 a + bit 2 b) ≡ bit 1 a
low_is true true = refl
low_is true false = refl
low_is false true = refl
low_is false false = refl

high_is : (a b : Bool) → high_bit (bit 1 a + bit 2 b) ≡ bit 1 b
high_is true true = refl
high_is true false = refl
high_is false true = refl
high_is false false = refl

note_is : (a b : Bool) → is_note (bit 1 a + bit 2 b) ≡ (a || b)
note_is true true = refl
note_is true false = refl
note_is false true = refl
note_is false false = refl

map_singles : (f : ℕ → ℕ) (x y : ℕ → ℕ) (n : ℕ) → ((c : ℕ) → f (x c) ≡ y c) → map f (all_below (λ c. x c ∷ []) n) ≡ all_below (λ c. y c ∷ []) n
map_singles f x y zero same = refl
map_singles f x y (suc n) same =
    map-append f (all_below (λ c. x c ∷ []) n) (x n ∷ [])
    ∙ (ap (λ (bs : List ℕ). bs ++ f (x n) ∷ []) (map_singles f x y n same) ∙ ap (λ (k : ℕ). all_below (λ c. y c ∷ []) n ++ k ∷ []) (same n))

module _ (runs : List Runs) (t : Rows) (i : ℕ) where
  abbrev x : ℕ → ℕ
  x c = note_of t i c (run_of runs c)

  pub held_of : map low_bit (notes_of runs t i) ≡ normal_held runs t i
  held_of = map_singles low_bit x (λ c. bit 1 (holds_row t i c (run_of runs c))) (length runs)
      (λ c. low_is (holds_row t i c (run_of runs c)) (keeps_row t i c (run_of runs c)))

  pub left_of : map high_bit (notes_of runs t i) ≡ normal_left runs t i
  left_of = map_singles high_bit x (λ c. bit 1 (keeps_row t i c (run_of runs c))) (length runs)
      (λ c. high_is (holds_row t i c (run_of runs c)) (keeps_row t i c (run_of runs c)))

  pub noted_of : any_below (length (notes_of runs t i)) (λ c. is_note (slice_index (notes_of runs t i) c)) ≡ is_noted runs t i
  noted_of =
      ap (λ (n : ℕ). any_below n (λ c. is_note (slice_index (notes_of runs t i) c))) (singles x (length runs))
      ∙ any_below_same (length runs) (λ c. holds_row t i c (run_of runs c) || keeps_row t i c (run_of runs c))
      (λ c. is_note (slice_index (notes_of runs t i) c))
      (λ c l. ap is_note (single_is x (length runs) c l) ∙ note_is (holds_row t i c (run_of runs c)) (keeps_row t i c (run_of runs c)))

-- ---- a part that is there or not
part_or : (b : Bool) (xs more : List ℕ) (n : ℕ) → length xs ≡ n → (if b then take n ((if b then xs else []) ++ more) else replicate n 0) ≡
    (if b then xs else replicate n 0)
part_or true xs more n e = take_seam xs more n (sym e)
part_or false xs more n e = refl

part_size : (b : Bool) (xs : List ℕ) (n : ℕ) → length xs ≡ n → length (if b then xs else []) ≡ (if b then n else 0)
part_size true xs n e = e
part_size false xs n e = refl

part_fits : (b : Bool) (xs more : List ℕ) (n : ℕ) → length xs ≡ n → b ≡ true → n ≤ length ((if b then xs else []) ++ more)
part_fits true xs more n e h = let sum = length-append xs more in omega arith
part_fits false xs more n e h = cc

pub bit_is : (b : Bool) → (bit 1 b == 1) ≡ b
bit_is true = refl
bit_is false = refl

-- ---- an element at the head of the bytes
module _ (shape : MapShape) (cpus : ℕ) (bytes : List ℕ) (runs : List Runs) (t : Rows) (i : ℕ) (more : List ℕ)
    (at : IsBlockAt shape cpus bytes runs t i more) where
  abbrev marks : List ℕ
  marks = marks_of runs t i

  abbrev used : Bool
  used = is_linked t i || is_noted runs t i

  abbrev key_bytes : List ℕ
  key_bytes = if is_linked t i then key_of t i else []

  abbrev value_bytes : List ℕ
  value_bytes = if used then bytes_of t i else []

  marks_count : 1 + cpus ≡ length marks
  marks_count = let many = singles (x runs t i) (length runs) in let served = at.served in omega arith

  whole : bytes ≡ marks ++ (key_bytes ++ (value_bytes ++ more))
  whole = at.begins ∙ (append_assoc marks (key_bytes ++ value_bytes) more ∙ ap (λ (bs : List ℕ). marks ++ bs) (append_assoc key_bytes value_bytes more))

  key_length : length (key_of t i) ≡ shape.key
  key_length = key_size t i at.table at.inside ∙ ap (λ (h : MapShape). h.key) at.shaped

  value_length : length (bytes_of t i) ≡ shape.value
  value_length = bytes_size t i at.table at.inside ∙ ap (λ (h : MapShape). h.value) at.shaped

  pub long : 1 + cpus ≤ length bytes
  long =
      let sum = length-append marks (key_bytes ++ (value_bytes ++ more)) in
      let e = ap (λ (bs : List ℕ). length bs) whole in
      omega (arith, sum, e, marks_count)

  pub marks_at : take (1 + cpus) bytes ≡ marks
  marks_at = ap (take (1 + cpus)) whole ∙ take_seam marks (key_bytes ++ (value_bytes ++ more)) (1 + cpus) marks_count

  pub content_at : drop (1 + cpus) bytes ≡ key_bytes ++ (value_bytes ++ more)
  content_at = ap (drop (1 + cpus)) whole ∙ drop_seam marks (key_bytes ++ (value_bytes ++ more)) (1 + cpus) marks_count

  pub linked_at : (slice_index (take (1 + cpus) bytes) 0 == 1) ≡ is_linked t i
  linked_at = ap (λ (bs : List ℕ). slice_index bs 0 == 1) marks_at ∙ bit_is (is_linked t i)

  pub notes_at : drop 1 (take (1 + cpus) bytes) ≡ notes_of runs t i
  notes_at = ap (drop 1) marks_at

  pub key_at : (if is_linked t i then take shape.key (drop (1 + cpus) bytes) else replicate shape.key 0) ≡ normal_key t i
  key_at =
      ap (λ (bs : List ℕ). if is_linked t i then take shape.key bs else replicate shape.key 0) content_at
      ∙ (part_or (is_linked t i) (key_of t i) (value_bytes ++ more) shape.key key_length ∙ ap
      (λ (h : MapShape). if is_linked t i then key_of t i else replicate h.key 0) (sym at.shaped))

  pub key_fits : is_linked t i ≡ true → shape.key ≤ length (drop (1 + cpus) bytes)
  key_fits linked = subst (λ (bs : List ℕ). shape.key ≤ length bs) (sym content_at)
      (part_fits (is_linked t i) (key_of t i) (value_bytes ++ more) shape.key key_length linked)

  abbrev key_there : ℕ
  key_there = if is_linked t i then shape.key else 0

  pub behind_key : drop key_there (drop (1 + cpus) bytes) ≡ value_bytes ++ more
  behind_key = ap (drop key_there) content_at ∙ drop_seam key_bytes (value_bytes ++ more) key_there
      (sym (part_size (is_linked t i) (key_of t i) shape.key key_length))

  pub key_inside : key_there ≤ length (drop (1 + cpus) bytes)
  key_inside =
      let sum = length-append key_bytes (value_bytes ++ more) in
      let size = part_size (is_linked t i) (key_of t i) shape.key key_length in
      let e = ap (λ (bs : List ℕ). length bs) content_at in
      omega (arith, sum, size, e)

  pub value_at : (if used then take shape.value (drop key_there (drop (1 + cpus) bytes)) else replicate shape.value 0) ≡ normal_value runs t i
  value_at =
      ap (λ (bs : List ℕ). if used then take shape.value bs else replicate shape.value 0) behind_key
      ∙ (part_or used (bytes_of t i) more shape.value value_length ∙ ap (λ (h : MapShape). if used then bytes_of t i else replicate h.value 0) (sym at.shaped))

  pub value_fits : used ≡ true → shape.value ≤ length (drop key_there (drop (1 + cpus) bytes))
  value_fits is = subst (λ (bs : List ℕ). shape.value ≤ length bs) (sym behind_key) (part_fits used (bytes_of t i) more shape.value value_length is)

  pub block_length : 1 + cpus + key_there + (if used then shape.value else 0) ≡ length (block_of runs t i)
  block_length =
      let a = length-append marks (key_bytes ++ value_bytes) in
      let b = length-append key_bytes value_bytes in
      let c = part_size (is_linked t i) (key_of t i) shape.key key_length in
      let d = part_size used (bytes_of t i) shape.value value_length in
      omega (arith, a, b, c, d, marks_count)

  pub block_inside : length (block_of runs t i) ≤ length bytes
  block_inside =
      let sum = length-append (block_of runs t i) more in
      let e = ap (λ (bs : List ℕ). length bs) at.begins in
      omega (arith, sum, e)
