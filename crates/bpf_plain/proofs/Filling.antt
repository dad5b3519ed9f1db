-- Arrays' bytes as they are at first.
use Rattle.std.proofs.Common.{◌≡◌, ℕ, zero, suc, ◌+◌, ◌-◌, ◌*◌, ◌/◌, ◌%◌, ◌<◌, ◌≤◌, List, ◌++◌, length, drop, replicate, get_or, inl, inr}
use Rattle.std.proofs.Common.{refl, ap, sym, ◌∙◌, arith}
use Rattle.std.proofs.lemmas.Bool.{cases_lt}
use Rattle.std.proofs.lemmas.List.{ext_get_or, get_or_past, get_or-take, get_or-drop, get_or_append_left, get_or-append_right}
use Rattle.std.proofs.lemmas.Nat.{div-add-mod', div_below, mod_below}
use Rattle.bpf_base.specs.Bytes.{with_part}
use Rattle.bpf_base.proofs.Parts.{length-with_part}
use Rattle.bpf_shared.specs.declared.shapes.ArrayShape.{ArrayShape}
use Rattle.bpf_shared.specs.Shape.{array_stride, copies, copy_stride}
use Rattle.bpf_shared.specs.Store.{first_bytes}
use Rattle.bpf_shared.proofs.Puts.{equal_or_not}
use Rattle.bpf_shared.proofs.Fixed.{copy_fits, value_fits, length-first_bytes}
use Rattle.bpf_hash.proofs.Blocks.{block_fits, next_block, suc-mul, get_or-before, get_or-inside, get_or-behind, get_or-part, length-part}
use Rattle.bpf_plain.specs.Private.Contents.{IsAsMade, IsFilled, offset_in, value_in}
use Rattle.bpf_plain.proofs.Places.{value_inside}

pub zeros : (n k : ℕ) → get_or {A = ℕ} (replicate n 0) k 0 ≡ 0
zeros zero k = refl
zeros (suc n) zero = refl
zeros (suc n) (suc k) = zeros n k

-- ---- one copy more
module _ (stride copy count : ℕ) (first bytes : List ℕ) (size : length bytes ≡ count * stride) (fits : length first ≤ stride) (l : copy < count) where
  pub room : copy * stride + length first ≤ length bytes
  room = let b = block_fits copy count stride l in omega arith

  pub one_more : ((k o : ℕ) → k < copy → o < stride → get_or bytes (k * stride + o) 0 ≡ get_or first o 0) → ((x : ℕ) → copy * stride ≤ x → get_or bytes x 0 ≡ 0)
      → (k o : ℕ) → k < copy + 1 → o < stride → get_or (with_part bytes (copy * stride) first) (k * stride + o) 0 ≡ get_or first o 0
  one_more front blank k o below inside = elim (equal_or_not k copy) [
    | inr ne ↦
        let less : k < copy = elim (cases_lt k copy) [ inl m ↦ m | inr m ↦ absurd (ne (omega arith)) ] in
        let before = next_block k copy stride less in
        get_or-before bytes first (copy * stride) room (k * stride + o) (omega arith) ∙ front k o less inside
    | inl e ↦
        let here : k * stride + o ≡ copy * stride + o = ap (λ (x : ℕ). x * stride + o) e in
        ap (λ (x : ℕ). get_or (with_part bytes (copy * stride) first) x 0) here
        ∙ elim (cases_lt o (length first)) [
          | inl m ↦ get_or-inside bytes first (copy * stride) room o m
          | inr m ↦ get_or-behind bytes first (copy * stride) room (copy * stride + o) (omega arith) ∙
              (blank (copy * stride + o) (omega arith) ∙ sym (get_or_past first o 0 m))
        ]
  ]

  pub none_after : ((x : ℕ) → copy * stride ≤ x → get_or bytes x 0 ≡ 0) → (x : ℕ) → (copy + 1) * stride ≤ x → get_or
      (with_part bytes (copy * stride) first) x 0 ≡ 0
  none_after blank x above = let m = suc-mul copy stride in get_or-behind bytes first (copy * stride) room x (omega arith) ∙ blank x (omega arith)

  -- the same of what the code left
  module _ (new : List ℕ) (put : new ≡ with_part bytes (copy * stride) first) where
    pub one_more_of : ((k o : ℕ) → k < copy → o < stride → get_or bytes (k * stride + o) 0 ≡ get_or first o 0) →
        ((x : ℕ) → copy * stride ≤ x → get_or bytes x 0 ≡ 0)
        → (k o : ℕ) → k < copy + 1 → o < stride → get_or new (k * stride + o) 0 ≡ get_or first o 0
    one_more_of front blank k o below inside = ap (λ (bs : List ℕ). get_or bs (k * stride + o) 0) put ∙ one_more front blank k o below inside

    pub none_after_of : ((x : ℕ) → copy * stride ≤ x → get_or bytes x 0 ≡ 0) → (x : ℕ) → (copy + 1) * stride ≤ x → get_or new x 0 ≡ 0
    none_after_of blank x above = ap (λ (bs : List ℕ). get_or bs x 0) put ∙ none_after blank x above

pub one_size : (first bytes new : List ℕ) (i : ℕ) → new ≡ with_part bytes i first → i + length first ≤ length bytes → length new ≡ length bytes
one_size first bytes new i put fits = ap (λ (bs : List ℕ). length bs) put ∙ length-with_part bytes i first fits

-- ---- the bytes of one value
first_at : (bytes : List ℕ) (at n j : ℕ) → j < n → get_or (first_bytes bytes at n) j 0 ≡ get_or bytes (at + j) 0
first_at bytes at n j l =
    let all = bytes ++ replicate (at + n) 0 in
    get_or-take n (drop at all) j 0 l
    ∙ (get_or-drop at all j 0
    ∙ elim (cases_lt (at + j) (length bytes)) [
      | inl k ↦ get_or_append_left bytes (replicate (at + n) 0) 0 (at + j) k
      | inr k ↦ get_or-append_right bytes (replicate (at + n) 0) (length bytes) (at + j) 0 refl k ∙
          (zeros (at + n) (at + j - length bytes) ∙ sym (get_or_past bytes (at + j) 0 k))
    ])

pub value_made : (cpus k i : ℕ) (g : ArrayShape) (first bytes : List ℕ) → k < copies cpus g → i < g.max → IsAsMade cpus g first bytes →
    first_bytes first (i * array_stride g) g.value ≡ value_in bytes g k i
value_made cpus k i g first bytes has_copy has_index made =
    let n = g.value in
    let at = i * array_stride g in
    let inside = value_inside cpus k i g has_copy has_index in
    let fits : offset_in g k i + n ≤ length bytes = (let size = made.size in omega arith) in
    let long = length-part bytes (offset_in g k i) n fits in
    let long_first = length-first_bytes first at n in
    ext_get_or 0 (first_bytes first at n) (value_in bytes g k i) (long_first ∙ sym long) (λ j l.
    let below : j < n = omega arith in
    let there : at + j < copy_stride g = in_copy (array_stride g) (value_fits cpus g) (copy_fits cpus g) j below in
    first_at first at n j below ∙ (sym (made.each k (at + j) has_copy there)
    ∙ (ap (λ (x : ℕ). get_or bytes x 0) (moved (k * copy_stride g) at j) ∙ sym (get_or-part bytes (offset_in g k i) n j below))))
  where
    moved : (x y z : ℕ) → x + (y + z) ≡ x + y + z
    moved x y z = omega arith

    in_copy : (s : ℕ) → g.value ≤ s → s * g.max ≤ copy_stride g → (j : ℕ) → j < g.value → i * s + j < copy_stride g
    in_copy s wide block j l =
        let row = block_fits i g.max s has_index in
        let turned : g.max * s ≡ s * g.max = grind arith in
        omega arith

-- ---- each byte
pub filled_at : (stride : ℕ) (first : List ℕ) (count : ℕ) (bytes : List ℕ) → IsFilled stride first count bytes → (x : ℕ) → x < length bytes
    → get_or bytes x 0 ≡ get_or first (x % stride) 0
filled_at stride first count bytes filled x l =
    let size = filled.size in
    let some : 0 < stride = elim (cases_lt 0 stride) [
      | inl m ↦ m
      | inr m ↦ absurd (let none : count * stride ≡ count * 0 = ap (λ (s : ℕ). count * s) (let z : stride ≡ 0 = omega arith in z) in omega arith)
    ] in
    let below : x < count * stride = omega arith in
    ap (λ (y : ℕ). get_or bytes y 0) (sym (div-add-mod' x stride)) ∙ filled.each (x / stride) (x % stride)
    (div_below x stride count some below) (mod_below x stride some)

-- there is one such list
pub filled_one : (stride : ℕ) (first : List ℕ) (count : ℕ) (bytes others : List ℕ) → IsFilled stride first count bytes → IsFilled stride
    first count others → bytes ≡ others
filled_one stride first count bytes others one two = ext_get_or 0 bytes others (one.size ∙ sym two.size) (λ x l.
    let s = one.size in
    let t = two.size in
    filled_at stride first count bytes one x (omega arith) ∙ sym (filled_at stride first count others two x (omega arith)))
