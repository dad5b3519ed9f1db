-- Fixed values: their numbers, and that no two of them have an address in common.
use Rattle.std.proofs.Common.{◌≡◌, ◌≢◌, ℕ, ◌+◌, ◌-◌, ◌*◌, ◌/◌, ◌%◌, ◌<◌, ◌≤◌, nat_lt, Bool, true, false, ◌&&◌, List, ◌++◌, length, drop}
use Rattle.std.proofs.Common.{replicate, Option, Some, None, if◌then◌else◌, slice_get, refl, sym, ap, subst, ◌∙◌, arith, length-append}
use Rattle.std.proofs.Common.{length-drop}
use Rattle.std.proofs.Math.Nat.{mul-le-mul, add-mul}
use Rattle.std.proofs.lemmas.Nat.{div-mul-add, mod-mul-add, mul-add-lt, div-add-mod'}
use Rattle.std.proofs.lemmas.Bool.Decides.{nat_tests}
use Rattle.std.proofs.lemmas.List.{length-take-le, length-replicate}
use Rattle.std.proofs.lemmas.Option.{slice_get_within}
use Rattle.bpf_shared.specs.declared.shapes.ArrayShape.{ArrayShape}
use Rattle.bpf_shared.specs.declared.shapes.MapShape.{MapShape}
use Rattle.bpf_shared.specs.Shape.{Shape, IsShape, IsArray, IsArrayShape, IsMapShape, IsWithin, IsIn, IsApart, copies, array_stride}
use Rattle.bpf_shared.specs.Shape.{copy_size, copy_stride, contents_of, elements, element_span, fixed_span}
use Rattle.bpf_shared.specs.Store.{Value, array_of, copy_of, index_of, fixed_number, fixed_count, IsFixed, IsFrozen, first_bytes, no_value}
use Rattle.bpf_shared.specs.Store.{value_in_array, fixed_value}
use Rattle.bpf_shared.specs.Passage.{IsFixedPlace}
use Rattle.bpf_shared.proofs.Places.{reached}

-- ---- numbers
pub number_back : (v : ℕ) → fixed_number (array_of v) (copy_of v) (index_of v) ≡ v
number_back v = omega arith

pub array_of-number : (a k i : ℕ) → k < 16 → i < 0x1_0000 → array_of (fixed_number a k i) ≡ a
array_of-number a k i l m = omega arith

pub copy_of-number : (a k i : ℕ) → k < 16 → i < 0x1_0000 → copy_of (fixed_number a k i) ≡ k
copy_of-number a k i l m = omega arith

pub index_of-number : (a k i : ℕ) → i < 0x1_0000 → index_of (fixed_number a k i) ≡ i
index_of-number a k i m = omega arith

pub same_array : (arrays : List ArrayShape) (a : ℕ) (g h : ArrayShape) → IsArray arrays a g → IsArray arrays a h → g ≡ h
same_array arrays a g h p q = let k : Some g ≡ Some h = sym p ∙ q in cc

below_count : (h : Shape) (v : ℕ) (g : ArrayShape) → IsArray h.arrays (array_of v) g → v < fixed_count h
below_count h v g is = let l = slice_get_within h.arrays (array_of v) g is in omega arith

pub fixed_below : (h : Shape) (v : ℕ) → IsFixed h v → v < fixed_count h
fixed_below h v f = below_count h v f.array f.is

pub frozen_below : (h : Shape) (v : ℕ) → IsFrozen h v → v < fixed_count h
frozen_below h v f = below_count h v f.0 f.1

-- ---- sizes
module _ (cpus : ℕ) (g : ArrayShape) where
  pub copies_most : cpus ≤ 16 → copies cpus g ≤ 16
  copies_most few = go g.per_cpu
    where
      go : (b : Bool) → (if b then cpus else 1) ≤ 16
      go true = few
      go false = omega arith

  pub value_fits : g.value ≤ array_stride g
  value_fits = omega arith

  pub copy_fits : copy_size g ≤ copy_stride g
  copy_fits = up (copy_size g)
    where
      up : (n : ℕ) → n ≤ (n + 63) / 64 * 64
      up n = omega arith

  pub whole_fits : cpus ≤ 16 → IsArrayShape cpus g → copy_stride g * copies cpus g ≤ 0x1000_0000
  whole_fits few sized =
      let few_copies = copies_most few in
      let up : copy_stride g ≤ copy_size g + 63 = least (copy_size g) in
      let more : copy_stride g * copies cpus g ≤ (copy_size g + 63) * copies cpus g = mul-le-mul up
      (let l : copies cpus g ≤ copies cpus g = omega arith in l) in
      parted (copy_stride g * copies cpus g) (copy_size g) (copies cpus g) few_copies sized.whole more
    where
      least : (n : ℕ) → (n + 63) / 64 * 64 ≤ n + 63
      least n = omega arith

      parted : (x n j : ℕ) → j ≤ 16 → n * j ≤ 0x100_0000 → x ≤ (n + 63) * j → x ≤ 0x1000_0000
      parted x n j few small l = let e = add-mul n 63 j in omega arith

-- ---- addresses
-- of an address in the i-th of n values, s bytes from one to the next, of the k-th of j blocks, c
-- bytes from one to the next, in the b-th area
module _ (b k i j n s c off x : ℕ) (has_block : k < j) (has_index : i < n) (small : off < s)
    (block : s * n ≤ c) (whole : c * j ≤ 0x1000_0000)
    (is : x ≡ 0x10_0000_0000 + 0x1000_0000 * b + (k * c + (i * s + off))) where
  inner : i * s + off < c
  inner = let row = mul-add-lt i s off n has_index small in omega arith

  far : k * c + (i * s + off) < 0x1000_0000
  far = let all = mul-add-lt k c (i * s + off) j has_block inner in omega arith

  pub area_is : (x - 0x10_0000_0000) / 0x1000_0000 ≡ b
  area_is = let l = far in omega arith

  pub within_is : (x - 0x10_0000_0000) % 0x1000_0000 ≡ k * c + (i * s + off)
  within_is = let l = far in omega arith

  pub block_is : (x - 0x10_0000_0000) % 0x1000_0000 / c ≡ k
  block_is = ap (λ (y : ℕ). y / c) within_is ∙ div-mul-add k c (i * s + off) inner

  pub row_is : (x - 0x10_0000_0000) % 0x1000_0000 % c ≡ i * s + off
  row_is = ap (λ (y : ℕ). y % c) within_is ∙ mod-mul-add k c (i * s + off) inner

  pub index_is : (x - 0x10_0000_0000) % 0x1000_0000 % c / s ≡ i
  index_is = ap (λ (y : ℕ). y / s) row_is ∙ div-mul-add i s off small

-- what an address in a fixed value says of it
pub record IsReached (a k i x : ℕ) (g : ArrayShape) : Type 0 where
  pub area : (x - 0x10_0000_0000) / 0x1000_0000 ≡ 16 + a
  pub within : (x - 0x10_0000_0000) % 0x1000_0000 ≡ k * copy_stride g + (i * array_stride g + (x - (fixed_span a g k i).at))
  pub block : (x - 0x10_0000_0000) % 0x1000_0000 / copy_stride g ≡ k
  pub index : (x - 0x10_0000_0000) % 0x1000_0000 % copy_stride g / array_stride g ≡ i

-- an address in a span of v bytes, by its offset there
offset_is : (b k c i s v at x : ℕ) → at ≡ 0x10_0000_0000 + 0x1000_0000 * b + k * c + i * s → v ≤ s → at ≤ x → x < at + v
    → (x - at < s) × (x ≡ 0x10_0000_0000 + 0x1000_0000 * b + (k * c + (i * s + (x - at))))
offset_is b k c i s v at x e l from to = (omega arith, omega arith)

pub fixed_reached : (cpus a k i x : ℕ) (g : ArrayShape) → cpus ≤ 16 → IsArrayShape cpus g → k < copies cpus g → i < g.max → IsIn x
    (fixed_span a g k i) → IsReached a k i x g
fixed_reached cpus a k i x g few sized has_copy has_index inside =
    let s = array_stride g in
    let c = copy_stride g in
    let off = x - (fixed_span a g k i).at in
    let o = offset_is (16 + a) k c i s g.value (fixed_span a g k i).at x refl (value_fits cpus g) inside.0 inside.1 in
    let fits = copy_fits cpus g in
    let whole = whole_fits cpus g few sized in
    record {
      area = area_is (16 + a) k i (copies cpus g) g.max s c off x has_copy has_index o.0 fits whole o.1;
      within = within_is (16 + a) k i (copies cpus g) g.max s c off x has_copy has_index o.0 fits whole o.1;
      block = block_is (16 + a) k i (copies cpus g) g.max s c off x has_copy has_index o.0 fits whole o.1;
      index = index_is (16 + a) k i (copies cpus g) g.max s c off x has_copy has_index o.0 fits whole o.1;
    }

-- ---- the values that a store has at first
both_below : (a b c d : ℕ) → a < b → c < d → (nat_lt a b && nat_lt c d) ≡ true
both_below a b c d l m = grind (arith, nat_tests)

abbrev pub value_there : Shape → ℕ → ArrayShape → Value
value_there h v g = record {
  bytes = first_bytes (contents_of h (array_of v)) (index_of v * array_stride g) g.value;
  span = fixed_span (array_of v) g (copy_of v) (index_of v);
}

pub fixed_is : (h : Shape) (v : ℕ) (f : IsFixed h v) → fixed_value h v ≡ value_there h v f.array
fixed_is h v f =
    ap (value_in_array h v) f.is
    ∙ ap (λ (b : Bool). if b then value_there h v f.array else no_value)
    (both_below (copy_of v) (copies h.cpus f.array) (index_of v) f.array.max f.copy f.index)

pub length-first_bytes : (bytes : List ℕ) (at n : ℕ) → length (first_bytes bytes at n) ≡ n
length-first_bytes bytes at n =
    length-take-le n (drop at (bytes ++ replicate (at + n) 0))
    (omega (arith, length-drop at (bytes ++ replicate (at + n) 0), length-append bytes (replicate (at + n) 0), length-replicate {A = ℕ} (at + n) 0))

pub fixed_size : (h : Shape) (v : ℕ) → length (fixed_value h v).bytes ≡ (fixed_value h v).span.size
fixed_size h v = go (slice_get h.arrays (array_of v))
  where
    pick : (g : ArrayShape) (b : Bool) → length (if b then value_there h v g else no_value).bytes ≡ (if b then value_there h v g else no_value).span.size
    pick g true = length-first_bytes (contents_of h (array_of v)) (index_of v * array_stride g) g.value
    pick g false = refl

    go : (o : Option ArrayShape) → length (value_in_array h v o).bytes ≡ (value_in_array h v o).span.size
    go None = refl
    go (Some g) = pick g (nat_lt (copy_of v) (copies h.cpus g) && nat_lt (index_of v) g.max)

-- ---- apart
module _ (h : Shape) (is : IsShape h) where
  -- what an address says of the fixed value that it is in
  pub reached_fixed : (v x : ℕ) (f : IsFixed h v) → IsIn x (fixed_value h v).span → IsReached (array_of v) (copy_of v) (index_of v) x f.array
  reached_fixed v x f inside =
      fixed_reached h.cpus (array_of v) (copy_of v) (index_of v) x f.array is.cpus.1 (is.arrays (array_of v) f.array f.is).0 f.copy f.index
      (subst (λ (y : Value). IsIn x y.span) (fixed_is h v f) inside)

  -- two fixed values that have an address in common are one
  pub fixed_one : (v w x : ℕ) → IsFixed h v → IsFixed h w → IsIn x (fixed_value h v).span → IsIn x (fixed_value h w).span → v ≡ w
  fixed_one v w x f k p q =
      let u = reached_fixed v x f p in
      let t = reached_fixed w x k q in
      let area : array_of v ≡ array_of w = (let y = u.area in let z = t.area in omega arith) in
      let same : f.array ≡ k.array = same_array h.arrays (array_of w) f.array k.array (subst (λ (a : ℕ). IsArray h.arrays a f.array) area f.is) k.is in
      let copy : copy_of v ≡ copy_of w = sym u.block ∙ (ap (λ (g : ArrayShape). (x - 0x10_0000_0000) % 0x1000_0000 / copy_stride g) same ∙ t.block) in
      let index : index_of v ≡ index_of w = sym u.index ∙ (ap (λ (g : ArrayShape). (x - 0x10_0000_0000) % 0x1000_0000 % copy_stride g /
      array_stride g) same ∙ t.index) in
      sym (number_back v) ∙ (ap (λ (a : ℕ). fixed_number a (copy_of v) (index_of v)) area
      ∙ (ap (λ (c : ℕ). fixed_number (array_of w) c (index_of v)) copy
      ∙ (ap (λ (i : ℕ). fixed_number (array_of w) (copy_of w) i) index ∙ number_back w)))

  pub fixed_apart : (v w : ℕ) → IsFixed h v → IsFixed h w → v ≢ w → IsApart (fixed_value h v).span (fixed_value h w).span
  fixed_apart v w f k ne = λ x p q. ne (fixed_one v w x f k p q)

  -- an element of a map lies apart from fixed values
  pub element_apart : (m i v : ℕ) (g : MapShape) → m < 16 → IsMapShape g → i < elements g → IsFixed h v → IsApart (element_span m g i) (fixed_value h v).span
  element_apart m i v g few sized inside f = λ x p q.
      let u = (reached_fixed v x f q).area in
      let t = (reached m i x g sized inside p).0 in
      omega arith

  -- ---- places
  -- the value that a fixed place is in
  abbrev pub place_number : (a n : ℕ) → IsFixedPlace h a n → ℕ
  place_number a n p = fixed_number p.number p.copy p.index

  place_few : (a n : ℕ) (p : IsFixedPlace h a n) → p.copy < 16
  place_few a n p = let l = copies_most h.cpus p.array is.cpus.1 in let k = p.has_copy in omega arith

  place_low : (a n : ℕ) (p : IsFixedPlace h a n) → p.index < 0x1_0000
  place_low a n p = let l = (is.arrays p.number p.array p.is).0.max.1 in let k = p.has_index in omega arith

  pub place_array : (a n : ℕ) (p : IsFixedPlace h a n) → array_of (place_number a n p) ≡ p.number
  place_array a n p = array_of-number p.number p.copy p.index (place_few a n p) (place_low a n p)

  pub place_copy : (a n : ℕ) (p : IsFixedPlace h a n) → copy_of (place_number a n p) ≡ p.copy
  place_copy a n p = copy_of-number p.number p.copy p.index (place_few a n p) (place_low a n p)

  pub place_index : (a n : ℕ) (p : IsFixedPlace h a n) → index_of (place_number a n p) ≡ p.index
  place_index a n p = index_of-number p.number p.copy p.index (place_low a n p)

  abbrev pub place_is : (a n : ℕ) (p : IsFixedPlace h a n) → IsFixed h (place_number a n p)
  place_is a n p = record {
    array = p.array;
    is = subst (λ (b : ℕ). IsArray h.arrays b p.array) (sym (place_array a n p)) p.is;
    copy = subst (λ (k : ℕ). k < copies h.cpus p.array) (sym (place_copy a n p)) p.has_copy;
    index = subst (λ (i : ℕ). i < p.array.max) (sym (place_index a n p)) p.has_index;
  }

  pub place_span : (a n : ℕ) (p : IsFixedPlace h a n) → (fixed_value h (place_number a n p)).span ≡ fixed_span p.number p.array p.copy p.index
  place_span a n p =
      ap (λ (y : Value). y.span) (fixed_is h (place_number a n p) (place_is a n p))
      ∙ (ap (λ (b : ℕ). fixed_span b p.array (copy_of (place_number a n p)) (index_of (place_number a n p))) (place_array a n p)
      ∙ (ap (λ (k : ℕ). fixed_span p.number p.array k (index_of (place_number a n p))) (place_copy a n p)
      ∙ ap (λ (i : ℕ). fixed_span p.number p.array p.copy i) (place_index a n p)))

  -- a value is read only where its array is
  pub place_frozen : (a n : ℕ) (p : IsFixedPlace h a n) → IsFrozen h (place_number a n p) → p.array.frozen ≡ true
  place_frozen a n p f =
      let same : f.0 ≡ p.array = same_array h.arrays p.number f.0 p.array (subst (λ (b : ℕ). IsArray h.arrays b f.0) (place_array a n p) f.1) p.is in
      sym (ap (λ (g : ArrayShape). g.frozen) same) ∙ f.2

-- ---- offsets
-- an offset in the i-th of m values, s bytes from one to the next, of the k-th block, c bytes from one to the next
module _ (k i m v s c o n : ℕ) (has_index : i < m) (fits : v ≤ s) (block : s * m ≤ c) (some : 1 ≤ n) (from : k * c + i * s ≤ o)
    (to : o + n ≤ k * c + i * s + v) where
  row_fits : i * s + (o - (k * c + i * s)) < c
  row_fits = let row = mul-add-lt i s (o - (k * c + i * s)) m has_index (omega arith) in omega arith

  whole_is : o ≡ k * c + (i * s + (o - (k * c + i * s)))
  whole_is = omega arith

  pub offset_block : o / c ≡ k
  offset_block = ap (λ (y : ℕ). y / c) whole_is ∙ div-mul-add k c (i * s + (o - (k * c + i * s))) row_fits

  row : o % c ≡ i * s + (o - (k * c + i * s))
  row = ap (λ (y : ℕ). y % c) whole_is ∙ mod-mul-add k c (i * s + (o - (k * c + i * s))) row_fits

  pub offset_index : o % c / s ≡ i
  offset_index = ap (λ (y : ℕ). y / s) row ∙ div-mul-add i s (o - (k * c + i * s)) (omega arith)

  pub offset_rest : o % c % s ≡ o - (k * c + i * s)
  offset_rest = ap (λ (y : ℕ). y % s) row ∙ mod-mul-add i s (o - (k * c + i * s)) (omega arith)

module _ (cpus : ℕ) (g : ArrayShape) (o n : ℕ) (some : 1 ≤ n) where
  -- what the code tests
  pub record IsTested : Type 0 where
    pub copy : o / copy_stride g < copies cpus g
    pub index : o % copy_stride g / array_stride g < g.max
    pub rest : o % copy_stride g % array_stride g + n ≤ g.value

  pub within_tested : IsWithin cpus g o n → IsTested
  within_tested w =
      let s = array_stride g in
      let c = copy_stride g in
      let fits = value_fits cpus g in
      let block = copy_fits cpus g in
      let b : o / c ≡ w.copy = offset_block w.copy w.index g.max g.value s c o n w.has_index fits block some w.from w.to in
      let i : o % c / s ≡ w.index = offset_index w.copy w.index g.max g.value s c o n w.has_index fits block some w.from w.to in
      let r : o % c % s ≡ o - (w.copy * c + w.index * s) = offset_rest w.copy w.index g.max g.value s c o n w.has_index fits block some w.from w.to in
      record {
        copy = subst (λ (k : ℕ). k < copies cpus g) (sym b) w.has_copy;
        index = subst (λ (k : ℕ). k < g.max) (sym i) w.has_index;
        rest = subst (λ (k : ℕ). k + n ≤ g.value) (sym r) (left (w.copy * c + w.index * s) g.value w.from w.to);
      }
    where
      left : (at v : ℕ) → at ≤ o → o + n ≤ at + v → o - at + n ≤ v
      left at v from to = omega arith

  pub tested_within : IsTested → IsWithin cpus g o n
  tested_within t =
      let s = array_stride g in
      let c = copy_stride g in
      let blocks = div-add-mod' o c in
      let rows = div-add-mod' (o % c) s in
      let at = whole (o / c * c) (o % c) (o % c / s * s) (o % c % s) g.value blocks rows t.rest in
      record { copy = o / c; index = o % c / s; has_copy = t.copy; has_index = t.index; from = at.0; to = at.1 }
    where
      whole : (b r i e v : ℕ) → b + r ≡ o → i + e ≡ r → e + n ≤ v → (b + i ≤ o) × (o + n ≤ b + i + v)
      whole b r i e v x y l = (omega arith, omega arith)
