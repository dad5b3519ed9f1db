-- Places in fixed values, and where their bytes are.
use Rattle.std.proofs.Common.{◌≡◌, ℕ, Bool, true, false, ◌+◌, ◌-◌, ◌*◌, ◌<◌, ◌≤◌, List, length, take, drop, get_or, Option, Some, None}
use Rattle.std.proofs.Common.{slice_get, inl, inr, ap, sym, subst, ◌∙◌, arith}
use Rattle.std.proofs.lemmas.List.{take-take, drop-drop, drop-take}
use Rattle.std.proofs.lemmas.Option.{slice_get_within, slice_get-get_or}
use Rattle.std.specs.Option.{IfNone}
use Rattle.std.specs.Prelude.{IfSome}
use Rattle.bpf_shared.specs.declared.events.Size.{Size}
use Rattle.bpf_shared.specs.declared.events.Size.TheVariants.{Byte, Half, Word, Double}
use Rattle.bpf_shared.specs.Access.{bytes_in}
use Rattle.bpf_base.specs.Bytes.{part}
use Rattle.bpf_shared.specs.declared.events.Span.{Span}
use Rattle.bpf_shared.specs.declared.shapes.ArrayShape.{ArrayShape}
use Rattle.bpf_shared.specs.Shape.{Shape, IsShape, IsArray, IsArrayShape, IsValueSpan, contents_of, array_stride, copies, copy_size, copy_stride, fixed_span}
use Rattle.bpf_shared.specs.Passage.{IsHeldPlace, IsFixedPlace, IsReadable, IsWritable}
use Rattle.bpf_shared.proofs.Fixed.{IsReached, copy_fits, fixed_reached, value_fits}
use Rattle.bpf_plain.specs.Private.Contents.{Contents, bytes_of, offset_in, IsStore}
use Rattle.bpf_plain.specs.Private.Places.{array_at, offset_at}

-- a part of a part
pub part-part : (xs : List ℕ) (x m y n : ℕ) → y + n ≤ m → part (part xs x m) y n ≡ part xs (x + y) n
part-part xs x m y n l =
    let whole : y + (m - y) ≡ m = omega arith in
    ap (λ (k : ℕ). take n (drop y (take k (drop x xs)))) (sym whole)
    ∙ (ap (take n) (drop-take y (m - y) (drop x xs))
    ∙ (take-take n (m - y) (drop y (drop x xs)) (omega arith) ∙ ap (take n) (drop-drop y x xs)))

-- the value of an index lies within an array's bytes
pub value_inside : (cpus k i : ℕ) (g : ArrayShape) → k < copies cpus g → i < g.max → offset_in g k i + g.value ≤ copies cpus g * copy_stride g
value_inside cpus k i g has_copy has_index = go (array_stride g) (copy_stride g) (copies cpus g) (value_fits cpus g) (copy_fits cpus g) has_copy
  where
    go : (s c j : ℕ) → g.value ≤ s → s * g.max ≤ c → k < j → k * c + i * s + g.value ≤ j * c
    go s c j fits block below =
        let row : (i + 1) * s ≤ g.max * s = Rattle.std.proofs.Math.Nat.mul-le-mul_right s (let l : i + 1 ≤ g.max = omega arith in l) in
        let up : (k + 1) * c ≤ j * c = Rattle.std.proofs.Math.Nat.mul-le-mul_right c (let l : k + 1 ≤ j = omega arith in l) in
        let one : (i + 1) * s ≡ i * s + s = grind arith in
        let two : (k + 1) * c ≡ k * c + c = grind arith in
        let turned : g.max * s ≡ s * g.max = grind arith in
        omega arith

pub some_bytes : (size : Size) → 0 < bytes_in size
some_bytes Byte = omega arith
some_bytes Half = omega arith
some_bytes Word = omega arith
some_bytes Double = omega arith

-- what a store's shape says of one of its arrays
pub array_in_range : (h : Shape) → IsShape h → (a : ℕ) (o : Option ArrayShape) → o ≡ slice_get h.arrays a → IfSome o (λ g. (a < 16) × IsArrayShape h.cpus g)
array_in_range h is a None e = tt
array_in_range h is a (Some g) e =
    let there : IsArray h.arrays a g = sym e in
    let inside = slice_get_within h.arrays a g there in
    let few = is.array_count in
    (omega arith, (is.arrays a g there).0)

pub array_sized : (h : Shape) → IsShape h → (gs : List ArrayShape) → gs ≡ h.arrays → (n cpus : ℕ) (d : ArrayShape) → cpus ≡ h.cpus → n < length gs
    → IsArray h.arrays n (get_or gs n d) × IsArrayShape cpus (get_or gs n d) × (length (contents_of h n) ≤ copy_size (get_or gs n d))
array_sized h is gs same n cpus d served l =
    let there : IsArray h.arrays n (get_or gs n d) = subst (λ (xs : List ArrayShape). slice_get xs n ≡ Some (get_or gs n d)) same (slice_get-get_or gs n d l) in
    let sized = is.arrays n (get_or gs n d) there in
    (there, subst (λ (k : ℕ). IsArrayShape k (get_or gs n d)) (sym served) sized.0, sized.1)

-- a CPU's values take some bytes
pub stride_some : (cpus : ℕ) (g : ArrayShape) → IsArrayShape cpus g → 0 < copy_stride g
stride_some cpus g sized = go (array_stride g) (value_fits cpus g) (copy_fits cpus g)
  where
    go : (s : ℕ) → g.value ≤ s → s * g.max ≤ copy_stride g → 0 < copy_stride g
    go s wide block =
        let some = sized.value.0 in
        let row : s * 1 ≤ s * g.max = Rattle.std.proofs.Math.Nat.mul-le-mul_left s sized.max.0 in
        omega arith

pub if_none : {X P Q : Type 0} (o : Option X) → IfNone o P → (P → Q) → IfNone o Q
if_none None p f = f p
if_none (Some x) p f = tt

-- ---- which places are held, and which are fixed
pub fixed_high : (h : Shape) (a n : ℕ) → IsFixedPlace h a n → 0x10_0000_0000 + 0x1000_0000 * 16 ≤ a
fixed_high h a n place = let from = place.covers.0 in omega arith

pub held_low : (held : Span → Bool) (a n : ℕ) → 0 < n → ((q : Span) → held q ≡ true → IsValueSpan q) → IsHeldPlace held a n → a <
    0x10_0000_0000 + 0x1000_0000 * 16
held_low held a n some low place = let to = (low place.span place.holds).to in let end = place.covers.1 in omega arith

module _ (h : Shape) (held : Span → Bool) (a n : ℕ) where
  pub held_read : a < 0x10_0000_0000 + 0x1000_0000 * 16 → IsReadable h held a n → IsHeldPlace held a n
  held_read below (inl place) = place
  held_read below (inr place) = absurd (let above = fixed_high h a n place in omega arith)

  pub held_write : a < 0x10_0000_0000 + 0x1000_0000 * 16 → IsWritable h held a n → IsHeldPlace held a n
  held_write below (inl place) = place
  held_write below (inr place) = absurd (let above = fixed_high h a n place.0 in omega arith)

  pub fixed_read : 0 < n → ((q : Span) → held q ≡ true → IsValueSpan q) → 0x10_0000_0000 + 0x1000_0000 * 16 ≤ a → IsReadable h held a n → IsFixedPlace h a n
  fixed_read some low above (inl place) = absurd (let below = held_low held a n some low place in omega arith)
  fixed_read some low above (inr place) = place

  pub fixed_write : 0 < n → ((q : Span) → held q ≡ true → IsValueSpan q) → 0x10_0000_0000 + 0x1000_0000 * 16 ≤ a → IsWritable h held a n →
      (p : IsFixedPlace h a n) × (p.array.frozen ≡ false)
  fixed_write some low above (inl place) = absurd (let below = held_low held a n some low place in omega arith)
  fixed_write some low above (inr place) = place

module _ (p : Contents) (is : IsStore p) (a n : ℕ) (some : 0 < n) (place : IsFixedPlace p.shape a n) where
  abbrev span : Span
  span = fixed_span place.number place.array place.copy place.index

  reached_there : IsReached place.number place.copy place.index a place.array
  reached_there =
      let from = place.covers.0 in
      let to = place.covers.1 in
      fixed_reached p.shape.cpus place.number place.copy place.index a place.array is.shape.cpus.1
      (is.shape.arrays place.number place.array place.is).0 place.has_copy place.has_index (from, omega arith)

  pub array-is : array_at a ≡ place.number
  array-is = let area = reached_there.area in omega arith

  pub offset-is : offset_at a ≡ offset_in place.array place.copy place.index + (a - span.at)
  offset-is = let within = reached_there.within in omega arith

  pub within : a - span.at + n ≤ place.array.value
  within = let from = place.covers.0 in let to = place.covers.1 in omega arith

  size : length (bytes_of p place.number) ≡ copies p.shape.cpus place.array * copy_stride place.array
  size = (is.arrays.each place.number place.array place.is).size

  pub inside : offset_at a + n ≤ length (bytes_of p (array_at a))
  inside =
      let fits = value_inside p.shape.cpus place.copy place.index place.array place.has_copy place.has_index in
      subst (λ (b : ℕ). offset_at a + n ≤ length (bytes_of p b)) (sym array-is) (let w = within in let o = offset-is in let z = size in omega arith)

  pub array_there : array_at a < length p.arrays
  array_there =
      let l = slice_get_within p.shape.arrays place.number place.array place.is in
      let same = array-is in
      let count = is.arrays.count in
      omega arith
