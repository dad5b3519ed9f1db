-- Where values lie: how far a map's elements reach, and the element that an address is in.
use Rattle.std.proofs.Common.{◌≡◌, ℕ, ◌+◌, ◌-◌, ◌*◌, ◌/◌, ◌%◌, ◌<◌, ◌≤◌, ap, ◌∙◌, arith}
use Rattle.std.proofs.Math.Nat.{mul-le-mul}
use Rattle.std.proofs.lemmas.Nat.{div-mul-add, div-add-mod'}
use Rattle.bpf_shared.specs.declared.shapes.MapShape.{MapShape}
use Rattle.bpf_shared.specs.Shape.{IsMapShape, IsIn, elements, element_span, element_stride}

pub stride_most : (g : MapShape) → IsMapShape g → (element_stride g ≤ 256) × (g.value ≤ element_stride g)
stride_most g s = let a = s.value.0 in let b = s.value.1 in (omega arith, omega arith)

pub reach_most : (g : MapShape) (e : ℕ) → IsMapShape g → e < elements g → e * element_stride g ≤ 131071 * 256
reach_most g e s l = let a = s.max.1 in let b = s.spare in let t : e ≤ 131071 = omega arith in mul-le-mul t (stride_most g s).0

-- what the code computes of an address
pub reached : (m i a : ℕ) (g : MapShape) → IsMapShape g → i < elements g → IsIn a (element_span m g i)
    → ((a - 0x10_0000_0000) / 0x1000_0000 ≡ m)
    × ((a - 0x10_0000_0000) % 0x1000_0000 / element_stride g ≡ i)
    × ((a - 0x10_0000_0000) % 0x1000_0000 % element_stride g ≡ a - (element_span m g i).at)
reached m i a g sg l x =
    let far = reach_most g i sg l in
    let v = (stride_most g sg).1 in
    let w = (stride_most g sg).0 in
    let low = sg.value.0 in
    let x0 = x.0 in let x1 = x.1 in
    let off : ℕ = a - (element_span m g i).at in
    let small : off < element_stride g = omega arith in
    let rest : (a - 0x10_0000_0000) % 0x1000_0000 ≡ i * element_stride g + off = omega arith in
    let quotient : (i * element_stride g + off) / element_stride g ≡ i = div-mul-add i (element_stride g) off small in
    let whole : (i * element_stride g + off) / element_stride g * element_stride g + (i * element_stride g + off) % element_stride g ≡ i *
    element_stride g + off = div-add-mod' (i * element_stride g + off) (element_stride g) in
    let at : (i * element_stride g + off) / element_stride g * element_stride g ≡ i * element_stride g = ap (λ (k : ℕ). k * element_stride g) quotient in (
      omega arith,
      ap (λ (k : ℕ). k / element_stride g) rest ∙ quotient,
      ap (λ (k : ℕ). k % element_stride g) rest ∙ omega arith,
    )
