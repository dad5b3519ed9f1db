-- The index of an array's value at an address.
use Rattle.std.proofs.Common.{◌≡◌, ℕ, ◌≤◌, subst}
use Rattle.bpf_shared.specs.declared.shapes.ArrayShape.{ArrayShape}
use Rattle.bpf_shared.specs.Shape.{Shape, IsShape}
use Rattle.bpf_helpers.specs.Arrays.{IsInArray, area_of}

-- an array that has the address is as large as an array may be
pub sized : (h k : Shape) (g : ArrayShape) (a : ℕ) → IsShape k → k ≡ h → (p : IsInArray h a 1) × (p.array ≡ g) → (g.value ≤ 65536) × (g.max ≤ 65536)
sized h k g a shape same there =
    let s : IsShape h = subst IsShape same shape in
    let each = (s.arrays (area_of a) there.0.array there.0.is).0 in
    subst (λ (x : ArrayShape). (x.value ≤ 65536) × (x.max ≤ 65536)) there.1 (each.value.1, each.max.1)
