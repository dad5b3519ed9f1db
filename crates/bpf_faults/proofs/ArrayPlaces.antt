-- Where the values of arrays lie.
use Rattle.std.proofs.Common.{◌≡◌, ℕ, Bool, true, false, if◌then◌else◌, ◌*◌, ◌<◌, ◌≤◌, Option, Some, None, IfSome, sym, subst, arith}
use Rattle.std.proofs.Math.Nat.{mul-le-mul}
use Rattle.bpf_shared.specs.declared.shapes.ArrayShape.{ArrayShape}
use Rattle.bpf_shared.specs.Shape.{Shape, IsShape, IsArray, IsArrayShape, copies, array_stride, copy_stride, fixed_span}
use Rattle.bpf_shared.proofs.Fixed.{copy_fits}
use Rattle.bpf_helpers.specs.Arrays.{array_start}
use Rattle.bpf_helpers.proofs.ArrayPlaces.{fixed_low}

-- the sizes of an array
pub some_stride : (cpus : ℕ) (g : ArrayShape) → IsArrayShape cpus g → 1 ≤ array_stride g
some_stride cpus g sized = let some = sized.value.0 in omega arith

pub some_copy : (cpus : ℕ) (g : ArrayShape) → IsArrayShape cpus g → 1 ≤ copy_stride g
some_copy cpus g sized =
    let more : 1 * 1 ≤ array_stride g * g.max = mul-le-mul (some_stride cpus g sized) sized.max.0 in
    let fits = copy_fits cpus g in
    omega arith

-- what is known of an array that is found
pub found_facts : (h : Shape) (a : ℕ) (r : Option ArrayShape) → IsShape h → IfSome r (λ (g : ArrayShape). IsArray h.arrays a g)
    → IfSome r (λ (g : ArrayShape). IsArrayShape h.cpus g) × IfSome r (λ (g : ArrayShape). (1 ≤ g.value) × (g.value ≤ 65536))
    × IfSome r (λ (g : ArrayShape). (1 ≤ g.max) × (g.max ≤ 65536)) × IfSome r (λ (g : ArrayShape). (1 ≤ array_stride g) × (1 ≤ copy_stride g))
found_facts h a None is there = (tt, tt, tt, tt)
found_facts h a (Some g) is there =
    let sized = (is.arrays a g there).0 in
    (sized, sized.value, sized.max, (some_stride h.cpus g sized, some_copy h.cpus g sized))

pub copies_some : (n cpus : ℕ) (g : ArrayShape) → n ≡ copies cpus g → 1 ≤ cpus → 1 ≤ n
copies_some n cpus g many some = go g.per_cpu many
  where
    go : (b : Bool) → n ≡ (if b then cpus else 1) → 1 ≤ n
    go true e = omega arith
    go false e = omega arith

-- its last value
pub last_low : (cpus a k i n at : ℕ) (g : ArrayShape) → cpus ≤ 16 → IsArrayShape cpus g → a < 16 → n ≡ copies cpus g → k < n → i < g.max →
    at ≡ (fixed_span a g k i).at → at < array_start 16
last_low cpus a k i n at g few sized low many copy index is =
    subst (λ (x : ℕ). x < array_start 16) (sym is) (fixed_low cpus a k i g few sized low (subst (λ (x : ℕ). k < x) many copy) index)
