use Rattle.std.proofs.Common.{◌≡◌, ◌<◌, ℕ, false, List, length, get_or, refl, sym, ap, subst, arith}
use Rattle.bpf_shared.specs.declared.shapes.ArrayShape.{ArrayShape}
use Rattle.bpf_shared.specs.Shape.{Shape, IsShape, IsArray, IsArrayShape}
use Rattle.bpf_plain.proofs.Arrays.{frozen_read, thawed_read, thawed_array}
use Rattle.bpf_plain.proofs.Making.{array_made}
use Rattle.bpf_plain.proofs.Places.{array_sized}
use Rattle.bpf_plain.proofs.SavedAlike.{few_bytes}
use Rattle.bpf_plain.proofs.reading.read_array.Goals as goal

abbrev none : ArrayShape
none = record { value = 0; max = 0; per_cpu = false; frozen = false }

module _ (h : Shape) (is : IsShape h) (gs : List ArrayShape) (same : gs ≡ h.arrays) (n : ℕ) (l : n < length h.arrays) where
  below : n < length gs
  below = let e = ap (λ (xs : List ArrayShape). length xs) same in omega arith

  there : IsArray h.arrays n (get_or gs n none)
  there = (array_sized h is gs same n h.cpus none refl below).0

  sized : IsArrayShape h.cpus (get_or gs n none)
  sized = (array_sized h is gs same n h.cpus none refl below).1

pub returns-then-array-clause-read : goal.returns-then-array-clause-read
returns-then-array-clause-read c =
    let at = there c.args.shape.now c.arrays.ensures.in_range c.arrays.result.now c.arrays.ensures.arrays c.args.number c.requires.there in
    frozen_read c.args.shape.now c.args.number (get_or c.arrays.result.now c.args.number none) at c.args.bytes.now (c.requires.made _ at)
    c.if-array.true c.args.saved.now

pub returns-then-array-clause-array : goal.returns-then-array-clause-array
returns-then-array-clause-array c g is = array_made c.args.shape.now c.args.number g (c.requires.made g is)

pub read_changes-requires-clause-shape : goal.read_changes-requires-clause-shape
read_changes-requires-clause-shape c =
    subst (λ (k : ℕ). IsArrayShape k (get_or c.arrays.result.now c.args.number none)) (sym c.cpus.ensures.cpus)
    (sized c.args.shape.now c.arrays.ensures.in_range c.arrays.result.now c.arrays.ensures.arrays c.args.number c.requires.there)

pub read_changes-requires-clause-few : goal.read_changes-requires-clause-few
read_changes-requires-clause-few c =
    let h = c.args.shape.now in
    let g = get_or c.arrays.result.now c.args.number none in
    let at = there h c.arrays.ensures.in_range c.arrays.result.now c.arrays.ensures.arrays c.args.number c.requires.there in
    let size = (c.requires.made g at).size in
    let few = few_bytes h.cpus g c.arrays.ensures.in_range.cpus.1
    (sized h c.arrays.ensures.in_range c.arrays.result.now c.arrays.ensures.arrays c.args.number c.requires.there) in
    omega arith

pub returns-clause-read : goal.returns-clause-read
returns-clause-read c =
    let at = there c.args.shape.now c.arrays.ensures.in_range c.arrays.result.now c.arrays.ensures.arrays c.args.number c.requires.there in
    thawed_read c.args.shape.now c.args.number (get_or c.arrays.result.now c.args.number none) at c.args.bytes.now (c.requires.made _ at)
    c.if-array.false c.cpus.result c.cpus.ensures.cpus c.args.saved.now c.read_changes.new.bytes c.read_changes.result c.read_changes.ensures.read

pub returns-clause-array : goal.returns-clause-array
returns-clause-array c =
    let at = there c.args.shape.now c.arrays.ensures.in_range c.arrays.result.now c.arrays.ensures.arrays c.args.number c.requires.there in
    thawed_array c.args.shape.now c.args.number (get_or c.arrays.result.now c.args.number none) at c.args.bytes.now (c.requires.made _ at)
    c.if-array.false c.cpus.result c.cpus.ensures.cpus c.read_changes.new.bytes c.read_changes.auto.bytes c.read_changes.ensures.padded
