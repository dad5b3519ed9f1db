use Rattle.std.proofs.Common.{false, List, length, refl, ap, arith}
use Rattle.bpf_shared.specs.declared.shapes.ArrayShape.{ArrayShape}
use Rattle.bpf_plain.proofs.Places.{array_sized}
use Rattle.bpf_explore.proofs.room.array_bytes.Goals as goal

abbrev none : ArrayShape
none = record { value = 0; max = 0; per_cpu = false; frozen = false }

pub copy_stride-requires-clause-value : goal.copy_stride-requires-clause-value
copy_stride-requires-clause-value c =
    let l = c.requires in
    let same = ap (λ (gs : List ArrayShape). length gs) c.arrays.ensures.arrays in
    (array_sized c.args.shape.now c.arrays.ensures.in_range c.arrays.result.now c.arrays.ensures.arrays c.args.array c.args.shape.now.cpus
    none refl (omega arith)).1.value.1

pub copy_stride-requires-clause-max : goal.copy_stride-requires-clause-max
copy_stride-requires-clause-max c =
    let l = c.requires in
    let same = ap (λ (gs : List ArrayShape). length gs) c.arrays.ensures.arrays in
    (array_sized c.args.shape.now c.arrays.ensures.in_range c.arrays.result.now c.arrays.ensures.arrays c.args.array c.args.shape.now.cpus
    none refl (omega arith)).1.max.1
