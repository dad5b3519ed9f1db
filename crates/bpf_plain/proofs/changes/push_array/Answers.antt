use Rattle.std.proofs.Common.{◌∙◌, ℕ, false, List, [], length, get_or, refl, ap, arith}
use Rattle.bpf_shared.specs.declared.shapes.ArrayShape.{ArrayShape}
use Rattle.bpf_plain.proofs.Places.{array_sized, stride_some}
use Rattle.bpf_plain.proofs.SavedAlike.{thawed_saved}
use Rattle.bpf_plain.proofs.changes.push_array.Goals as goal

abbrev none : ArrayShape
none = record { value = 0; max = 0; per_cpu = false; frozen = false }

pub copy_stride-requires-clause-value : goal.copy_stride-requires-clause-value
copy_stride-requires-clause-value c =
    let l = c.requires.there in
    let same = ap (λ (gs : List ArrayShape). length gs) c.arrays.ensures.arrays in
    (array_sized c.args.shape.now c.arrays.ensures.in_range c.arrays.result.now c.arrays.ensures.arrays c.args.number c.args.shape.now.cpus
    none refl (omega arith)).1.value.1

pub copy_stride-requires-clause-max : goal.copy_stride-requires-clause-max
copy_stride-requires-clause-max c =
    let l = c.requires.there in
    let same = ap (λ (gs : List ArrayShape). length gs) c.arrays.ensures.arrays in
    (array_sized c.args.shape.now c.arrays.ensures.in_range c.arrays.result.now c.arrays.ensures.arrays c.args.number c.args.shape.now.cpus
    none refl (omega arith)).1.max.1

pub push_copies-requires-clause-stride : goal.push_copies-requires-clause-stride
push_copies-requires-clause-stride c =
    let l = c.requires.there in
    let same = ap (λ (gs : List ArrayShape). length gs) c.arrays.ensures.arrays in
    let some = stride_some c.args.shape.now.cpus _ (array_sized c.args.shape.now c.arrays.ensures.in_range c.arrays.result.now
    c.arrays.ensures.arrays c.args.number c.args.shape.now.cpus none refl (omega arith)).1 in
    let stride = c.copy_stride.ensures in
    omega arith

pub returns-clause-ok : goal.returns-clause-ok
returns-clause-ok c =
    let l = c.requires.there in
    let same = ap (λ (gs : List ArrayShape). length gs) c.arrays.ensures.arrays in
    let g = get_or c.arrays.result.now c.args.number none in
    let there = (array_sized c.args.shape.now c.arrays.ensures.in_range c.arrays.result.now c.arrays.ensures.arrays c.args.number
    c.args.shape.now.cpus none refl (omega arith)).0 in
    let first = c.first_bytes-first.ensures ∙ ap (λ (bs : List (List ℕ)). get_or bs c.args.number []) c.contents.ensures in
    thawed_saved c.args.shape.now c.args.number g there c.if-array.false c.first_bytes-first.result.now first c.copy_stride.result
    c.copy_stride.ensures c.args.bytes.now c.args.out.now.items c.push_copies.new.out.items c.push_copies.result c.push_copies.ensures.ok
