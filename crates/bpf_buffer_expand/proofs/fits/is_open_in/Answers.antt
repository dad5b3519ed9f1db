use Rattle.bpf_buffer_expand.proofs.Looking.{array_shaped, array_there, open_in}
use Rattle.bpf_buffer_expand.proofs.fits.is_open_in.Goals as goal
use Rattle.std.proofs.Common.{false, arith}
use Rattle.bpf_shared.specs.declared.shapes.ArrayShape.{ArrayShape}

none : ArrayShape
none = record { value = 0; max = 0; per_cpu = false; frozen = false }

pub is_in_array-requires-clause-shape : goal.is_in_array-requires-clause-shape
unfolding none
is_in_array-requires-clause-shape c =
    array_shaped c.args.shape.now c.cpus.result c.args.number _ c.cpus.ensures.in_range c.cpus.ensures.cpus
    (array_there c.args.shape.now c.arrays.result.now c.args.number none c.arrays.ensures.arrays c.requires.number)

pub returns : goal.returns
unfolding none
returns c =
    open_in c.args.shape.now c.args.at c.args.count c.args.number c.cpus.result _ _ c.is_in_array.result
    (array_there c.args.shape.now c.arrays.result.now c.args.number none c.arrays.ensures.arrays c.requires.number) c.cpus.ensures.cpus
    (omega arith) c.is_in_array.ensures
