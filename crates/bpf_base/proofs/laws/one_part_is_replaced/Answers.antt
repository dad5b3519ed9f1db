use Rattle.bpf_base.proofs.Parts.{length-with_part, part-with_part, slice_get-with_part}
use Rattle.bpf_base.proofs.laws.one_part_is_replaced.Goals as goal

pub returns : goal.returns
returns c = λ bytes i others h. (length-with_part bytes i others h, part-with_part bytes i others h, slice_get-with_part bytes i others h)
