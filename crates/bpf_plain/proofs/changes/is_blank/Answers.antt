use Rattle.std.proofs.Common.{List, ◌∙◌, ap, length, slice_index}
use Rattle.std.proofs.Common.{ℕ}
use Rattle.bpf_plain.proofs.Changed.{take_zeros}
use Rattle.bpf_plain.proofs.changes.is_blank.Goals as goal

pub returns : goal.returns
returns c same k = ap (λ (bs : List ℕ). slice_index bs k) (c.is_same.ensures same) ∙ take_zeros (length c.args.part.now) 256 k
