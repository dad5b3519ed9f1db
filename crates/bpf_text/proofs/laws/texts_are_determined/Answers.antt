use Rattle.std.proofs.Common.{None}
use Rattle.bpf_text.proofs.Unique.{one_outcome}
use Rattle.bpf_text.proofs.laws.texts_are_determined.Goals as goal

pub returns : goal.returns
returns c = λ text r q x y. one_outcome None text q r y x
