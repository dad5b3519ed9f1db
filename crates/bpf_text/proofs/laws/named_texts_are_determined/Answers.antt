use Rattle.bpf_text.proofs.Unique.{one_outcome}
use Rattle.bpf_text.proofs.laws.named_texts_are_determined.Goals as goal

pub returns : goal.returns
returns c = λ names text r q x y. one_outcome names text q r y x
