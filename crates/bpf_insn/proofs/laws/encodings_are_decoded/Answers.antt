use Rattle.bpf_insn.proofs.Determined.{encodings_are_decoded as law}
use Rattle.bpf_insn.proofs.laws.encodings_are_decoded.Goals as goal

pub returns : goal.returns
returns c = law
