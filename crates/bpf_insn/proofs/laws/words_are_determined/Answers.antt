use Rattle.bpf_insn.proofs.Determined.{words_are_determined as law}
use Rattle.bpf_insn.proofs.laws.words_are_determined.Goals as goal

pub returns : goal.returns
returns c = law
