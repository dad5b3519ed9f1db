use Rattle.bpf_insn.proofs.Determined.{refusals_are_determined as law}
use Rattle.bpf_insn.proofs.laws.refusals_are_determined.Goals as goal

pub returns : goal.returns
returns c = law
