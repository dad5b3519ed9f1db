use Rattle.bpf_insn.proofs.Registers.{looked_up}
use Rattle.bpf_insn.proofs.candidate.register.Goals as goal

pub returns : goal.returns
returns c = looked_up _ _ c.new.ensures.numbered c.new.ensures.found
