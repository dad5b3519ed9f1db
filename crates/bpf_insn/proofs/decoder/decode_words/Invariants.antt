use Rattle.std.proofs.Common.{◌-◌}
use Rattle.bpf_insn.proofs.Program.{Reached}
use Rattle.bpf_insn.proofs.decoder.decode_words.Given as goal

abbrev pub invariant-loop-pc : goal.invariant-loop-pc
invariant-loop-pc l = Reached l.bytes l.insns.items l.pc

abbrev pub decreases-loop-pc : goal.decreases-loop-pc
decreases-loop-pc l = l.count - l.pc
