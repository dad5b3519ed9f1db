use Rattle.std.proofs.Common.{◌<◌, ℕ}
use Rattle.bpf_insn.specs.declared.instruction.Insn.{Insn}
use Rattle.bpf_loader.specs.Places.{Begins}
use Rattle.bpf_live.specs.Private.Needs.{HasNeeded}
use Rattle.bpf_live.proofs.finding.is_right.Given as goal

abbrev pub invariant-loop-pc : goal.invariant-loop-pc
invariant-loop-pc l = (pc : ℕ) → pc < l.pc → (i : Insn) → Begins l.program.instructions pc i → HasNeeded l.sets l.calls pc i
