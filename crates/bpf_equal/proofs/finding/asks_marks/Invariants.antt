use Rattle.std.proofs.Common.{◌<◌, ℕ}
use Rattle.bpf_insn.specs.declared.instruction.Insn.TheVariants.{CallHelper}
use Rattle.bpf_loader.specs.Places.{Begins}
use Rattle.bpf_equal.specs.States.{TellsMarks}
use Rattle.bpf_equal.proofs.finding.asks_marks.Given as goal

abbrev pub invariant-loop-pc : goal.invariant-loop-pc
invariant-loop-pc l = (pc : ℕ) → pc < l.pc → (n : ℕ) → Begins l.program.instructions pc (CallHelper n) → TellsMarks n → ⊥
