use Rattle.std.proofs.Common.{◌<◌, ℕ, ℤ}
use Rattle.bpf_insn.specs.declared.instruction.Insn.TheVariants.{CallLocal}
use Rattle.bpf_loader.specs.Places.{Begins}
use Rattle.bpf_live.proofs.finding.has_calls.Given as goal

abbrev pub invariant-loop-pc : goal.invariant-loop-pc
invariant-loop-pc l = (pc : ℕ) → pc < l.pc → (offset : ℤ) → Begins l.program.instructions pc (CallLocal offset) → ⊥
