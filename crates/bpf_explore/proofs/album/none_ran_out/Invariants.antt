use Rattle.std.proofs.Common.{◌≡◌, ℕ}
use Rattle.bpf_cpu.specs.declared.outcome.Outcome.TheVariants.{OutOfBudget}
use Rattle.bpf_cpu.specs.Task.{Task, Ended}
use Rattle.bpf_machine.specs.Parts.{chosen}
use Rattle.bpf_explore.proofs.EachLaws.{EachBelow}
use Rattle.bpf_explore.proofs.album.none_ran_out.Given as goal

abbrev pub invariant-loop-job : goal.invariant-loop-job
invariant-loop-job l = EachBelow (λ (task : Task). (pc : ℕ) → task.stage ≡ Ended (OutOfBudget pc) → ⊥) (chosen l.parts l.numbers) l.job
