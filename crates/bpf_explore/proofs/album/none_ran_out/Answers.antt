use Rattle.std.proofs.Common.{◌≡◌, ℕ, refl, arith}
use Rattle.bpf_cpu.specs.declared.outcome.Outcome.TheVariants.{OutOfBudget}
use Rattle.bpf_cpu.specs.Task.{Task, Ended}
use Rattle.bpf_explore.proofs.EachLaws.{next_each, all_each}
use Rattle.bpf_explore.proofs.TellLaws.{ran_out}
use Rattle.bpf_explore.proofs.album.none_ran_out.Goals as goal

abbrev Goes : Task → Type 0
Goes task = (pc : ℕ) → task.stage ≡ Ended (OutOfBudget pc) → ⊥

pub loop-job-preserved : goal.loop-job-preserved
loop-job-preserved c =
    next_each Goes c.args.parts.now c.args.numbers.now c.loop-job.job c.index-parts-numbers.result (omega arith)
    (c.requires c.loop-job.job 0 (omega arith)) c.index-parts-numbers.is c.loop-job.invariant (c.if-is_out_of_budget.ensures.not refl)

pub returns-then-is_out_of_budget-clause-out : goal.returns-then-is_out_of_budget-clause-out
returns-then-is_out_of_budget-clause-out c is none =
    ran_out c.args.parts.now c.args.numbers.now c.loop-job.job c.index-parts-numbers.result (omega arith)
    (c.requires c.loop-job.job 0 (omega arith)) c.index-parts-numbers.is (c.if-is_out_of_budget.ensures.out refl) none

pub returns-clause-none : goal.returns-clause-none
returns-clause-none c is j task pc at = all_each Goes c.args.parts.now c.args.numbers.now c.loop-job.job (omega arith) c.loop-job.invariant j task at pc
