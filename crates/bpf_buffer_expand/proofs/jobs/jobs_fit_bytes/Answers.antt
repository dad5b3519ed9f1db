use Rattle.std.proofs.Common.{◌≡◌, ℕ, Some, inl, inr, subst, arith}
use Rattle.std.specs.Prelude.{slice_get}
use Rattle.std.proofs.lemmas.Bool.{cases_lt}
use Rattle.bpf_cpu.specs.Task.{Task}
use Rattle.bpf_machine.specs.Saved.{FitsBytes}
use Rattle.bpf_buffering.specs.Jobs.{tasks_of}
use Rattle.bpf_buffer_expand.proofs.Looking.{same_task_at, jobs_within}
use Rattle.bpf_buffer_expand.proofs.jobs.jobs_fit_bytes.Goals as goal

pub loop-job-preserved : goal.loop-job-preserved
loop-job-preserved c = λ j task less at. elim (cases_lt j c.loop-job.job-index) [
  | inl before ↦ c.loop-job.invariant j task before at
  | inr here ↦
      let same : j ≡ c.loop-job.job-index = omega (arith, here, less) in
      let own = subst (λ (i : ℕ). slice_get (tasks_of c.args.jobs.now) i ≡ Some task) same at in
      subst (λ (t : Task). FitsBytes t.stage)
      (same_task_at c.args.jobs.now c.loop-job.job-index c.job-item.result task c.loop-job-test.true c.job-item.is own) c.fits_bytes.ensures
]

pub returns : goal.returns
returns c = λ j task at.
    let inside = jobs_within c.args.jobs.now j task at in
    c.loop-job.invariant j task (omega (arith, inside, c.loop-job-test.false)) at
