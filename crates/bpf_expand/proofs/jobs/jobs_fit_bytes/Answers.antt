use Rattle.std.proofs.Common.{◌≡◌, ℕ, Some, inl, inr, subst, arith}
use Rattle.std.specs.Prelude.{slice_get}
use Rattle.std.proofs.lemmas.Bool.{cases_lt}
use Rattle.std.proofs.lemmas.Option.{slice_get_within}
use Rattle.bpf_expand.proofs.jobs.jobs_fit_bytes.Goals as goal

pub loop-job-init : goal.loop-job-init
loop-job-init c = λ j task less at. absurd (omega arith)

pub loop-job-preserved : goal.loop-job-preserved
loop-job-preserved c = λ j task less at. elim (cases_lt j c.loop-job.job) [
  | inl before ↦ c.loop-job.invariant j task before at
  | inr here ↦
      let same : j ≡ c.loop-job.job = omega arith in
      c.job_fits_bytes.ensures task (subst (λ (k : ℕ). slice_get c.args.machine.now.jobs k ≡ Some task) same at)
]

pub returns : goal.returns
returns c = λ j task at.
    let inside = slice_get_within c.args.machine.now.jobs j task at in
    c.loop-job.invariant j task (omega arith) at
