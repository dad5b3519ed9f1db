use Rattle.std.proofs.Common.{◌≡◌, ℕ, Some, inl, inr, refl, subst, sym, arith}
use Rattle.std.specs.Prelude.{slice_get}
use Rattle.std.proofs.lemmas.Bool.{cases_lt, false≢true}
use Rattle.bpf_cpu.specs.Task.{Task}
use Rattle.bpf_buffering.specs.Jobs.{task_of, tasks_of}
use Rattle.bpf_buffer_expand.specs.Private.Fits.{HasMade}
use Rattle.bpf_buffer_expand.proofs.Looking.{not_true, task_at, same_task_at, jobs_within}
use Rattle.bpf_buffer_expand.proofs.fits.has_stored.Goals as goal

pub returns-then-has_made : goal.returns-then-has_made
returns-then-has_made c = (
  λ is. (
      let made = c.has_made.ensures.0 (c.if-has_made.true) in (
        c.loop-job.job,
        task_of c.index-jobs-job.result,
        made.0,
        made.1,
        record {
          listed = task_at c.args.jobs.now c.loop-job.job c.index-jobs-job.result c.loop-job-test.true c.index-jobs-job.is;
          of = made.2;
          at = made.3;
        },
        made.4,
      )),
  λ is. refl,
)

pub loop-job-preserved : goal.loop-job-preserved
loop-job-preserved c = λ k task less at made. elim (cases_lt k c.loop-job.job) [
  | inl before ↦ c.loop-job.invariant k task before at made
  | inr here ↦
      let same : k ≡ c.loop-job.job = omega (arith, here, less) in
      let own = subst (λ (i : ℕ). slice_get (tasks_of c.args.jobs.now) i ≡ Some task) same at in
      let one : task_of c.index-jobs-job.result ≡ task = same_task_at c.args.jobs.now c.loop-job.job c.index-jobs-job.result task
      c.loop-job-test.true c.index-jobs-job.is own in
      not_true c.has_made.result c.if-has_made.false
      (c.has_made.ensures.1 (subst (λ (t : Task). HasMade c.args.shape.now t c.args.cpu c.args.buffer.now) (sym one) made))
]

pub returns : goal.returns
returns c = (
  λ no. absurd (false≢true no),
  λ (j, task, state, left, at, all). absurd (
      let inside = jobs_within c.args.jobs.now j task at.listed in
      c.loop-job.invariant j task (omega (arith, inside, c.loop-job-test.false)) at.listed (state, left, at.of, at.at, all)),
)
