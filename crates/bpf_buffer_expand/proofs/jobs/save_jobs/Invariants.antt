use Rattle.std.proofs.Common.{◌≡◌, ◌++◌, take}
use Rattle.bpf_machine.specs.Saved.{jobs_saved}
use Rattle.bpf_buffering.specs.Jobs.{tasks_of}
use Rattle.bpf_buffer_expand.proofs.jobs.save_jobs.Given as goal

abbrev pub invariant-loop-job : goal.invariant-loop-job
invariant-loop-job l = l.out.items ≡ l.fn.out.items ++ jobs_saved (take l.job-index (tasks_of l.jobs))
