use Rattle.std.proofs.Common.{◌≡◌, ◌++◌, take}
use Rattle.bpf_machine.specs.Saved.{jobs_saved}
use Rattle.bpf_expand.proofs.jobs.save_jobs.Given as goal

abbrev pub invariant-loop-job : goal.invariant-loop-job
invariant-loop-job l = l.out.items ≡ l.fn.out.items ++ jobs_saved (take l.job l.machine.jobs)
