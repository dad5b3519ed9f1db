use Rattle.std.proofs.Common.{length}
use Rattle.bpf_jobs.proofs.arrays.+has_any.Given as goal

abbrev pub decreases-has_any : goal.decreases-has_any
decreases-has_any l = length l.variables.now
