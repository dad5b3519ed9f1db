use Rattle.std.proofs.Common.{length}
use Rattle.bpf_names.proofs.names.+variable_at.Given as goal

abbrev pub decreases-variable_at : goal.decreases-variable_at
decreases-variable_at l = length l.variables.now
