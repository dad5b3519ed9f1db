use Rattle.std.proofs.Common.{length}
use Rattle.bpf_names.proofs.names.+variable_named.Given as goal

abbrev pub decreases-variable_named : goal.decreases-variable_named
decreases-variable_named l = length l.variables.now
