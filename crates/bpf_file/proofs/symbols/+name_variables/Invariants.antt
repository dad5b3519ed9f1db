use Rattle.std.proofs.Common.{length}
use Rattle.bpf_file.proofs.symbols.+name_variables.Given as goal

abbrev pub decreases-name_variables : goal.decreases-name_variables
decreases-name_variables l = length l.variables.now
