use Rattle.std.proofs.Common.{length}
use Rattle.bpf_file.proofs.symbols.+name_maps.Given as goal

abbrev pub decreases-name_maps : goal.decreases-name_maps
decreases-name_maps l = length l.names.now
