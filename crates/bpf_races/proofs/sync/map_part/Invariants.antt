use Rattle.std.proofs.Common.{map}
use Rattle.std.specs.Prelude.{string_bytes}
use Rattle.bpf_races.proofs.Syncs.{NoneBelow}
use Rattle.bpf_races.proofs.sync.map_part.Given as goal

abbrev pub invariant-loop-number : goal.invariant-loop-number
invariant-loop-number l = NoneBelow (map string_bytes l.names) l.shape.maps l.text l.number
