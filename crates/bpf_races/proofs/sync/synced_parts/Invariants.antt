use Rattle.std.proofs.Common.{map}
use Rattle.std.specs.Prelude.{string_bytes}
use Rattle.bpf_names.specs.Names.{names_of}
use Rattle.bpf_races.proofs.Syncs.{PartsBelow}
use Rattle.bpf_races.proofs.sync.synced_parts.Given as goal

abbrev pub invariant-loop-text : goal.invariant-loop-text
invariant-loop-text l = PartsBelow (names_of l.names) l.shape.maps (map string_bytes l.sync) l.text-index l.parts.items
