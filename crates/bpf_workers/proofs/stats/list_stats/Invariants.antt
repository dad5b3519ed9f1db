use Rattle.std.specs.Prelude.{map, string_bytes}
use Rattle.bpf_workers.specs.Stats.{AreStatsLines}
use Rattle.bpf_workers.proofs.stats.list_stats.Given as goal

abbrev pub invariant-loop-map : goal.invariant-loop-map
invariant-loop-map l = AreStatsLines l.closed (map string_bytes l.names) l.map (string_bytes l.text)
