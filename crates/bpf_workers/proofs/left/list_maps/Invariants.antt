use Rattle.std.proofs.Common.{◌≡◌}
use Rattle.std.specs.Prelude.{map, string_bytes}
use Rattle.bpf_shared.specs.Store.{Plain}
use Rattle.bpf_jobs.specs.Printed.{AreMapLines}
use Rattle.hop_map.specs.Dumping.{IsLast}
use Rattle.bpf_workers.proofs.left.list_maps.Given as goal

abbrev pub invariant-loop-map : goal.invariant-loop-map
invariant-loop-map l = (last : Plain) → IsLast l.left.closed.now last → last.shape ≡ l.left.shape.now → AreMapLines last
    (map string_bytes l.names) l.map (string_bytes l.text)
