use Rattle.std.specs.Prelude.{map, string_bytes}
use Rattle.bpf_shared.specs.Store.{Plain}
use Rattle.bpf_shared.specs.Sound.{IsSoundStore}
use Rattle.bpf_plain.specs.PlainStore.{StandsFor}
use Rattle.bpf_jobs.specs.Printed.{AreMapLines}
use Rattle.bpf_jobs.proofs.maps.list_maps.Given as goal

abbrev pub invariant-loop-map : goal.invariant-loop-map
invariant-loop-map l = (s : Plain) → IsSoundStore s → StandsFor l.store s → AreMapLines s (map string_bytes l.names) l.map (string_bytes l.text)
