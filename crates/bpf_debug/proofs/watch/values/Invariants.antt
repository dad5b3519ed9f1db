use Rattle.std.proofs.Common.{◌≡◌}
use Rattle.bpf_shared.specs.Store.{Plain}
use Rattle.bpf_shared.specs.Sound.{IsSoundStore}
use Rattle.bpf_plain.specs.PlainStore.{StandsFor}
use Rattle.bpf_debug.specs.Watch.{kept_values, values_of, watched}
use Rattle.bpf_debug.proofs.watch.values.Given as goal

abbrev pub invariant-loop-cpu : goal.invariant-loop-cpu
invariant-loop-cpu l = (s : Plain) → IsSoundStore s → StandsFor l.store s → values_of (watched l.watch) s l.cpu ≡ kept_values l.values.items
