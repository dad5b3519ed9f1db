-- Passages of a CPU of the concurrent store.
use Rattle.std.specs.Prelude.{◌≡◌, List, ◌++◌}
use Rattle.bpf_shared.specs.declared.events.Entry.{Entry}
use Rattle.bpf_shared.specs.History.{IsLegal, events_of}
use Rattle.hop_map.specs.Noting.{CallsNote}
use Rattle.hop_cpu.specs.Serving.{Serving}

-- what the CPU has seen of the store's one history has become the old list followed by these
-- events, and is legal; at its own calls among them it noted no more than it may: so a lookup took
-- the lock only after eight disturbed readings of its own
pub record ExtendsHistory (x y : Serving) (log : List Entry) : Type 0 where
  pub table : y.table ≡ x.table
  pub cpu : y.port.known.cpu ≡ x.port.known.cpu
  pub seen : y.port.known.seen ≡ x.port.known.seen ++ log
  pub legal : IsLegal x.table.about.shape x.port.known.seen
      → IsLegal x.table.about.shape y.port.known.seen
  pub noted : CallsNote x.table.about (events_of x.port.known.cpu log) x.port.known y.port.known
