use Rattle.std.specs.Prelude.{◌≡◌, ◌++◌, All, map, length}
use Rattle.hop_words.specs.Opens.{lanes_from}
use Rattle.hop_map.specs.Port.{IsPortOf, known_of}
use Rattle.hop_map.specs.Stores.{IsNewLane}
use Rattle.hop_map.proofs.store.deal_ports.Given as goal

abbrev pub invariant-all : goal.invariant-all
invariant-all l =
    (l.lanes.table ≡ l.fn.table.id)
    × (map known_of l.ports.items ++ l.lanes.lanes ≡ lanes_from l.fn.table.about 0 l.fn.table.about.shape.cpus)
    × All (IsNewLane l.fn.table.about) l.lanes.lanes
    × All (IsPortOf l.fn.table) l.ports.items

abbrev pub decreases-all : goal.decreases-all
decreases-all l = length l.lanes.lanes
