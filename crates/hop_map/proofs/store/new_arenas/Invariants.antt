use Rattle.std.specs.Prelude.{◌≡◌, length}
use Rattle.hop_map.specs.Port.{AreArenas}
use Rattle.hop_map.proofs.store.new_arenas.Given as goal

abbrev pub invariant-maps : goal.invariant-maps
invariant-maps l = AreArenas l.fn.table.about l.map l.arenas.items × (l.maps ≡ length l.fn.table.about.shape.maps)
