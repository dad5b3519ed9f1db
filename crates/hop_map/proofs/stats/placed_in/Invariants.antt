use Rattle.std.specs.Prelude.{◌≡◌, ◌≤◌}
use Rattle.hop_map.specs.Stats.{placed_in}
use Rattle.hop_map.proofs.stats.placed_in.Given as goal

abbrev pub invariant-places : goal.invariant-places
invariant-places l = record {
  counted : l.placed ≡ placed_in l.rest l.map l.segment l.place;
  most : l.placed ≤ l.place;
}
