use Rattle.std.specs.Prelude.{◌≡◌, ◌*◌, ◌≤◌}
use Rattle.hop_map.specs.Stats.{placed_below}
use Rattle.hop_map.proofs.stats.count_placed.Given as goal

abbrev pub invariant-segments : goal.invariant-segments
invariant-segments l = record {
  counted : l.placed ≡ placed_below l.rest l.map l.segment;
  most : l.placed ≤ 64 * l.segment;
}
