use Rattle.std.specs.Prelude.{◌≡◌, ◌≤◌}
use Rattle.hop_map.specs.Stats.{free_below}
use Rattle.hop_map.proofs.stats.count_free.Given as goal

abbrev pub invariant-elements : goal.invariant-elements
invariant-elements l = record {
  counted : l.free ≡ free_below l.rest l.map l.element;
  most : l.free ≤ l.element;
}
