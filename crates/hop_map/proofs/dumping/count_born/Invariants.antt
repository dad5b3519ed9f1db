use Rattle.std.specs.Prelude.{◌≡◌, ◌≤◌}
use Rattle.hop_map.specs.Dumping.{born_below}
use Rattle.hop_map.proofs.dumping.count_born.Given as goal

abbrev pub invariant-segments : goal.invariant-segments
invariant-segments l = record {
  counted : l.born ≡ born_below l.rest l.map l.segment;
  most : l.born ≤ l.segment;
}
