use Rattle.std.specs.Prelude.{◌≡◌, true}
use Rattle.hop_map.specs.Port.{IsPortOf, runs}
use Rattle.hop_tests.proofs.growing.count_found.Given as goal

abbrev pub invariant-keys : goal.invariant-keys
invariant-keys g l = IsPortOf l.fn.table l.port × (runs l.port ≡ true)
