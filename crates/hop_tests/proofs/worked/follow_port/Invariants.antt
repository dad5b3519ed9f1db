use Rattle.std.specs.Prelude.{◌≡◌, true}
use Rattle.hop_map.specs.Port.{IsPortOf, runs}
use Rattle.hop_tests.proofs.worked.follow_port.Given as goal

abbrev pub invariant-rows : goal.invariant-rows
invariant-rows g l = IsPortOf l.fn.table l.port × (runs l.port ≡ true)
