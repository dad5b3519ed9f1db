use Rattle.std.specs.Prelude.{◌≡◌}
use Rattle.hop_map.proofs.fixed.store_fixed_part.Given as goal

abbrev pub invariant-tries : goal.invariant-tries
invariant-tries g l = l.lane ≡ l.fn.lane
