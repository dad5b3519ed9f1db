use Rattle.std.specs.Prelude.{◌≡◌}
use Rattle.hop_map.proofs.accessing.store_part_at.Given as goal

abbrev pub invariant-tries : goal.invariant-tries
invariant-tries g l = l.lane ≡ l.fn.lane
