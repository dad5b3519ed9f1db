use Rattle.std.specs.Prelude.{◌≡◌}
use Rattle.hop_map.proofs.closed.Closed.dump.Given as goal

abbrev pub invariant-found : goal.invariant-found
invariant-found l = l.pairs.items ≡ l.yielded
