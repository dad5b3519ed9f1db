use Rattle.std.specs.Prelude.{◌≡◌}
use Rattle.hop_map.proofs.locked.LockedWords.count_in.Given as goal

abbrev pub invariant-loop : goal.invariant-loop
invariant-loop g l = l.self ≡ l.initial.self
