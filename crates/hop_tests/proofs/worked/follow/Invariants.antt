use Rattle.std.specs.Prelude.{◌≡◌, true}
use Rattle.hop_tests.proofs.worked.follow.Given as goal

abbrev pub invariant-rows : goal.invariant-rows
invariant-rows g l = (g.S.Shared.serves l.shared 0 ≡ true) × (g.S.Shared.running l.shared 0 ≡ true)
