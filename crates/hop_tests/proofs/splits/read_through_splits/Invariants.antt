use Rattle.std.specs.Prelude.{◌≡◌, true}
use Rattle.bpf_shared.specs.Passage.{IsHeldPlace}
use Rattle.hop_map.specs.Port.{IsPortOf}
use Rattle.hop_tests.proofs.splits.read_through_splits.Given as goal

abbrev pub invariant-splits : goal.invariant-splits
invariant-splits g l = (g.S.Shared.serves l.zero 0 ≡ true) × (g.S.Shared.running l.zero 0 ≡ true) × IsHeldPlace (g.S.Shared.held l.zero 0)
    l.held.at 8 × IsPortOf l.fn.table l.second
