use Rattle.std.specs.Prelude.{◌≡◌, ℕ, ◌+◌, ◌*◌, ◌<◌, List}
use Rattle.std.specs.Int.{bit_at}
use Rattle.hop_words.specs.declared.known.Sight.{Sight}
use Rattle.hop_arena.specs.Claiming.{OnlyLooks, IsSeenTaken}
use Rattle.hop_arena.proofs.arena.claim_in.Given as goal

abbrev pub invariant-loop-bits : goal.invariant-loop-bits
invariant-loop-bits l =
    (l.lane.table ≡ l.fn.table.id)
    × ((more : List Sight) × OnlyLooks l.fn.lane.known more l.lane.known ×
    ((j : ℕ) → j < 64 → bit_at l.bits j ≡ 0 → IsSeenTaken more l.fn.map (64 * l.fn.word + j)))

abbrev pub decreases-loop-bits : goal.decreases-loop-bits
decreases-loop-bits l = l.bits
