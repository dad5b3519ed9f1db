use Rattle.std.specs.Prelude.{◌≡◌, List}
use Rattle.hop_words.specs.declared.known.Sight.{Sight}
use Rattle.hop_arena.specs.Claiming.{OnlyLooks, AreSeenTaken}
use Rattle.hop_arena.proofs.arena.Arena.claim.Given as goal

abbrev pub invariant-after : goal.invariant-after
invariant-after l =
    (l.lane.table ≡ l.fn.table.id) × (l.self ≡ l.fn.self)
    × ((more : List Sight) × OnlyLooks l.fn.lane.known more l.lane.known × AreSeenTaken more l.fn.self.map l.fn.self.elements l.fn.self.start l.word)

abbrev pub invariant-before-2 : goal.invariant-before-2
invariant-before-2 l =
    (l.lane.table ≡ l.fn.table.id) × (l.self ≡ l.fn.self)
    × ((more : List Sight) × OnlyLooks l.fn.lane.known more l.lane.known × AreSeenTaken more l.fn.self.map l.fn.self.elements l.fn.self.start l.words
    × AreSeenTaken more l.fn.self.map l.fn.self.elements 0 l.word)
