use Rattle.std.proofs.Common.{ap, ◌∙◌}
use Rattle.hop_words.specs.Kinds.{unlocking}
use Rattle.hop_map.specs.LockedSegment.{Locked}
use Rattle.hop_map.proofs.Locking.{alone_last, alone_else, alone_given}
use Rattle.hop_map.proofs.locked.LockedWords.unlock_silent.Goals as goal

pub unlock_silent-requires-clause-lock : goal.unlock_silent-requires-clause-lock
unlock_silent-requires-clause-lock c = let r = c.self.invariant.ready in (alone_last c.self.inside.lane.known r.held, r.map, r.segment)

pub unlock_silent-requires-clause-elsewhere : goal.unlock_silent-requires-clause-elsewhere
unlock_silent-requires-clause-elsewhere c = alone_else c.self.inside.lane.known c.self.invariant.ready.held

pub returns-clause-known : goal.returns-clause-known
returns-clause-known c = c.unlock_silent.ensures.unlocked ∙ (alone_given c.self.inside.lane.known c.self.invariant.ready.held ∙ ap
    (λ (x : Locked). unlocking x.known) c.self.view_is)
