use Rattle.std.proofs.Common.{ap, sym, subst, ◌∙◌}
use Rattle.hop_layout.specs.Layout.{mem}
use Rattle.hop_words.specs.Locking.{lock_of}
use Rattle.hop_words.specs.Guarded.{IsGuarded}
use Rattle.hop_map.specs.LockedSegment.{Locked}
use Rattle.hop_map.proofs.Locking.{alone_last}
use Rattle.hop_map.proofs.locked.LockedWords.read.Goals as goal

pub read_guarded-requires-clause-held : goal.read_guarded-requires-clause-held
read_guarded-requires-clause-held c = alone_last c.self.inside.lane.known c.self.invariant.ready.held

pub returns-clause-value : goal.returns-clause-value
returns-clause-value c = λ guarded.
    c.read_guarded.ensures.word (subst (λ (x : Locked). IsGuarded x.about x.known c.args.place) (sym c.self.view_is) guarded)
    ∙ ap (λ (x : Locked). mem x.about.shape (lock_of x.known).copy c.args.place) c.self.view_is
