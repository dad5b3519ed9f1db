use Rattle.std.proofs.Common.{ℕ, ◌+◌, ap, sym, subst, ◌∙◌, arith}
use Rattle.hop_layout.specs.Layout.{mem}
use Rattle.hop_words.specs.Locking.{lock_of}
use Rattle.hop_words.specs.Guarded.{IsGuarded}
use Rattle.hop_map.specs.LockedSegment.{Locked}
use Rattle.hop_map.specs.Private.LockedSegment.{IsWordAt}
use Rattle.hop_map.proofs.Locking.{alone_last}
use Rattle.hop_map.proofs.locked.LockedWords.read_in.Goals as goal

pub read_guarded_at-requires-clause-held : goal.read_guarded_at-requires-clause-held
read_guarded_at-requires-clause-held c = alone_last c.self.inside.lane.known c.self.invariant.ready.held

pub returns-clause-value : goal.returns-clause-value
returns-clause-value c = λ guarded.
    c.read_guarded_at.ensures.word (subst (λ (x : Locked). IsGuarded x.about x.known c.args.place) (sym c.self.view_is) guarded)
    ∙ ap (λ (x : Locked). mem x.about.shape (lock_of x.known).copy c.args.place) c.self.view_is

pub read_guarded_at-requires-clause-word : goal.read_guarded_at-requires-clause-word
read_guarded_at-requires-clause-word c =
    let r = subst (λ (x : Locked). IsWordAt x.about x.map x.segment c.args.offset c.args.place) (sym c.self.view_is) c.requires.word in
    ap (λ (n : ℕ). n + c.args.offset) c.self.invariant.begins ∙ r.1

pub overflow_add-word : goal.overflow_add-word
overflow_add-word c = let r = c.requires.word.0 in let n = c.self.invariant.room in omega arith
