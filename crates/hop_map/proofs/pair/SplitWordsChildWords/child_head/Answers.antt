use Rattle.std.proofs.Common.{refl, ap, sym, subst, ◌∙◌}
use Rattle.hop_layout.specs.declared.place.Place.{Place}
use Rattle.hop_layout.specs.declared.place.Place.TheVariants.{Head}
use Rattle.hop_layout.specs.Layout.{mem}
use Rattle.hop_words.specs.Content.{item}
use Rattle.hop_words.specs.Ghost.{child}
use Rattle.hop_words.specs.Guarded.{IsGuardedBeside}
use Rattle.hop_words.specs.Locking.{lock_of}
use Rattle.hop_map.specs.LockedSegment.{Locked, child_front}
use Rattle.hop_map.specs.Private.LockedSegment.{seen_words}
use Rattle.hop_map.proofs.pair.SplitWordsChildWords.child_head.Goals as goal

pub read_beside-requires-clause-beside : goal.read_beside-requires-clause-beside
read_beside-requires-clause-beside c =
    let x = c.self.inside.words in
    let at = c.head_place-place.ensures ∙ (λ j. Head (c.map.ensures.map j) (c.self.invariant.0 j)) in
    subst (IsGuardedBeside x.known) (sym at) (c.map.ensures.ready.map, refl)

pub returns-clause-value : goal.returns-clause-value
returns-clause-value c =
    let x = c.self.inside.words in
    let at = c.head_place-place.ensures ∙ (λ j. Head (c.map.ensures.map j) (c.self.invariant.0 j)) in
    c.item.ensures ∙ ap item (c.read_beside.ensures.value
    ∙ (ap (λ (p : Place). mem x.about.shape (lock_of x.known).copy p) at
    ∙ ap (λ (x : Locked). mem x.about.shape (lock_of x.known).copy (Head x.map (child (lock_of x.known)))) c.self.view_is))

pub returns-clause-words : goal.returns-clause-words
returns-clause-words c = ap seen_words (c.read_beside.ensures.same ∙ c.self.view_is)

pub returns-clause-child : goal.returns-clause-child
returns-clause-child c = ap child_front (c.read_beside.ensures.same ∙ c.self.view_is)
