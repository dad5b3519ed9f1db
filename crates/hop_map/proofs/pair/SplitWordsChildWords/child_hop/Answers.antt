use Rattle.std.proofs.Common.{ℕ, ◌%◌, ◌^◌, refl, ap, sym, subst, ◌∙◌}
use Rattle.hop_layout.specs.declared.place.Place.{Place}
use Rattle.hop_layout.specs.declared.place.Place.TheVariants.{Hop}
use Rattle.hop_layout.specs.Layout.{mem}
use Rattle.hop_words.specs.Ghost.{child}
use Rattle.hop_words.specs.Guarded.{IsGuardedBeside}
use Rattle.hop_words.specs.Locking.{lock_of}
use Rattle.hop_map.specs.LockedSegment.{Locked, child_front}
use Rattle.hop_map.specs.Private.LockedSegment.{seen_words}
use Rattle.hop_map.proofs.pair.SplitWordsChildWords.child_hop.Goals as goal

pub read_beside-requires-clause-beside : goal.read_beside-requires-clause-beside
read_beside-requires-clause-beside c =
    let x = c.self.inside.words in
    let at = c.hop_place-place.ensures ∙ (λ j. Hop (c.map.ensures.map j) (c.self.invariant.0 j) c.args.bucket) in
    subst (IsGuardedBeside x.known) (sym at) (c.map.ensures.ready.map, refl)

pub returns-clause-value : goal.returns-clause-value
returns-clause-value c =
    let x = c.self.inside.words in
    let at = c.hop_place-place.ensures ∙ (λ j. Hop (c.map.ensures.map j) (c.self.invariant.0 j) c.args.bucket) in
    c.hop_bits.ensures ∙ ap (λ (n : ℕ). n % 2 ^ 32) (c.read_beside.ensures.value
    ∙ (ap (λ (p : Place). mem x.about.shape (lock_of x.known).copy p) at
    ∙ ap (λ (x : Locked). mem x.about.shape (lock_of x.known).copy (Hop x.map (child (lock_of x.known)) c.args.bucket)) c.self.view_is))

pub returns-clause-words : goal.returns-clause-words
returns-clause-words c = ap seen_words (c.read_beside.ensures.same ∙ c.self.view_is)

pub returns-clause-child : goal.returns-clause-child
returns-clause-child c = ap child_front (c.read_beside.ensures.same ∙ c.self.view_is)
