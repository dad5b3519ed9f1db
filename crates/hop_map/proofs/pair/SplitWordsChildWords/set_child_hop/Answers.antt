use Rattle.std.proofs.Common.{refl, ap, sym, subst, ◌∙◌}
use Rattle.hop_layout.specs.declared.place.Place.{Place}
use Rattle.hop_layout.specs.declared.place.Place.TheVariants.{Hop}
use Rattle.hop_seg.specs.Split.{front_with_hop}
use Rattle.hop_words.specs.Ghost.{child, IsSegment}
use Rattle.hop_words.specs.Guarded.{IsWordBeside}
use Rattle.hop_words.specs.Locking.{lock_of}
use Rattle.hop_words.proofs.Locked.{hop_there}
use Rattle.hop_map.specs.LockedSegment.{Locked, child_front}
use Rattle.hop_map.specs.Private.LockedSegment.{seen_words, written}
use Rattle.hop_map.proofs.Dividing.{hop_beside, hop_else}
use Rattle.hop_map.proofs.pair.SplitWordsChildWords.set_child_hop.Goals as goal

pub write_beside-requires-clause-beside : goal.write_beside-requires-clause-beside
write_beside-requires-clause-beside c =
    let x = c.self.inside.words in
    let at = c.hop_place-place.ensures ∙ (λ j. Hop (c.map.ensures.map j) (c.self.invariant.0 j) c.args.bucket) in
    subst (IsWordBeside x.known) (sym at) (c.map.ensures.ready.map, refl)

pub returns-clause-words : goal.returns-clause-words
returns-clause-words c =
    let x = c.self.inside.words in
    let cx = child (lock_of x.known) in
    let at = c.hop_place-place.ensures ∙ (λ j. Hop (c.map.ensures.map j) (c.self.invariant.0 j) c.args.bucket) in
    let seg = subst (IsSegment x.about x.map) c.self.invariant.0 c.self.invariant.1 in
    let is = c.write_beside.ensures.written ∙ (ap (λ (p : Place). written x p c.from.result) at ∙ ap (written x (Hop x.map cx c.args.bucket)) c.from.ensures) in
    hop_else x c.map.ensures.ready c.args.bucket c.args.bits c.write_beside.new.self
    (hop_there x.about x.map cx c.args.bucket seg c.requires) is ∙ ap seen_words c.self.view_is

pub returns-clause-child : goal.returns-clause-child
returns-clause-child c =
    let x = c.self.inside.words in
    let cx = child (lock_of x.known) in
    let at = c.hop_place-place.ensures ∙ (λ j. Hop (c.map.ensures.map j) (c.self.invariant.0 j) c.args.bucket) in
    let seg = subst (IsSegment x.about x.map) c.self.invariant.0 c.self.invariant.1 in
    let is = c.write_beside.ensures.written ∙ (ap (λ (p : Place). written x p c.from.result) at ∙ ap (written x (Hop x.map cx c.args.bucket)) c.from.ensures) in
    hop_beside x c.map.ensures.ready c.args.bucket c.args.bits c.write_beside.new.self c.ranges.bits.fits
    (hop_there x.about x.map cx c.args.bucket seg c.requires) is
    ∙ ap (λ (x : Locked). front_with_hop (child_front x) c.args.bucket c.args.bits) c.self.view_is
