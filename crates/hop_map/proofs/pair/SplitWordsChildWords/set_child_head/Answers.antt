use Rattle.std.proofs.Common.{refl, ap, sym, subst, ◌∙◌}
use Rattle.hop_layout.specs.declared.place.Place.{Place}
use Rattle.hop_layout.specs.declared.place.Place.TheVariants.{Head}
use Rattle.hop_epoch.specs.Batch.{link_word}
use Rattle.hop_words.specs.Ghost.{child, IsSegment}
use Rattle.hop_words.specs.Guarded.{IsWordBeside}
use Rattle.hop_words.specs.Locking.{lock_of}
use Rattle.hop_words.proofs.Locked.{head_there}
use Rattle.hop_map.specs.LockedSegment.{Locked, child_front}
use Rattle.hop_map.specs.Private.LockedSegment.{seen_words, written}
use Rattle.hop_map.proofs.Dividing.{head_beside, head_else}
use Rattle.hop_map.proofs.pair.SplitWordsChildWords.set_child_head.Goals as goal

pub write_beside-requires-clause-beside : goal.write_beside-requires-clause-beside
write_beside-requires-clause-beside c =
    let x = c.self.inside.words in
    let at = c.head_place-place.ensures ∙ (λ j. Head (c.map.ensures.map j) (c.self.invariant.0 j)) in
    subst (IsWordBeside x.known) (sym at) (c.map.ensures.ready.map, refl)

pub returns-clause-words : goal.returns-clause-words
returns-clause-words c =
    let x = c.self.inside.words in
    let cx = child (lock_of x.known) in
    let at = c.head_place-place.ensures ∙ (λ j. Head (c.map.ensures.map j) (c.self.invariant.0 j)) in
    let seg = subst (IsSegment x.about x.map) c.self.invariant.0 c.self.invariant.1 in
    let is = c.write_beside.ensures.written ∙ (ap (λ (p : Place). written x p c.link_word.result) at ∙ ap (written x (Head x.map cx))
    c.link_word.ensures.word) in
    head_else x c.map.ensures.ready (link_word c.args.element) c.write_beside.new.self (head_there x.about x.map cx seg) is ∙ ap seen_words c.self.view_is

pub returns-clause-child : goal.returns-clause-child
returns-clause-child c =
    let x = c.self.inside.words in
    let cx = child (lock_of x.known) in
    let at = c.head_place-place.ensures ∙ (λ j. Head (c.map.ensures.map j) (c.self.invariant.0 j)) in
    let seg = subst (IsSegment x.about x.map) c.self.invariant.0 c.self.invariant.1 in
    let is = c.write_beside.ensures.written ∙ (ap (λ (p : Place). written x p c.link_word.result) at ∙ ap (written x (Head x.map cx))
    c.link_word.ensures.word) in
    head_beside x c.map.ensures.ready c.args.element c.write_beside.new.self c.link_word.ensures.small (head_there x.about x.map cx seg) is
    ∙ ap (λ (x : Locked). record (child_front x) { head = c.args.element }) c.self.view_is
