use Rattle.std.proofs.Common.{refl, ap, sym, subst, ◌∙◌}
use Rattle.hop_layout.specs.declared.place.Place.{Place}
use Rattle.hop_layout.specs.declared.place.Place.TheVariants.{Slot}
use Rattle.hop_epoch.specs.Batch.{link_word}
use Rattle.hop_seg.specs.Split.{front_with_slot}
use Rattle.hop_words.specs.Ghost.{child, IsSegment}
use Rattle.hop_words.specs.Guarded.{IsWordBeside}
use Rattle.hop_words.specs.Locking.{lock_of}
use Rattle.hop_words.proofs.Locked.{slot_there}
use Rattle.hop_map.specs.LockedSegment.{Locked, child_front}
use Rattle.hop_map.specs.Private.LockedSegment.{seen_words, written}
use Rattle.hop_map.proofs.Dividing.{slot_beside, slot_else}
use Rattle.hop_map.proofs.pair.SplitWordsChildWords.set_child_slot.Goals as goal

pub write_beside-requires-clause-beside : goal.write_beside-requires-clause-beside
write_beside-requires-clause-beside c =
    let x = c.self.inside.words in
    let at = c.slot_place-slot.ensures ∙ (λ j. Slot (c.map.ensures.map j) (c.self.invariant.0 j) c.args.place) in
    subst (IsWordBeside x.known) (sym at) (c.map.ensures.ready.map, refl)

pub returns-clause-words : goal.returns-clause-words
returns-clause-words c =
    let x = c.self.inside.words in
    let cx = child (lock_of x.known) in
    let at = c.slot_place-slot.ensures ∙ (λ j. Slot (c.map.ensures.map j) (c.self.invariant.0 j) c.args.place) in
    let seg = subst (IsSegment x.about x.map) c.self.invariant.0 c.self.invariant.1 in
    let is = c.write_beside.ensures.written ∙ (ap (λ (p : Place). written x p c.link_word.result) at ∙ ap
    (written x (Slot x.map cx c.args.place)) c.link_word.ensures.word) in
    slot_else x c.map.ensures.ready c.args.place (link_word c.args.item) c.write_beside.new.self
    (slot_there x.about x.map cx c.args.place seg c.requires) is ∙ ap seen_words c.self.view_is

pub returns-clause-child : goal.returns-clause-child
returns-clause-child c =
    let x = c.self.inside.words in
    let cx = child (lock_of x.known) in
    let at = c.slot_place-slot.ensures ∙ (λ j. Slot (c.map.ensures.map j) (c.self.invariant.0 j) c.args.place) in
    let seg = subst (IsSegment x.about x.map) c.self.invariant.0 c.self.invariant.1 in
    let is = c.write_beside.ensures.written ∙ (ap (λ (p : Place). written x p c.link_word.result) at ∙ ap
    (written x (Slot x.map cx c.args.place)) c.link_word.ensures.word) in
    slot_beside x c.map.ensures.ready c.args.place c.args.item c.write_beside.new.self c.link_word.ensures.small
    (slot_there x.about x.map cx c.args.place seg c.requires) is
    ∙ ap (λ (x : Locked). front_with_slot (child_front x) c.args.place c.args.item) c.self.view_is
