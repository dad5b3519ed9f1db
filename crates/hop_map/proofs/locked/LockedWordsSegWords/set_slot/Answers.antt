use Rattle.std.proofs.Common.{ap, subst, ◌∙◌, refl}
use Rattle.hop_layout.specs.declared.place.Place.{Place}
use Rattle.hop_layout.specs.declared.place.Place.TheVariants.{Slot}
use Rattle.hop_map.specs.LockedSegment.{Locked, Ready}
use Rattle.hop_map.specs.Private.LockedSegment.{written}
use Rattle.hop_words.proofs.Locked.{slot_there}
use Rattle.hop_map.proofs.Readings.{slot_at}
use Rattle.hop_map.proofs.Writings.{slot_set, own_kept, stays_by}
use Rattle.hop_epoch.specs.Batch.{link_word}
use Rattle.hop_map.proofs.locked.LockedWordsSegWords.set_slot.Goals as goal

pub returns-clause-words : goal.returns-clause-words
returns-clause-words c =
    let x = c.args.self.now in
    let ready = subst (λ (x : Locked). Ready x.about x.known x.map x.segment) c.self.view_is c.self.invariant.ready in
    let at = c.slot_place-slot.ensures ∙ ap (λ (x : Locked). Slot x.map x.segment c.args.place) c.self.view_is in
    let is = c.write_in.ensures.written ∙ (ap (λ (p : Place). written x p c.link_word.result) at ∙ ap
    (written x (Slot x.map x.segment c.args.place)) c.link_word.ensures.word) in
    slot_set x ready c.args.place c.args.item c.write_in.new.self c.link_word.ensures.small
    (slot_there x.about x.map x.segment c.args.place ready.inside c.requires) is

pub returns-clause-stays : goal.returns-clause-stays
returns-clause-stays c =
    let x = c.args.self.now in
    let ready = subst (λ (x : Locked). Ready x.about x.known x.map x.segment) c.self.view_is c.self.invariant.ready in
    let at = c.slot_place-slot.ensures ∙ ap (λ (x : Locked). Slot x.map x.segment c.args.place) c.self.view_is in
    let is = c.write_in.ensures.written ∙ (ap (λ (p : Place). written x p c.link_word.result) at ∙ ap
    (written x (Slot x.map x.segment c.args.place)) c.link_word.ensures.word) in
    stays_by x (Slot x.map x.segment c.args.place) (link_word c.args.item) c.write_in.new.self
    (own_kept x ready (Slot x.map x.segment c.args.place) (link_word c.args.item)
    (slot_there x.about x.map x.segment c.args.place ready.inside c.requires) refl c.write_in.new.self is) is

pub write_in-requires-clause-word : goal.write_in-requires-clause-word
write_in-requires-clause-word c =
    let x = c.args.self.now in
    let at = c.slot_place-slot.ensures ∙ ap (λ (x : Locked). Slot x.map x.segment c.args.place) c.self.view_is in
    slot_at x.about x.map x.segment c.slot_place-slot.result c.args.place c.requires at
