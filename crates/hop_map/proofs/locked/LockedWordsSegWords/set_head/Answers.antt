use Rattle.std.proofs.Common.{ap, subst, ◌∙◌, refl}
use Rattle.hop_layout.specs.declared.place.Place.{Place}
use Rattle.hop_layout.specs.declared.place.Place.TheVariants.{Head}
use Rattle.hop_map.specs.LockedSegment.{Locked, Ready}
use Rattle.hop_map.specs.Private.LockedSegment.{written}
use Rattle.hop_words.proofs.Locked.{head_there}
use Rattle.hop_map.proofs.Readings.{head_at}
use Rattle.hop_map.proofs.Writings.{head_set, own_kept, stays_by}
use Rattle.hop_epoch.specs.Batch.{link_word}
use Rattle.hop_map.proofs.locked.LockedWordsSegWords.set_head.Goals as goal

pub returns-clause-words : goal.returns-clause-words
returns-clause-words c =
    let x = c.args.self.now in
    let ready = subst (λ (x : Locked). Ready x.about x.known x.map x.segment) c.self.view_is c.self.invariant.ready in
    let at = c.head_place-place.ensures ∙ ap (λ (x : Locked). Head x.map x.segment) c.self.view_is in
    let is = c.write_in.ensures.written ∙ (ap (λ (p : Place). written x p c.link_word.result) at ∙ ap (written x (Head x.map x.segment))
    c.link_word.ensures.word) in
    head_set x ready c.args.element c.write_in.new.self c.link_word.ensures.small (head_there x.about x.map x.segment ready.inside) is

pub returns-clause-stays : goal.returns-clause-stays
returns-clause-stays c =
    let x = c.args.self.now in
    let ready = subst (λ (x : Locked). Ready x.about x.known x.map x.segment) c.self.view_is c.self.invariant.ready in
    let at = c.head_place-place.ensures ∙ ap (λ (x : Locked). Head x.map x.segment) c.self.view_is in
    let is = c.write_in.ensures.written ∙ (ap (λ (p : Place). written x p c.link_word.result) at ∙ ap (written x (Head x.map x.segment))
    c.link_word.ensures.word) in
    stays_by x (Head x.map x.segment) (link_word c.args.element) c.write_in.new.self
    (own_kept x ready (Head x.map x.segment) (link_word c.args.element) (head_there x.about x.map x.segment ready.inside) refl
    c.write_in.new.self is) is

pub write_in-requires-clause-word : goal.write_in-requires-clause-word
write_in-requires-clause-word c =
    let x = c.args.self.now in
    let at = c.head_place-place.ensures ∙ ap (λ (x : Locked). Head x.map x.segment) c.self.view_is in
    head_at x.about x.map x.segment c.head_place-place.result at
