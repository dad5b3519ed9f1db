use Rattle.std.proofs.Common.{ap, sym, subst, ◌∙◌}
use Rattle.hop_layout.specs.declared.place.Place.{Place}
use Rattle.hop_layout.specs.declared.place.Place.TheVariants.{Link}
use Rattle.hop_map.specs.LockedSegment.{Locked, Ready}
use Rattle.hop_map.specs.Private.LockedSegment.{written}
use Rattle.hop_words.specs.Guarded.{MayWrite}
use Rattle.hop_words.proofs.Locked.{link_there}
use Rattle.hop_map.proofs.Written.{mine}
use Rattle.hop_map.proofs.Writings.{next_set, front_kept, stays_by}
use Rattle.hop_epoch.specs.Batch.{link_word}
use Rattle.hop_map.proofs.locked.LockedWordsSegWords.set_next.Goals as goal

pub write-requires-clause-may : goal.write-requires-clause-may
write-requires-clause-may c =
    let x = c.args.self.now in
    let ready = subst (λ (x : Locked). Ready x.about x.known x.map x.segment) c.write.view_is c.write.invariant.ready in
    let at = c.link_place.ensures ∙ ap (λ (x : Locked). Link x.map c.args.element) c.write.view_is in
    subst (MayWrite x.about x.known) (sym at) (mine x.about x.known x.map x.segment c.args.element ready c.requires.0)

pub returns-clause-words : goal.returns-clause-words
returns-clause-words c =
    let x = c.args.self.now in
    let ready = subst (λ (x : Locked). Ready x.about x.known x.map x.segment) c.write.view_is c.write.invariant.ready in
    let at = c.link_place.ensures ∙ ap (λ (x : Locked). Link x.map c.args.element) c.write.view_is in
    let is = c.write-2.ensures.written ∙ (ap (λ (p : Place). written x p c.link_word.result) at ∙ ap (written x (Link x.map c.args.element))
    c.link_word.ensures.word) in
    next_set x ready c.args.element c.args.following c.write-2.new.self c.link_word.ensures.small
    (link_there x.about x.map c.args.element (ready.inside.0, c.requires.1)) is

pub returns-clause-stays : goal.returns-clause-stays
returns-clause-stays c =
    let x = c.args.self.now in
    let ready = subst (λ (x : Locked). Ready x.about x.known x.map x.segment) c.write.view_is c.write.invariant.ready in
    let at = c.link_place.ensures ∙ ap (λ (x : Locked). Link x.map c.args.element) c.write.view_is in
    let is = c.write-2.ensures.written ∙ (ap (λ (p : Place). written x p c.link_word.result) at ∙ ap (written x (Link x.map c.args.element))
    c.link_word.ensures.word) in
    stays_by x (Link x.map c.args.element) (link_word c.args.following) c.write-2.new.self
    (front_kept x ready (Link x.map c.args.element) (link_word c.args.following)
    (link_there x.about x.map c.args.element (ready.inside.0, c.requires.1)) (λ j e. cc) (λ j e. cc) (λ e. cc) c.write-2.new.self is) is
