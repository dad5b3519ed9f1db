use Rattle.std.proofs.Common.{ap, subst, ◌∙◌}
use Rattle.hop_layout.specs.declared.place.Place.TheVariants.{Head}
use Rattle.hop_map.specs.LockedSegment.{Locked, Ready}
use Rattle.hop_map.proofs.Readings.{head_read, head_at}
use Rattle.hop_map.proofs.locked.LockedWordsSegReads.head.Goals as goal

pub returns-clause-value : goal.returns-clause-value
returns-clause-value c = λ w a.
    let ready = subst (λ (x : Locked). Ready x.about x.known x.map x.segment) c.self.view_is c.self.invariant.ready in
    let at = c.head_place-place.ensures ∙ ap (λ (x : Locked). Head x.map x.segment) c.self.view_is in
    c.item.ensures ∙ head_read c.args.self.now c.read_in.new.self c.head_place-place.result c.read_in.result ready c.read_in.ensures.same
    c.read_in.ensures.value w a at

pub read_in-requires-clause-word : goal.read_in-requires-clause-word
read_in-requires-clause-word c =
    let x = c.args.self.now in
    let at = c.head_place-place.ensures ∙ ap (λ (x : Locked). Head x.map x.segment) c.self.view_is in
    head_at x.about x.map x.segment c.head_place-place.result at
