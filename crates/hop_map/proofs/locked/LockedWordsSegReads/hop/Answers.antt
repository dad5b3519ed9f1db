use Rattle.std.proofs.Common.{ap, subst, ◌∙◌}
use Rattle.hop_layout.specs.declared.place.Place.TheVariants.{Hop}
use Rattle.hop_map.specs.LockedSegment.{Locked, Ready}
use Rattle.hop_map.proofs.Readings.{hop_read, hop_at}
use Rattle.hop_map.proofs.locked.LockedWordsSegReads.hop.Goals as goal

pub returns-clause-value : goal.returns-clause-value
returns-clause-value c = λ w a.
    let ready = subst (λ (x : Locked). Ready x.about x.known x.map x.segment) c.self.view_is c.self.invariant.ready in
    let at = c.hop_place-place.ensures ∙ ap (λ (x : Locked). Hop x.map x.segment c.args.bucket) c.self.view_is in
    c.hop_bits.ensures ∙ hop_read c.args.self.now c.read_in.new.self c.hop_place-place.result c.read_in.result ready c.read_in.ensures.same
    c.read_in.ensures.value w a c.args.bucket at

pub read_in-requires-clause-word : goal.read_in-requires-clause-word
read_in-requires-clause-word c =
    let x = c.args.self.now in
    let at = c.hop_place-place.ensures ∙ ap (λ (x : Locked). Hop x.map x.segment c.args.bucket) c.self.view_is in
    hop_at x.about x.map x.segment c.hop_place-place.result c.args.bucket c.requires at
