use Rattle.std.proofs.Common.{ap, subst, ◌∙◌, refl}
use Rattle.hop_layout.specs.declared.place.Place.{Place}
use Rattle.hop_layout.specs.declared.place.Place.TheVariants.{Hop}
use Rattle.hop_map.specs.LockedSegment.{Locked, Ready}
use Rattle.hop_map.specs.Private.LockedSegment.{written}
use Rattle.hop_words.proofs.Locked.{hop_there}
use Rattle.hop_map.proofs.Readings.{hop_at}
use Rattle.hop_map.proofs.Writings.{hop_set, own_kept, stays_by}
use Rattle.hop_map.proofs.locked.LockedWordsSegWords.set_hop.Goals as goal

pub returns-clause-words : goal.returns-clause-words
returns-clause-words c =
    let x = c.args.self.now in
    let ready = subst (λ (x : Locked). Ready x.about x.known x.map x.segment) c.self.view_is c.self.invariant.ready in
    let at = c.hop_place-place.ensures ∙ ap (λ (x : Locked). Hop x.map x.segment c.args.bucket) c.self.view_is in
    let is = c.write_in.ensures.written ∙ (ap (λ (p : Place). written x p c.from.result) at ∙ ap
    (written x (Hop x.map x.segment c.args.bucket)) c.from.ensures) in
    hop_set x ready c.args.bucket c.args.bits c.write_in.new.self c.ranges.bits.fits
    (hop_there x.about x.map x.segment c.args.bucket ready.inside c.requires) is

pub returns-clause-stays : goal.returns-clause-stays
returns-clause-stays c =
    let x = c.args.self.now in
    let ready = subst (λ (x : Locked). Ready x.about x.known x.map x.segment) c.self.view_is c.self.invariant.ready in
    let at = c.hop_place-place.ensures ∙ ap (λ (x : Locked). Hop x.map x.segment c.args.bucket) c.self.view_is in
    let is = c.write_in.ensures.written ∙ (ap (λ (p : Place). written x p c.from.result) at ∙ ap
    (written x (Hop x.map x.segment c.args.bucket)) c.from.ensures) in
    stays_by x (Hop x.map x.segment c.args.bucket) c.args.bits c.write_in.new.self
    (own_kept x ready (Hop x.map x.segment c.args.bucket) c.args.bits
    (hop_there x.about x.map x.segment c.args.bucket ready.inside c.requires) refl c.write_in.new.self is) is

pub write_in-requires-clause-word : goal.write_in-requires-clause-word
write_in-requires-clause-word c =
    let x = c.args.self.now in
    let at = c.hop_place-place.ensures ∙ ap (λ (x : Locked). Hop x.map x.segment c.args.bucket) c.self.view_is in
    hop_at x.about x.map x.segment c.hop_place-place.result c.args.bucket c.requires at
