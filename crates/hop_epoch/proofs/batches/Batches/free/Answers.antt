use Rattle.std.proofs.Common.{ℕ, List, Option, refl, ap, sym, subst, ◌∙◌}
use Rattle.hop_words.specs.declared.known.Known.{Known}
use Rattle.hop_words.specs.declared.known.Limbo.{Limbo}
use Rattle.hop_words.specs.Sights.{bit_set}
use Rattle.hop_words.specs.Ghost.{limbo_at}
use Rattle.hop_words.specs.Kinds.{giving_old}
use Rattle.hop_words.specs.Owning.{tail_of, GivesOld}
use Rattle.hop_epoch.specs.Batch.{Notes, Tracks, KeepsBatches}
use Rattle.hop_epoch.proofs.Batching.{at_set, keeps_then, keeps_set, keeps_sighted, gives_on}
use Rattle.hop_words.proofs.Sighted.{set_leaves}
use Rattle.hop_epoch.proofs.batches.Batches.free.Goals as goal

pub loop-left-preserved : goal.loop-left-preserved
loop-left-preserved c =
    let i = c.loop-left.invariant in
    let a = c.args.table.now.about in
    let b = c.args.self.now in
    let m = b.map in
    let k = c.loop-left.lane.known in
    let new = c.give_old_bit.new.self.known in
    let found = c.give_old_bit.ensures.given.0 in
    let e = c.in-Some.element in
    let s = bit_set m e found in
    let given = subst (λ (y : Known). GivesOld y m e found new) c.read_old_link-link.ensures.same c.give_old_bit.ensures.given.1 in
    let tracks = subst (λ (o : Option ℕ). Tracks a k m b.young o b.noted) c.in-Some.is i.1 in
    let notes = subst (λ (ks : List ℕ). Notes a ks b.noted) (sym i.4) c.requires.notes in
    let x : Limbo = record (limbo_at k.limbo m) { old = tail_of (limbo_at k.limbo m).old } in
    let now = at_set k m x i.1.room in (
      c.give_old_bit.ensures.table ∙ (c.read_old_link-link.ensures.table ∙ i.0),
      subst (λ (o : Option ℕ). Tracks a new m b.young o b.noted) (sym c.element_of-left.ensures)
          (gives_on a m e c.args.lane.now.known k new s b.young b.noted c.read_old_link-link.result
          c.requires.shape tracks notes given c.read_old_link-link.ensures.link),
      keeps_then m c.args.lane.now.known k new i.2 (subst (KeepsBatches m k) (sym given)
          (keeps_sighted m k (giving_old k m x.old) s (set_leaves m e found) (keeps_set m k x i.1.room refl))),
      ap (λ (y : Known). (limbo_at y.limbo m).young) given ∙ (ap (λ (y : Limbo). y.young) now ∙ i.3),
      ap (λ (y : Known). (limbo_at y.limbo m).noted) given ∙ (ap (λ (y : Limbo). y.noted) now ∙ i.4),
    )
