use Rattle.std.proofs.Common.{ℕ, Some, None, Option, sym, subst, ◌∙◌}
use Rattle.hop_words.specs.declared.known.Known.{Known}
use Rattle.hop_arena.specs.declared.element.Element.{Element}
use Rattle.hop_epoch.specs.Batch.{KeepsBatches}
use Rattle.hop_epoch.proofs.Batching.{keeps_then}
use Rattle.hop_map.specs.Call.{Searches, AreBatchesOf}
use Rattle.hop_map.specs.Private.Updates.{ClaimsOrLacks}
use Rattle.hop_map.proofs.Wholes.{found_later}
use Rattle.hop_map.proofs.updating.claim_patiently.Goals as goal

pub returns-in-Some-clause-claimed : goal.returns-in-Some-clause-claimed
returns-in-Some-clause-claimed c =
    let a = c.args.table.now.about in
    let i = c.patience.invariant in
    let k = c.patience.lane.known in
    let l' = c.reclaim_and_claim.new.lane.known in
    let e = c.in-Some.element in
    found_later a c.args.arena.now.map c.args.lane.now.known k l' i.keeps (Some e)
    (subst (λ (n : ℕ). ClaimsOrLacks a k n (Some e) l') i.arena.0 c.in-Some.ensures.claimed)

pub returns-then-not-waits_for_others-clause-claimed : goal.returns-then-not-waits_for_others-clause-claimed
returns-then-not-waits_for_others-clause-claimed c =
    let a = c.args.table.now.about in
    let m = c.args.arena.now.map in
    let l = c.args.lane.now.known in
    let i = c.patience.invariant in
    let k = c.patience.lane.known in
    let l' = c.reclaim_and_claim.new.lane.known in
    let found : ClaimsOrLacks a k c.patience.arena.map None l' = subst (λ (o : Option Element). ClaimsOrLacks a k c.patience.arena.map o l')
    c.in_default.is c.reclaim_and_claim.ensures.claimed in
    subst (λ (z : Known). ClaimsOrLacks a l m None z) (sym c.waits_for_others.ensures.same)
    (found_later a m l k l' i.keeps None (subst (λ (n : ℕ). ClaimsOrLacks a k n None l') i.arena.0 found))

pub patience-preserved : goal.patience-preserved
patience-preserved c =
    let a = c.args.table.now.about in
    let m = c.args.arena.now.map in
    let l = c.args.lane.now.known in
    let i = c.patience.invariant in
    let k = c.patience.lane.known in
    let l' = c.reclaim_and_claim.new.lane.known in
    let e = c.reclaim_and_claim.ensures in
    let same = sym c.waits_for_others.ensures.same in
    let found : ClaimsOrLacks a k c.patience.arena.map None l' = subst (λ (o : Option Element). ClaimsOrLacks a k c.patience.arena.map o l')
    c.in_default.is e.claimed in
    record {
      table = c.waits_for_others.ensures.table ∙ (e.table ∙ i.table);
      keeps = subst (KeepsBatches m l) same (keeps_then m l k l' i.keeps (subst (λ (n : ℕ). KeepsBatches n k l') i.arena.0 found.0));
      arena = subst (λ (n : ℕ). Searches a n c.reclaim_and_claim.new.arena) i.arena.0 e.arena;
      batches = subst (λ (z : Known). AreBatchesOf a z m c.reclaim_and_claim.new.batches) same
          (subst (λ (n : ℕ). AreBatchesOf a l' n c.reclaim_and_claim.new.batches) i.arena.0 e.batches);
    }

pub returns-clause-claimed : goal.returns-clause-claimed
returns-clause-claimed c =
    let a = c.args.table.now.about in
    let i = c.patience.invariant in
    let k = c.patience.lane.known in
    let o = c.reclaim_and_claim-2.result in
    let l' = c.reclaim_and_claim-2.new.lane.known in
    found_later a c.args.arena.now.map c.args.lane.now.known k l' i.keeps o
    (subst (λ (n : ℕ). ClaimsOrLacks a k n o l') i.arena.0 c.reclaim_and_claim-2.ensures.claimed)
