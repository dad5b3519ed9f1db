use Rattle.std.proofs.Common.{◌≡◌, ◌⊎◌, ℕ, ◌<◌, [], length, ap, subst, ◌∙◌, arith}
use Rattle.std.proofs.lemmas.List.{get_or_default}
use Rattle.hop_epoch.specs.declared.batches.Batches.{Batches}
use Rattle.hop_words.specs.Ghost.{limbo_at}
use Rattle.hop_epoch.specs.Batch.{KeepsBatches, Tracks, SeesRunning}
use Rattle.hop_map.specs.Port.{batches_at, no_batches}
use Rattle.hop_map.proofs.Ports.{reclaims, reclaimed_now, reclaimed_more}
use Rattle.hop_map.proofs.leaving.leave_run.Goals as goal

pub maps-preserved : goal.maps-preserved
maps-preserved c =
    let i = c.maps.invariant in
    let here : c.maps.map < length c.args.table.now.about.shape.maps = let z = c.maps-test.true in let n = i.2 in omega arith in
    let bs = c.maps.batches.items in
    let l = c.maps.lane.known in
    let l2 = c.reclaim.new.lane.known in
    let e = c.reclaim.ensures in
    let b = c.reclaim.new.self in
    let old : c.index_mut.result.now ≡ batches_at bs c.maps.map = c.index_mut.ensures.value ∙ get_or_default bs c.maps.map
    c.index_mut.result.now no_batches (let n = i.1.batches.size in omega arith) in
    let name : c.index_mut.result.now.map ≡ c.maps.map = ap (λ (x : Batches). x.map) old ∙ i.1.batches.map c.maps.map here in
    let keeps : KeepsBatches c.maps.map l l2 = subst (λ (k : ℕ). KeepsBatches k l l2) name e.keeps in (
      e.table ∙ i.0,
      reclaims c.args.table.now c.end_run.new.lane.known l l2 c.maps.map bs b here (e.map ∙ name)
          keeps
          (subst (λ (k : ℕ). Tracks c.args.table.now.about l2 k b.young b.aged b.noted) (e.map ∙ name) e.tracks) i.1,
      i.2,
      reclaimed_more c.maps.map c.end_run.new.lane.known.tally l l2 keeps i.3
          (reclaimed_now c.maps.map c.end_run.new.lane.known.tally l l2 i.1.sights
          (subst (λ (k : ℕ). (limbo_at l2.limbo k).old ≡ [] → (limbo_at l2.limbo k).young ≡ []) name e.empty)
          (subst (λ (k : ℕ). ((limbo_at l2.limbo k).old ≡ []) ⊎ SeesRunning k l l2) name e.blocked)),
    )
