use Rattle.std.proofs.Common.{ℕ, ◌⊎◌, [], ◌≡◌, subst}
use Rattle.hop_words.specs.Ghost.{limbo_at}
use Rattle.hop_epoch.specs.Batch.{KeepsBatches, SeesRunning}
use Rattle.hop_map.proofs.Wholes.{found_after, kept_runs}
use Rattle.hop_map.proofs.updating.reclaim_and_claim.Goals as goal

pub returns-clause-claimed : goal.returns-clause-claimed
returns-clause-claimed c =
    let a = c.args.table.now.about in
    let m = c.args.arena.now.map in
    let l = c.args.lane.now.known in
    let l2 = c.reclaim.new.lane.known in
    let l3 = c.claim_near.new.lane.known in
    let same = c.requires.batches.0 in
    found_after a m l l2 l3
    (subst (λ (i : ℕ). KeepsBatches i l l2) same c.reclaim.ensures.keeps)
    (subst (λ (i : ℕ). (limbo_at l2.limbo i).old ≡ [] → (limbo_at l2.limbo i).young ≡ []) same c.reclaim.ensures.empty)
    (subst (λ (i : ℕ). ((limbo_at l2.limbo i).old ≡ []) ⊎ SeesRunning i l l2) same c.reclaim.ensures.blocked)
    c.claim_near.result c.claim_near.ensures.claimed

pub claim_near-requires-clause-runs : goal.claim_near-requires-clause-runs
claim_near-requires-clause-runs c = kept_runs _ c.args.lane.now.known c.reclaim.new.lane.known c.reclaim.ensures.keeps c.requires.runs
