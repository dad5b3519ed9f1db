use Rattle.std.proofs.Common.{ℕ, ◌<◌, [], length, refl, ap, subst, ◌∙◌, arith}
use Rattle.hop_words.specs.declared.known.Known.{Known}
use Rattle.hop_words.specs.Sights.{lock_taken}
use Rattle.hop_map.specs.Call.{SearchesInVain}
use Rattle.hop_map.specs.Private.Call.{HoldsNew}
use Rattle.hop_map.proofs.Wholes.{holds_new, pair_at, kept_runs, lacks_of, searched_on, lock_leaves, saw_all}
use Rattle.hop_map.proofs.Noted.{update_notes, notes_after, spilled_after}
use Rattle.hop_map.proofs.updating.update.Goals as goal

pub lock_and_refuse-lane-requires-clause-brought : goal.lock_and_refuse-lane-requires-clause-brought
lock_and_refuse-lane-requires-clause-brought g c =
    let a = c.args.call.now.table.now.about in
    let l1 = c.claim_free.new.lane.known in
    let pair = pair_at a c.args.call.now.map c.args.call.now.request.key.now c.args.call.now.request.value.now c.requires.pair in
    let batches = c.claim_free.ensures.batches in
    record {
      key_size = pair.1;
      size = pair.2;
      are_bytes = c.remember.ensures;
      flags_known = c.if-flags-gt2.false;
      limbo = subst (λ (i : ℕ). i < length l1.limbo) (batches.0 ∙ c.requires.arena.0) batches.1.room;
      runs = kept_runs c.args.arena.now.map c.args.lane.known l1 c.in-None.ensures.claimed.0 c.requires.runs;
    }

pub returns-in-Some-clause-lacks : goal.returns-in-Some-clause-lacks
returns-in-Some-clause-lacks g c =
    lacks_of c.args.call.now.table.now.about c.args.lane.known c.args.call.now.map c.fill_and_put.result.1 c.fill_and_put.result.0.known
    c.fill_and_put.ensures.worn
    (λ is. absurd (c.fill_and_put.ensures.served is))

pub returns-in-None-clause-lacks : goal.returns-in-None-clause-lacks
returns-in-None-clause-lacks g c =
    let a = c.args.call.now.table.now.about in
    let l = c.args.lane.known in
    let m = c.args.call.now.map in
    let l1 = c.claim_free.new.lane.known in
    let l2 = c.lock_and_refuse-lane.result.0.known in
    let s = c.lock_and_refuse-lane.ensures.refused.0 in
    let n = c.lock_and_refuse-lane.ensures.refused.1 in
    let p = c.lock_and_refuse-lane.ensures.refused.3 in
    let k = lock_taken m s n in
    lacks_of a l m c.lock_and_refuse-lane.result.1 l2 p.worn
    (λ _. searched_on a l m l1 l2 k (subst (λ (i : ℕ). SearchesInVain a l i l1) c.requires.arena.0 c.in-None.ensures.claimed.1) (lock_leaves m m s n)
    (ap (λ (q : Known). q.tally) p.after) (ap (λ (q : Known). q.limbo) p.after))

pub returns-then-flags-gt2-clause-noted : goal.returns-then-flags-gt2-clause-noted
returns-then-flags-gt2-clause-noted g c =
    let many = c.if-flags-gt2.true in
    ([], ap (λ (q : Known). q.tally) c.see_count_misflagged.ensures.answered.after, ((λ few. absurd (omega arith)), (λ _. refl)))

pub returns-in-Some-clause-noted : goal.returns-in-Some-clause-noted
returns-in-Some-clause-noted g c =
    let kept = c.in-Some.ensures.claimed.0 in
    notes_after c.args.call.now.table.now.about c.args.lane.known c.claim_free.new.lane.known c.args.call.now.map
    c.args.call.now.request.key.now c.args.call.now.request.value.now c.args.call.now.request.flags
    c.fill_and_put.result.1 c.fill_and_put.result.0.known kept.sights.0 c.if-flags-gt2.false kept.sights.1 kept.sights.2
    c.fill_and_put.ensures.noted

pub returns-in-None-clause-noted : goal.returns-in-None-clause-noted
returns-in-None-clause-noted g c =
    let a = c.args.call.now.table.now.about in
    let m = c.args.call.now.map in
    let key = c.args.call.now.request.key.now in
    let l1 = c.claim_free.new.lane.known in
    let l2 = c.lock_and_refuse-lane.result.0.known in
    let answer = c.lock_and_refuse-lane.result.1 in
    let refused = c.lock_and_refuse-lane.ensures.refused in
    let kept = c.in-None.ensures.claimed.0 in
    notes_after a c.args.lane.known l1 m key c.args.call.now.request.value.now c.args.call.now.request.flags answer l2 kept.sights.0
    c.if-flags-gt2.false kept.sights.1 kept.sights.2
    (update_notes a l1 m key answer l2 refused.0 refused.1 refused.2 [] (ap (λ (q : Known). q.tally) refused.3.after) tt refused.4
    c.args.call.now.request.value.now c.args.call.now.request.flags c.if-flags-gt2.false)

pub lock_and_refuse-lane-requires-clause-lacks : goal.lock_and_refuse-lane-requires-clause-lacks
lock_and_refuse-lane-requires-clause-lacks g c =
    saw_all c.args.call.now.table.now.about c.args.lane.known c.args.call.now.map c.claim_free.new.lane.known
    (c.in-None.ensures.claimed.0.fresh ∙ c.requires.rests.fresh)
    (subst (λ (i : ℕ). SearchesInVain c.args.call.now.table.now.about c.args.lane.known i c.claim_free.new.lane.known) c.requires.arena.0
    c.in-None.ensures.claimed.1)

pub returns-in-Some-clause-spilled : goal.returns-in-Some-clause-spilled
returns-in-Some-clause-spilled g c =
    let kept = c.in-Some.ensures.claimed.0 in
    spilled_after c.args.call.now.map c.args.lane.known c.claim_free.new.lane.known c.fill_and_put.result.0.known c.fill_and_put.result.1
    kept.sights.0 c.fill_and_put.result.2 kept.sights.1 c.fill_and_put.ensures.spilled

pub fill_and_put-requires-clause-new : goal.fill_and_put-requires-clause-new
fill_and_put-requires-clause-new g c = subst (λ (i : ℕ). HoldsNew c.claim_free.new.lane.known i c.in-Some.element.number) c.requires.arena.0
    (holds_new c.args.lane.known c.claim_free.new.lane.known c.args.arena.now.map c.in-Some.element.number c.requires.rests.fresh c.in-Some.ensures.claimed.0)
