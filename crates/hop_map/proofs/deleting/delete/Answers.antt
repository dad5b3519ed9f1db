use Rattle.std.proofs.Common.{ℕ, ◌+◌, ◌-◌, ◌^◌, ◌<◌, ◌≤◌, [], length, ap, subst, ◌∙◌}
use Rattle.bpf_shared.specs.Shape.{elements}
use Rattle.bpf_shared.specs.declared.events.MapAnswer.TheVariants.{Done, Absent, Busy}
use Rattle.hop_words.specs.declared.known.Known.{Known}
use Rattle.hop_words.specs.Ghost.{shape_at, limbo_at}
use Rattle.hop_layout.specs.Layout.{gained}
use Rattle.hop_words.specs.Sights.{lock_taken}
use Rattle.hop_words.specs.Shortage.{done_in}
use Rattle.hop_words.specs.Kinds.{retiring}
use Rattle.hop_words.specs.Owning.{tail_of}
use Rattle.hop_map.specs.declared.dropping.Deletion.{Deletion}
use Rattle.hop_map.specs.Noting.{BusyFirst}
use Rattle.hop_map.specs.Private.Locks.{locked_with}
use Rattle.hop_map.specs.Private.Removals.{Dropped, Kept, DeleteEnds, answer_to}
use Rattle.hop_map.proofs.Wholes.{key_at_map, kept_called, dropped_called}
use Rattle.hop_map.proofs.Noted.{delete_notes}
use Rattle.hop_map.proofs.deleting.delete.Goals as goal

pub lock_and_delete-lane-requires-clause-names : goal.lock_and_delete-lane-requires-clause-names
lock_and_delete-lane-requires-clause-names g c =
    let l = c.args.lane.known in
    record {
      size = (key_at_map c.args.call.now.table.now.about c.args.call.now.map c.args.call.now.key.now c.requires.key).1;
      limbo = subst (λ (i : ℕ). i < length l.limbo) c.requires.batches.0 c.requires.batches.1.room;
      runs = c.requires.runs;
    }

pub returns-in-Gone-clause-called : goal.returns-in-Gone-clause-called
returns-in-Gone-clause-called g c =
    let a = c.args.call.now.table.now.about in
    let l = c.args.lane.known in
    let m = c.args.call.now.map in
    let key = c.args.call.now.key.now in
    let l2 = c.lock_and_delete-lane.result.0.known in
    let room : m < length l.limbo = subst (λ (i : ℕ). i < length l.limbo) c.requires.batches.0 c.requires.batches.1.room in
    let k = lock_taken m c.lock_and_delete-lane.ensures.ends.0 c.lock_and_delete-lane.ensures.ends.1 in
    let p : Dropped a (locked_with l k) m key c.in-Gone.old l2 × (c.in-Gone.old < elements (shape_at a m)) = subst
    (λ (d : Deletion). DeleteEnds a (locked_with l k) m key d l2) c.in-Gone.is c.lock_and_delete-lane.ensures.ends.3 in
    dropped_called a l k m key c.in-Gone.old l2 c.requires.rests room p.0 c.retire.new.lane.known
    (c.retire.ensures.retired ∙ (λ j. retiring l2 (c.new-used.ensures.map j) (c.new-used.ensures.number j)
    (tail_of (limbo_at l2.limbo (c.new-used.ensures.map j)).used)))

pub returns-in-Missing-clause-called : goal.returns-in-Missing-clause-called
returns-in-Missing-clause-called g c =
    let a = c.args.call.now.table.now.about in
    let l = c.args.lane.known in
    let m = c.args.call.now.map in
    let key = c.args.call.now.key.now in
    let l2 = c.lock_and_delete-lane.result.0.known in
    let k = lock_taken m c.lock_and_delete-lane.ensures.ends.0 c.lock_and_delete-lane.ensures.ends.1 in
    let p : Kept a (locked_with l k) m key Absent l2 = subst (λ (d : Deletion). DeleteEnds a (locked_with l k) m key d l2) c.in-Missing.is
    c.lock_and_delete-lane.ensures.ends.3 in
    kept_called a l k m key Absent l2 c.requires.rests p

pub returns-in-Worn-clause-called : goal.returns-in-Worn-clause-called
returns-in-Worn-clause-called g c =
    let a = c.args.call.now.table.now.about in
    let l = c.args.lane.known in
    let m = c.args.call.now.map in
    let key = c.args.call.now.key.now in
    let l2 = c.lock_and_delete-lane.result.0.known in
    let k = lock_taken m c.lock_and_delete-lane.ensures.ends.0 c.lock_and_delete-lane.ensures.ends.1 in
    let p : Kept a (locked_with l k) m key Busy l2 × (2 ^ 56 - 1 ≤ a.version + gained (shape_at a m) + done_in m l2.seen) = subst
    (λ (d : Deletion). DeleteEnds a (locked_with l k) m key d l2) c.in-Worn.is c.lock_and_delete-lane.ensures.ends.3 in
    kept_called a l k m key Busy l2 c.requires.rests p.0

pub returns-in-Gone-clause-noted : goal.returns-in-Gone-clause-noted
returns-in-Gone-clause-noted g c =
    let a = c.args.call.now.table.now.about in
    let l = c.args.lane.known in
    let m = c.args.call.now.map in
    let key = c.args.call.now.key.now in
    let ends = c.lock_and_delete-lane.ensures.ends in
    let l2 = c.lock_and_delete-lane.result.0.known in
    let k = lock_taken m ends.0 ends.1 in
    let p : Dropped a (locked_with l k) m key c.in-Gone.old l2 × (c.in-Gone.old < elements (shape_at a m)) = subst
    (λ (d : Deletion). DeleteEnds a (locked_with l k) m key d l2) c.in-Gone.is ends.3 in
    delete_notes a l m key Done c.retire.new.lane.known ends.0 ends.1 ends.2 []
    (ap (λ (q : Known). q.tally) c.retire.ensures.retired ∙ ap (λ (q : Known). q.tally) p.0.after) tt
    (subst (λ (d : Deletion). BusyFirst ends.1 (answer_to d)) c.in-Gone.is ends.4)

pub returns-in-Missing-clause-noted : goal.returns-in-Missing-clause-noted
returns-in-Missing-clause-noted g c =
    let a = c.args.call.now.table.now.about in
    let l = c.args.lane.known in
    let m = c.args.call.now.map in
    let key = c.args.call.now.key.now in
    let ends = c.lock_and_delete-lane.ensures.ends in
    let l2 = c.lock_and_delete-lane.result.0.known in
    let k = lock_taken m ends.0 ends.1 in
    let p : Kept a (locked_with l k) m key Absent l2 = subst (λ (d : Deletion). DeleteEnds a (locked_with l k) m key d l2) c.in-Missing.is ends.3 in
    delete_notes a l m key Absent l2 ends.0 ends.1 ends.2 [] (ap (λ (q : Known). q.tally) p.after) tt
    (subst (λ (d : Deletion). BusyFirst ends.1 (answer_to d)) c.in-Missing.is ends.4)

pub returns-in-Worn-clause-noted : goal.returns-in-Worn-clause-noted
returns-in-Worn-clause-noted g c =
    let a = c.args.call.now.table.now.about in
    let l = c.args.lane.known in
    let m = c.args.call.now.map in
    let key = c.args.call.now.key.now in
    let ends = c.lock_and_delete-lane.ensures.ends in
    let l2 = c.lock_and_delete-lane.result.0.known in
    let k = lock_taken m ends.0 ends.1 in
    let p : Kept a (locked_with l k) m key Busy l2 × (2 ^ 56 - 1 ≤ a.version + gained (shape_at a m) + done_in m l2.seen) = subst
    (λ (d : Deletion). DeleteEnds a (locked_with l k) m key d l2) c.in-Worn.is ends.3 in
    delete_notes a l m key Busy l2 ends.0 ends.1 ends.2 [] (ap (λ (q : Known). q.tally) p.0.after) tt
    (subst (λ (d : Deletion). BusyFirst ends.1 (answer_to d)) c.in-Worn.is ends.4)
