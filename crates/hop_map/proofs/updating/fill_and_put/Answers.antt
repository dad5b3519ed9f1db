use Rattle.std.proofs.Common.{◌≢◌, ℕ, ◌+◌, ◌-◌, ◌^◌, ◌<◌, ◌≤◌, List, [], ◌∷◌, length, refl, ap, sym, subst, ◌∙◌, arith}
use Rattle.bpf_shared.specs.Shape.{IsMapShape}
use Rattle.bpf_shared.specs.declared.events.Entry.{Entry}
use Rattle.bpf_shared.specs.declared.events.MapAnswer.TheVariants.{Done, NoMemory}
use Rattle.hop_words.specs.declared.known.Known.{Known}
use Rattle.hop_words.specs.declared.known.Fresh.{Fresh}
use Rattle.hop_words.specs.declared.known.Sight.{Sight}
use Rattle.hop_layout.specs.Layout.{gained}
use Rattle.hop_words.specs.Ghost.{shape_at, limbo_at}
use Rattle.bpf_shared.specs.History.{events_of}
use Rattle.hop_words.specs.Shortage.{done_in, updates_of}
use Rattle.hop_words.specs.Kinds.{retiring}
use Rattle.hop_words.specs.Owning.{tail_of, IsInHand, IsUpdateAnswered}
use Rattle.hop_map.specs.declared.ending.Ending.{Ending}
use Rattle.hop_map.specs.Private.Replacing.{IsReplacement}
use Rattle.hop_words.specs.Sights.{lock_taken, bit_set}
use Rattle.hop_map.specs.Private.Locks.{Readies}
use Rattle.hop_map.specs.Private.UnderLock.{IsInsertion}
use Rattle.hop_map.specs.Noting.{BusyFirst}
use Rattle.hop_map.specs.Private.Locks.{locked_with}
use Rattle.hop_map.specs.Private.Updates.{Refusal, UpdateEnds, SpillsTo, answer_of}
use Rattle.hop_map.proofs.Wholes.{pair_at}
use Rattle.hop_words.proofs.Sighted.{set_leaves}
use Rattle.hop_map.proofs.Noted.{update_notes, spilled_last}
use Rattle.hop_map.proofs.Filled.{filled_readies, refused_answered, refused_hand, refused_called, over_called}
use Rattle.hop_map.proofs.updating.fill_and_put.Goals as goal

pub fill-requires-clause-hand : goal.fill-requires-clause-hand
fill-requires-clause-hand g c =
    let new = c.requires.new in
    let f : Fresh = record {
      map = c.args.call.now.map;
      element = c.args.element.number;
      update = updates_of c.args.call.now.map
          (events_of c.args.lane.known.cpu c.args.lane.known.seen);
      key = [];
      value = [];
    } in
    (f, new ∙ ap (λ (fs : List Fresh). f ∷ fs) (sym (ap tail_of new)), sym c.requires.map, refl)

pub fill-requires-clause-key : goal.fill-requires-clause-key
fill-requires-clause-key g c = (pair_at c.args.call.now.table.now.about c.args.call.now.map c.args.call.now.request.key.now
    c.args.call.now.request.value.now c.requires.pair).1 ∙ ap
    (λ (i : ℕ). (shape_at c.args.call.now.table.now.about i).key) (sym c.requires.map)

pub fill-requires-clause-value : goal.fill-requires-clause-value
fill-requires-clause-value g c = (pair_at c.args.call.now.table.now.about c.args.call.now.map c.args.call.now.request.key.now
    c.args.call.now.request.value.now c.requires.pair).2 ∙ ap
    (λ (i : ℕ). (shape_at c.args.call.now.table.now.about i).value) (sym c.requires.map)

pub fill-requires-clause-sizes : goal.fill-requires-clause-sizes
fill-requires-clause-sizes g c =
    let pair = pair_at c.args.call.now.table.now.about c.args.call.now.map c.args.call.now.request.key.now c.args.call.now.request.value.now c.requires.pair in
    let s = subst IsMapShape c.shape_of-sizes.ensures.shape c.shape_of-sizes.ensures.sizes in
    let k = pair.1 in
    let v = pair.2 in
    let most_key = s.key.1 in
    let most_value = s.value.1 in
    (omega arith, omega arith)

pub lock_and_put-lane-requires-clause-readies : goal.lock_and_put-lane-requires-clause-readies
lock_and_put-lane-requires-clause-readies g c =
    let a = c.args.call.now.table.now.about in
    let l = c.args.lane.known in
    let m = c.args.call.now.map in
    let e = c.args.element.number in
    let key = c.args.call.now.request.key.now in
    let bytes = c.args.call.now.request.value.now in
    let pair = pair_at a m key bytes c.requires.pair in
    let room : m < length l.limbo = subst (λ (i : ℕ). i < length l.limbo) c.requires.batches.0 c.requires.batches.1.room in
    subst (λ (n : ℕ). Readies a c.fill.new.lane.known m key bytes c.args.call.now.request.flags n) (sym c.number-number.ensures)
    (filled_readies a l m e c.requires.new key bytes c.fill.new.lane.known c.fill.ensures.filled c.args.call.now.request.flags c.requires.inside pair.1 pair.2
    c.remember.ensures c.remember-2.ensures
    c.requires.flags room c.requires.runs c.requires.idle)

pub give_back-requires-clause-hand : goal.give_back-requires-clause-hand
give_back-requires-clause-hand g c =
    let a = c.args.call.now.table.now.about in
    let l = c.args.lane.known in
    let m = c.args.call.now.map in
    let e = c.args.element.number in
    let key = c.args.call.now.request.key.now in
    let bytes = c.args.call.now.request.value.now in
    let room : m < length l.limbo = subst (λ (i : ℕ). i < length l.limbo) c.requires.batches.0 c.requires.batches.1.room in
    let k = lock_taken m c.lock_and_put-lane.ensures.ends.0 c.lock_and_put-lane.ensures.ends.1 in
    let p : Refusal a (locked_with c.fill.new.lane.known k) m key bytes c.args.call.now.request.flags c.in-Refused.answer c.lock_and_put-lane.result.0.known
    × (c.in-Refused.answer ≢ NoMemory) = subst (λ (q : Ending). UpdateEnds a (locked_with c.fill.new.lane.known k) m key bytes
    c.args.call.now.request.flags q c.lock_and_put-lane.result.0.known) c.in-Refused.is c.lock_and_put-lane.ensures.ends.3 in
    subst (λ (i : ℕ). IsInHand c.lock_and_put-lane.result.0.known i e) (sym c.requires.map)
    (refused_hand a l m e c.requires.new key bytes c.fill.new.lane.known c.fill.ensures.filled c.requires.used room c.args.call.now.request.flags k
    c.lock_and_put-lane.result.0.known c.in-Refused.answer p.0)

pub give_back-requires-clause-answered : goal.give_back-requires-clause-answered
give_back-requires-clause-answered g c =
    let a = c.args.call.now.table.now.about in
    let l = c.args.lane.known in
    let m = c.args.call.now.map in
    let e = c.args.element.number in
    let key = c.args.call.now.request.key.now in
    let bytes = c.args.call.now.request.value.now in
    let room : m < length l.limbo = subst (λ (i : ℕ). i < length l.limbo) c.requires.batches.0 c.requires.batches.1.room in
    let k = lock_taken m c.lock_and_put-lane.ensures.ends.0 c.lock_and_put-lane.ensures.ends.1 in
    let p : Refusal a (locked_with c.fill.new.lane.known k) m key bytes c.args.call.now.request.flags c.in-Refused.answer c.lock_and_put-lane.result.0.known
    × (c.in-Refused.answer ≢ NoMemory) = subst (λ (q : Ending). UpdateEnds a (locked_with c.fill.new.lane.known k) m key bytes
    c.args.call.now.request.flags q c.lock_and_put-lane.result.0.known) c.in-Refused.is c.lock_and_put-lane.ensures.ends.3 in
    subst (λ (i : ℕ). IsUpdateAnswered c.lock_and_put-lane.result.0.known i) (sym c.requires.map)
    (refused_answered a l m e c.requires.new key bytes c.fill.new.lane.known c.fill.ensures.filled c.requires.used room c.args.call.now.request.flags k
    c.lock_and_put-lane.result.0.known c.in-Refused.answer p.0)

pub returns-in-Replaced-clause-called : goal.returns-in-Replaced-clause-called
returns-in-Replaced-clause-called g c =
    let a = c.args.call.now.table.now.about in
    let l = c.args.lane.known in
    let m = c.args.call.now.map in
    let e = c.args.element.number in
    let key = c.args.call.now.request.key.now in
    let bytes = c.args.call.now.request.value.now in
    let room : m < length l.limbo = subst (λ (i : ℕ). i < length l.limbo) c.requires.batches.0 c.requires.batches.1.room in
    let k = lock_taken m c.lock_and_put-lane.ensures.ends.0 c.lock_and_put-lane.ensures.ends.1 in
    let p : IsReplacement a (locked_with c.fill.new.lane.known k) m key bytes c.args.call.now.request.flags c.in-Replaced.old
    c.lock_and_put-lane.result.0.known = subst (λ (q : Ending). UpdateEnds a (locked_with c.fill.new.lane.known k) m key bytes
    c.args.call.now.request.flags q c.lock_and_put-lane.result.0.known) c.in-Replaced.is c.lock_and_put-lane.ensures.ends.3 in
    let l2 = c.lock_and_put-lane.result.0.known in
    over_called a l m e c.requires.new key bytes c.fill.new.lane.known c.fill.ensures.filled c.requires.used room c.args.call.now.request.flags k
    c.lock_and_put-lane.result.0.known c.in-Replaced.old p c.retire.new.lane.known
    (c.retire.ensures.retired ∙ (λ j. retiring l2 (c.new-used.ensures.map j) (c.new-used.ensures.number j)
    (tail_of (limbo_at l2.limbo (c.new-used.ensures.map j)).used)))

pub returns-in-Refused-clause-called : goal.returns-in-Refused-clause-called
returns-in-Refused-clause-called g c =
    let a = c.args.call.now.table.now.about in
    let l = c.args.lane.known in
    let m = c.args.call.now.map in
    let e = c.args.element.number in
    let key = c.args.call.now.request.key.now in
    let bytes = c.args.call.now.request.value.now in
    let room : m < length l.limbo = subst (λ (i : ℕ). i < length l.limbo) c.requires.batches.0 c.requires.batches.1.room in
    let k = lock_taken m c.lock_and_put-lane.ensures.ends.0 c.lock_and_put-lane.ensures.ends.1 in
    let p : Refusal a (locked_with c.fill.new.lane.known k) m key bytes c.args.call.now.request.flags c.in-Refused.answer c.lock_and_put-lane.result.0.known
    × (c.in-Refused.answer ≢ NoMemory) = subst (λ (q : Ending). UpdateEnds a (locked_with c.fill.new.lane.known k) m key bytes
    c.args.call.now.request.flags q c.lock_and_put-lane.result.0.known) c.in-Refused.is c.lock_and_put-lane.ensures.ends.3 in
    refused_called a l m e c.requires.new key bytes c.fill.new.lane.known c.fill.ensures.filled c.requires.used room c.args.call.now.request.flags k
    c.lock_and_put-lane.result.0.known c.in-Refused.answer p.0 c.give_back.new.lane.known _ c.give_back.ensures.given.1

pub returns-in-Refused-clause-worn : goal.returns-in-Refused-clause-worn
returns-in-Refused-clause-worn g c =
    let a = c.args.call.now.table.now.about in
    let m = c.args.call.now.map in
    let key = c.args.call.now.request.key.now in
    let bytes = c.args.call.now.request.value.now in
    let k = lock_taken m c.lock_and_put-lane.ensures.ends.0 c.lock_and_put-lane.ensures.ends.1 in
    let p : Refusal a (locked_with c.fill.new.lane.known k) m key bytes c.args.call.now.request.flags c.in-Refused.answer c.lock_and_put-lane.result.0.known
    × (c.in-Refused.answer ≢ NoMemory) = subst (λ (q : Ending). UpdateEnds a (locked_with c.fill.new.lane.known k) m key bytes
    c.args.call.now.request.flags q c.lock_and_put-lane.result.0.known) c.in-Refused.is c.lock_and_put-lane.ensures.ends.3 in
    λ is. subst (λ (es : List Entry). 2 ^ 56 - 1 ≤ a.version + gained (shape_at a m) + done_in m es)
    (sym (ap (λ (q : Known). q.seen) c.give_back.ensures.given.1)) (p.0.worn is)

pub returns-in-Refused-clause-served : goal.returns-in-Refused-clause-served
returns-in-Refused-clause-served g c =
    let a = c.args.call.now.table.now.about in
    let m = c.args.call.now.map in
    let key = c.args.call.now.request.key.now in
    let bytes = c.args.call.now.request.value.now in
    let k = lock_taken m c.lock_and_put-lane.ensures.ends.0 c.lock_and_put-lane.ensures.ends.1 in
    let p : Refusal a (locked_with c.fill.new.lane.known k) m key bytes c.args.call.now.request.flags c.in-Refused.answer c.lock_and_put-lane.result.0.known
    × (c.in-Refused.answer ≢ NoMemory) = subst (λ (q : Ending). UpdateEnds a (locked_with c.fill.new.lane.known k) m key bytes
    c.args.call.now.request.flags q c.lock_and_put-lane.result.0.known) c.in-Refused.is c.lock_and_put-lane.ensures.ends.3 in
    p.1

pub returns-in-Added-clause-worn : goal.returns-in-Added-clause-worn
returns-in-Added-clause-worn g c = λ z. cc

pub returns-in-Added-clause-served : goal.returns-in-Added-clause-served
returns-in-Added-clause-served g c = λ z. cc

pub returns-in-Replaced-clause-worn : goal.returns-in-Replaced-clause-worn
returns-in-Replaced-clause-worn g c = λ z. cc

pub returns-in-Replaced-clause-served : goal.returns-in-Replaced-clause-served
returns-in-Replaced-clause-served g c = λ z. cc

pub returns-in-Added-clause-noted : goal.returns-in-Added-clause-noted
returns-in-Added-clause-noted g c =
    let a = c.args.call.now.table.now.about in
    let m = c.args.call.now.map in
    let key = c.args.call.now.request.key.now in
    let ends = c.lock_and_put-lane.ensures.ends in
    let l2 = c.lock_and_put-lane.result.0.known in
    let k = lock_taken m ends.0 ends.1 in
    let p : IsInsertion a (locked_with c.fill.new.lane.known k) m key c.args.call.now.request.value.now c.args.call.now.request.flags l2 = subst
    (λ (q : Ending). UpdateEnds a (locked_with c.fill.new.lane.known k) m key c.args.call.now.request.value.now
    c.args.call.now.request.flags q l2) c.in-Added.is ends.3 in
    update_notes a c.args.lane.known m key Done l2 ends.0 ends.1 ends.2 []
    (ap (λ (q : Known). q.tally) p.after ∙ ap (λ (q : Known). k ∷ q.tally) c.fill.ensures.filled) tt
    (subst (λ (q : Ending). BusyFirst ends.1 (answer_of q)) c.in-Added.is ends.4) c.args.call.now.request.value.now
    c.args.call.now.request.flags c.requires.flags

pub returns-in-Replaced-clause-noted : goal.returns-in-Replaced-clause-noted
returns-in-Replaced-clause-noted g c =
    let a = c.args.call.now.table.now.about in
    let m = c.args.call.now.map in
    let key = c.args.call.now.request.key.now in
    let ends = c.lock_and_put-lane.ensures.ends in
    let l2 = c.lock_and_put-lane.result.0.known in
    let k = lock_taken m ends.0 ends.1 in
    let p : IsReplacement a (locked_with c.fill.new.lane.known k) m key c.args.call.now.request.value.now c.args.call.now.request.flags
    c.in-Replaced.old l2 = subst
    (λ (q : Ending). UpdateEnds a (locked_with c.fill.new.lane.known k) m key c.args.call.now.request.value.now
    c.args.call.now.request.flags q l2) c.in-Replaced.is ends.3 in
    update_notes a c.args.lane.known m key Done c.retire.new.lane.known ends.0 ends.1 ends.2 []
    (ap (λ (q : Known). q.tally) c.retire.ensures.retired ∙ (ap (λ (q : Known). q.tally) p.after ∙ ap (λ (q : Known). k ∷ q.tally) c.fill.ensures.filled)) tt
    (subst (λ (q : Ending). BusyFirst ends.1 (answer_of q)) c.in-Replaced.is ends.4) c.args.call.now.request.value.now
    c.args.call.now.request.flags c.requires.flags

pub returns-in-Refused-clause-noted : goal.returns-in-Refused-clause-noted
returns-in-Refused-clause-noted g c =
    let a = c.args.call.now.table.now.about in
    let m = c.args.call.now.map in
    let key = c.args.call.now.request.key.now in
    let ends = c.lock_and_put-lane.ensures.ends in
    let l2 = c.lock_and_put-lane.result.0.known in
    let k = lock_taken m ends.0 ends.1 in
    let p : Refusal a (locked_with c.fill.new.lane.known k) m key c.args.call.now.request.value.now c.args.call.now.request.flags c.in-Refused.answer l2 ×
    (c.in-Refused.answer ≢ NoMemory) = subst (λ (q : Ending). UpdateEnds a (locked_with c.fill.new.lane.known k) m key
    c.args.call.now.request.value.now c.args.call.now.request.flags q l2) c.in-Refused.is ends.3 in
    let back = bit_set c.args.element.map c.args.element.number c.give_back.ensures.given.0 in
    update_notes a c.args.lane.known m key c.in-Refused.answer c.give_back.new.lane.known ends.0 ends.1 ends.2 (back ∷ [])
    (ap (λ (q : Known). q.tally) c.give_back.ensures.given.1 ∙ ap (λ (z : List Sight). back ∷ z)
    (ap (λ (q : Known). q.tally) p.0.after ∙ ap (λ (q : Known). k ∷ q.tally) c.fill.ensures.filled))
    (set_leaves c.args.element.map c.args.element.number c.give_back.ensures.given.0, tt)
    (subst (λ (q : Ending). BusyFirst ends.1 (answer_of q)) c.in-Refused.is ends.4) c.args.call.now.request.value.now
    c.args.call.now.request.flags c.requires.flags

pub returns-in-Added-clause-spilled : goal.returns-in-Added-clause-spilled
returns-in-Added-clause-spilled g c =
    let a = c.args.call.now.table.now.about in
    let m = c.args.call.now.map in
    let ends = c.lock_and_put-lane.ensures.ends in
    let l2 = c.lock_and_put-lane.result.0.known in
    let k = lock_taken m ends.0 ends.1 in
    let p : IsInsertion a (locked_with c.fill.new.lane.known k) m c.args.call.now.request.key.now c.args.call.now.request.value.now
    c.args.call.now.request.flags l2 = subst
    (λ (q : Ending). UpdateEnds a (locked_with c.fill.new.lane.known k) m c.args.call.now.request.key.now c.args.call.now.request.value.now
    c.args.call.now.request.flags q l2)
    c.in-Added.is ends.3 in
    spilled_last m ends.0 ends.1 c.args.lane.known l2 c.in-Added.spilled (subst (λ (q : Ending). SpillsTo ends.0 q) c.in-Added.is ends.5)
    (ap (λ (q : Known). q.tally) p.after ∙ ap (λ (q : Known). k ∷ q.tally) c.fill.ensures.filled)
