use Rattle.std.proofs.Common.{sym, subst}
use Rattle.bpf_shared.specs.declared.events.Event.TheVariants.{Update}
use Rattle.bpf_shared.specs.declared.events.MapAnswer.TheVariants.{NoMemory}
use Rattle.hop_words.specs.Kinds.{IsKeyAbsent, AnswersUnderLock, SawAllTaken}
use Rattle.hop_words.specs.Locking.{lock_of}
use Rattle.hop_map.specs.LockedSegment.{Locked, Ready}
use Rattle.hop_map.specs.Private.LockedSegment.{seen_words}
use Rattle.hop_seg.proofs.Finding.{pair_there}
use Rattle.hop_map.proofs.Verdicts.{judge_absent, lacking_answers}
use Rattle.hop_map.proofs.putting.refuse.Goals as goal

pub see_lack-answer-requires-clause-absent : goal.see_lack-answer-requires-clause-absent
see_lack-answer-requires-clause-absent c =
    subst (λ (z : Locked). IsKeyAbsent z.about (lock_of z.known) c.args.request.now.key.now) (sym c.judge.ensures.same)
    (judge_absent c.args.words c.args.request.now.key.now c.args.request.now.value.now c.args.request.now.flags c.requires.contents
    c.requires.wants c.in-Missing.ensures.judges.2)

pub unlock_update-requires-clause-answers : goal.unlock_update-requires-clause-answers
unlock_update-requires-clause-answers c =
    subst (λ (z : Locked). Ready z.about z.known z.map z.segment → AnswersUnderLock z.about z.known (lock_of z.known)
    (Update z.map c.args.request.now.key.now c.args.request.now.value.now c.args.request.now.flags c.in-Refuses.answer)) (sym c.judge.ensures.same)
    c.in-Refuses.ensures.judges.3

pub unlock_update-requires-in-There-clause-answers : goal.unlock_update-requires-in-There-clause-answers
unlock_update-requires-in-There-clause-answers c =
    let j = c.in-There.ensures.judges in
    let there = pair_there (seen_words c.args.words) c.args.request.now.key.now c.in-There.field-0 j.2 in
    subst (λ (z : Locked). Ready z.about z.known z.map z.segment → AnswersUnderLock z.about z.known (lock_of z.known)
    (Update z.map c.args.request.now.key.now c.args.request.now.value.now c.args.request.now.flags NoMemory)) (sym c.judge.ensures.same)
    (lacking_answers c.args.words c.args.request.now.key.now c.args.request.now.value.now c.args.request.now.flags c.requires.contents
    c.requires.wants c.requires.lacks j.1 there.0 there.1)

pub see_lack-answer-requires-clause-lacks : goal.see_lack-answer-requires-clause-lacks
see_lack-answer-requires-clause-lacks c = subst (λ (z : Locked). SawAllTaken z.about z.known z.map) (sym c.judge.ensures.same) c.requires.lacks
