use Rattle.std.proofs.Common.{Bor, List, ℕ, ◌∙◌, sym}
use Rattle.bpf_check.proofs.Joints.{none_first, one_last, one_more}
use Rattle.bpf_check.proofs.parts.+push_parts.Goals as goal

pub returns-in-None : goal.returns-in-None
returns-in-None b c =
    none_first (λ (f : Bor (List ℕ)). f.now) c.args.subjects.now c.args.joint.now c.args.words.now c.joint_place-place.result c.joint_place-place.ensures.value
    (sym c.in-None.is ∙ c.in_ok-part.ensures)

pub returns-in_ok-push_parts : goal.returns-in_ok-push_parts
returns-in_ok-push_parts b c =
    one_more (λ (f : Bor (List ℕ)). f.now) c.args.subjects.now c.args.joint.now c.args.words.now c.joint_place-place.result c.joint_place-place.ensures.value
    c.args.parts.now.items c.in-Some.part _ _ _ c.if-place-words.true (sym c.in-Some.is ∙ c.in_ok-part.ensures)
    c.in_ok-push-in-Some.ensures.items c.in_ok-push_parts.ensures

pub returns-else-place-words : goal.returns-else-place-words
returns-else-place-words b c =
    one_last (λ (f : Bor (List ℕ)). f.now) c.args.subjects.now c.args.joint.now c.args.words.now c.joint_place-place.result c.joint_place-place.ensures.value
    c.args.parts.now.items c.in-Some.part _ c.if-place-words.false (sym c.in-Some.is ∙ c.in_ok-part.ensures) c.in_ok-push-in-Some.ensures.items
