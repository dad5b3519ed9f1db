use Rattle.std.proofs.Common.{◌≡◌, ◌∙◌, Bool, false, true, ℕ, List, map, sym, subst}
use Rattle.bpf_machine.specs.Schedule.{unrolled}
use Rattle.bpf_x86.specs.Machine.{Move}
use Rattle.bpf_buffering.specs.Search.{move_of}
use Rattle.bpf_reorderings.specs.Private.Answers.{LeadsInBudget}
use Rattle.bpf_reorderings.specs.Private.Searching.{IsTried}
use Rattle.bpf_reorderings.specs.Private.Trail.{LeadsBy}
use Rattle.bpf_reorderings.proofs.Replays.{leads_plain, leads_tried}
use Rattle.bpf_reorderings.proofs.trying.way_in_budget.Goals as goal

pub returns-then-not-is_patient-clause-leads : goal.returns-then-not-is_patient-clause-leads
returns-then-not-is_patient-clause-leads c =
    let kept = c.args.explorer.now.kept in
    let by = c.in_ok-by.by.items in
    let moves : List Move = map move_of (unrolled by) in
    let plain : c.args.explorer.now.patient ≡ false = sym c.is_patient.ensures ∙ c.if-not-is_patient.true in
    subst (λ (b : Bool). LeadsInBudget b kept by c.args.place) (sym plain)
    (leads_plain kept moves c.args.place (subst (λ (b : Bool). LeadsBy b kept 0 moves c.args.place) plain c.in_ok-by.ensures))

pub returns-then-branch-clause-out : goal.returns-then-branch-clause-out
returns-then-branch-clause-out c =
    (sym c.is_patient.ensures ∙ c.if-not-is_patient.false, c.in_ok-uses_up.ensures.out c.if-branch.true)

pub returns-clause-leads : goal.returns-clause-leads
returns-clause-leads c =
    let kept = c.args.explorer.now.kept in
    let m = c.uses_up.new.explorer.machine in
    let by = c.in_ok-by.by.items in
    let moves : List Move = map move_of (unrolled by) in
    let patient : c.args.explorer.now.patient ≡ true = sym c.is_patient.ensures ∙ c.if-not-is_patient.false in
    subst (λ (b : Bool). LeadsInBudget b kept by c.args.place) (sym patient)
    (leads_tried kept moves c.args.place c.free_moves_agree.ensures m
    (subst (λ (b : Bool). LeadsBy b kept 0 moves c.args.place) patient c.in_ok-by.ensures)
    (subst (λ (runs : List (ℕ × ℕ)). IsTried kept (map move_of (unrolled runs)) m) c.deref.ensures.value c.in_ok-uses_up.ensures.tried)
    (c.in_ok-uses_up.ensures.none c.if-branch.false) c.requires.ended)
