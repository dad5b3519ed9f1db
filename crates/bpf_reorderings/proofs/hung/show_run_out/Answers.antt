use Rattle.std.proofs.Common.{◌≡◌, ℕ, List, Bool, true, false, map, subst, refl}
use Rattle.bpf_machine.specs.Schedule.{unrolled}
use Rattle.bpf_buffering.specs.Search.{move_of}
use Rattle.bpf_reorderings.specs.Private.Answers.{CanRunOut}
use Rattle.bpf_reorderings.specs.Private.Searching.{IsTried}
use Rattle.bpf_reorderings.specs.Private.Trail.{LeadsBy}
use Rattle.bpf_reorderings.proofs.Hanging.{none_out_there}
use Rattle.bpf_reorderings.proofs.hung.show_run_out.Goals as goal

-- it does where it is found to, and it isn't found not to
by_cases : (P : Type 0) (out : Bool) → (out ≡ true → P) → (out ≡ false → ⊥) → P
by_cases P true found never = found refl
by_cases P false found never = absurd (never refl)

pub returns-clause-out : goal.returns-clause-out
returns-clause-out c =
    let kept = c.args.explorer.now.kept in
    let m = c.uses_up.new.explorer.machine in
    let by = c.in_ok-by.by.items in
    by_cases (CanRunOut kept) c.in_ok-uses_up.field-0 c.in_ok-uses_up.ensures.out
    (λ is. c.requires.out (none_out_there c.free_moves_agree.ensures kept by c.args.place m
    (subst (λ (b : Bool). LeadsBy b kept 0 (map move_of (unrolled by)) c.args.place) c.requires.patient c.in_ok-by.ensures)
    (subst (λ (runs : List (ℕ × ℕ)). IsTried kept (map move_of (unrolled runs)) m) c.deref.ensures.value c.in_ok-uses_up.ensures.tried)
    (c.in_ok-uses_up.ensures.none is) c.requires.begins.0 c.requires.begins.1))
