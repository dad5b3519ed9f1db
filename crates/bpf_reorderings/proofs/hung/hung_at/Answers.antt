use Rattle.std.proofs.Common.{ℕ, Bool, List, map, sym, subst}
use Rattle.bpf_machine.specs.Schedule.{unrolled}
use Rattle.bpf_buffering.specs.Search.{move_of}
use Rattle.bpf_reorderings.specs.Private.Hung.{ComesTo, Hangs}
use Rattle.bpf_reorderings.specs.Private.Searching.{IsTried}
use Rattle.bpf_reorderings.specs.Private.Trail.{LeadsBy}
use Rattle.bpf_reorderings.proofs.Hanging.{comes_to, hangs}
use Rattle.bpf_reorderings.proofs.hung.hung_at.Goals as goal

pub returns-then-branch-clause-out : goal.returns-then-branch-clause-out
returns-then-branch-clause-out c = c.in_ok-uses_up.ensures.out c.if-branch.true

pub returns-clause-hung : goal.returns-clause-hung
returns-clause-hung c =
    let kept = c.args.explorer.now.kept in
    let m = c.uses_up.new.explorer.machine in
    let by = c.in_ok-by.by.items in
    subst (Hangs kept) (sym c.new.ensures)
    (hangs c.free_moves_agree.ensures kept by c.args.place m
    (subst (λ (b : Bool). LeadsBy b kept 0 (map move_of (unrolled by)) c.args.place) c.requires.patient c.in_ok-by.ensures)
    (subst (λ (runs : List (ℕ × ℕ)). IsTried kept (map move_of (unrolled runs)) m) c.deref.ensures.value c.in_ok-uses_up.ensures.tried)
    (c.in_ok-uses_up.ensures.none c.if-branch.false) c.stuck_x86s_are_hung.ensures c.args.marks.now c.requires.stuck c.requires.unmarked)

pub returns-clause-there : goal.returns-clause-there
returns-clause-there c =
    let kept = c.args.explorer.now.kept in
    let m = c.uses_up.new.explorer.machine in
    let by = c.in_ok-by.by.items in
    subst (λ (runs : List (ℕ × ℕ)). ComesTo kept runs c.args.place) (sym c.new.ensures)
    (comes_to c.free_moves_agree.ensures kept by c.args.place m
    (subst (λ (b : Bool). LeadsBy b kept 0 (map move_of (unrolled by)) c.args.place) c.requires.patient c.in_ok-by.ensures)
    (subst (λ (runs : List (ℕ × ℕ)). IsTried kept (map move_of (unrolled runs)) m) c.deref.ensures.value c.in_ok-uses_up.ensures.tried)
    (c.in_ok-uses_up.ensures.none c.if-branch.false))
