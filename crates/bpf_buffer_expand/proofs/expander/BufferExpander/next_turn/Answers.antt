use Rattle.std.proofs.Common.{◌≡◌, refl, sym, subst}
use Rattle.bpf_x86.specs.Machine.{TurnOf}
use Rattle.bpf_expand.specs.State.{Host}
use Rattle.bpf_buffer_expand.specs.State.{IsStateOf, Leads}
use Rattle.bpf_buffer_expand.proofs.expander.BufferExpander.next_turn.Goals as goal

pub returns-then-not-branch-clause-next : goal.returns-then-not-branch-clause-next
returns-then-not-branch-clause-next c = c.in_ok-take.ensures.none c.if-not-branch.true

pub returns-clause-next : goal.returns-clause-next
returns-clause-next c =
    let e = c.take.new.self in
    let new = c.turn_ahead.new.self in
    let bytes = c.args.bytes.now in
    let same : new.host ≡ e.host = c.turn_ahead.ensures.same in
    let is = subst (λ (h : Host). IsStateOf h e.machine bytes) (sym same) (c.in_ok-take.ensures.taken c.if-not-branch.false) in
    let leads = subst (λ (h : Host). Leads h e.machine (TurnOf c.args.cpu) c.args.cpu c.in_ok-ahead.ahead new.machine) (sym same)
    c.in_ok-ahead.ensures.turns in (
      refl,
      refl,
      (e.machine, is, c.has_work.ensures.some c.if-not-has_work.false),
      (e.machine, new.machine, is, leads, c.in_ok-bytes.ensures),
    )
