use Rattle.std.proofs.Common.{ℕ, List, subst}
use Rattle.bpf_machine.specs.Schedule.{unrolled}
use Rattle.bpf_explore.specs.Private.Replays.{IsReplayed}
use Rattle.bpf_explore.proofs.HungLaws.{hangs, comes_to}
use Rattle.bpf_explore.proofs.hung.hung_at.Goals as goal

pub returns-then-branch-clause-out : goal.returns-then-branch-clause-out
returns-then-branch-clause-out c = c.in_ok-replay.ensures.out c.if-branch.true

pub returns-clause-hung : goal.returns-clause-hung
returns-clause-hung c =
    let kept = c.args.explorer.now.kept in
    let m = c.replay.new.self.machine in
    hangs c.permuted_stuck_are_hung.ensures c.free_runs_agree.ensures c.requires.stuck.0 kept c.args.marks.now c.args.place c.in_ok-by.by.items m
    c.requires.stuck.1
    c.requires.unmarked c.in_ok-by.ensures
    (subst (λ (by : List (ℕ × ℕ)). IsReplayed kept (unrolled by) m) c.deref.ensures.value c.in_ok-replay.ensures.replayed)
    (c.in_ok-replay.ensures.none c.if-branch.false)

pub returns-clause-there : goal.returns-clause-there
returns-clause-there c =
    let kept = c.args.explorer.now.kept in
    let m = c.replay.new.self.machine in
    comes_to c.free_runs_agree.ensures kept c.args.place c.in_ok-by.by.items m c.in_ok-by.ensures
    (subst (λ (by : List (ℕ × ℕ)). IsReplayed kept (unrolled by) m) c.deref.ensures.value c.in_ok-replay.ensures.replayed)
    (c.in_ok-replay.ensures.none c.if-branch.false)
