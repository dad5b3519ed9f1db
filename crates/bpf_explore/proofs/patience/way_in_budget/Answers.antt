use Rattle.std.proofs.Common.{ℕ, List, subst}
use Rattle.bpf_machine.specs.Schedule.{unrolled}
use Rattle.bpf_explore.specs.Private.Replays.{IsReplayed}
use Rattle.bpf_explore.proofs.WayLaws.{leads_there}
use Rattle.bpf_explore.proofs.patience.way_in_budget.Goals as goal

pub returns-then-branch-clause-out : goal.returns-then-branch-clause-out
returns-then-branch-clause-out c = c.in_ok-replay.ensures.out c.if-branch.true

pub returns-clause-leads : goal.returns-clause-leads
returns-clause-leads c =
    let kept = c.args.spread.now.kept in
    let m = c.replay.new.self.machine in
    leads_there c.free_runs_agree.ensures kept c.in_ok-by.by.items c.args.place m c.requires.fresh c.requires.ended c.in_ok-by.ensures
    (subst (λ (by : List (ℕ × ℕ)). IsReplayed kept (unrolled by) m) c.deref.ensures.value c.in_ok-replay.ensures.replayed)
    (c.in_ok-replay.ensures.none c.if-branch.false)
