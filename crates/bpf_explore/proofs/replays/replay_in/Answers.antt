use Rattle.std.proofs.Common.{subst}
use Rattle.bpf_machine.specs.Machine.{MachineState}
use Rattle.bpf_machine.specs.Schedule.{unrolled}
use Rattle.bpf_explore.specs.Private.Replays.{SomeRanOut}
use Rattle.bpf_explore.proofs.HungLaws.{replayed, reached, can_run_out}
use Rattle.bpf_explore.proofs.replays.replay_in.Goals as goal

pub returns-clause-replayed : goal.returns-clause-replayed
returns-clause-replayed c =
    replayed c.args.album.now.kept c.restore.new.self.machine c.turns_by.new.self.machine (unrolled c.args.by.now)
    c.in_ok-restore.ensures.ok c.turns_by.ensures.runs

pub returns-clause-out : goal.returns-clause-out
returns-clause-out c is =
    let kept = c.args.album.now.kept in
    let m = c.turns_by.new.self.machine in
    let tried = replayed kept c.restore.new.self.machine m (unrolled c.args.by.now) c.in_ok-restore.ensures.ok c.turns_by.ensures.runs in
    can_run_out kept m (reached kept (unrolled c.args.by.now) m tried)
    (subst (λ (x : MachineState). SomeRanOut x.jobs) c.machine.ensures.machine (c.some_ran_out.ensures.out is))
