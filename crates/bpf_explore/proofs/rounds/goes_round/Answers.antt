use Rattle.std.proofs.Common.{◌∙◌, refl, subst}
use Rattle.bpf_machine.specs.Machine.{MachineState}
use Rattle.bpf_machine.specs.Schedule.{unrolled}
use Rattle.bpf_explore.specs.Private.Replays.{SomeRanOut}
use Rattle.bpf_explore.proofs.HungLaws.{replayed, reached, reached_more, can_run_out}
use Rattle.bpf_explore.proofs.rounds.goes_round.Goals as goal

pub loop-init : goal.loop-init
loop-init c =
    let kept = c.args.explorer.now.kept in
    let way = unrolled c.args.way.now in (
      c.turns_by.ensures.same ∙ c.restore.ensures.same,
      c.turns_by.ensures.peers ∙ c.restore.ensures.peers,
      reached kept way c.turns_by.new.self.machine
          (replayed kept c.restore.new.self.machine c.turns_by.new.self.machine way c.in_ok-restore.ensures.ok c.turns_by.ensures.runs),
    )

pub returns-then-some_ran_out-clause-out : goal.returns-then-some_ran_out-clause-out
returns-then-some_ran_out-clause-out c is =
    can_run_out c.args.explorer.now.kept c.loop.explorer.machine c.loop.invariant.2
    (subst (λ (m : MachineState). SomeRanOut m.jobs) c.machine.ensures.machine (c.if-some_ran_out.ensures.out refl))

pub loop-preserved : goal.loop-preserved
loop-preserved c = (
  c.turns_by-in-loop.ensures.same ∙ c.loop.invariant.0,
  c.turns_by-in-loop.ensures.peers ∙ c.loop.invariant.1,
  reached_more c.args.explorer.now.kept (unrolled c.args.circle.now) c.loop.explorer.machine c.turns_by-in-loop.new.self.machine
      c.loop.invariant.2 c.turns_by-in-loop.ensures.runs,
)
