use Rattle.std.proofs.Common.{map, subst}
use Rattle.bpf_machine.specs.Patient.{NoneRanOut}
use Rattle.bpf_machine.specs.Schedule.{unrolled}
use Rattle.bpf_buffering.specs.Search.{BufferedState, move_of}
use Rattle.bpf_explore.specs.Private.Replays.{SomeRanOut}
use Rattle.bpf_reorderings.proofs.Replays.{tried, can_run_out}
use Rattle.bpf_reorderings.proofs.trying.uses_up.Goals as goal

pub returns-clause-tried : goal.returns-clause-tried
returns-clause-tried c =
    tried c.args.explorer.now.kept c.restore.new.self.machine c.make_moves.new.explorer.machine (map move_of (unrolled c.args.by.now))
    c.in_ok-restore.ensures.ok c.in_ok-make_moves.ensures.makes

pub returns-clause-out : goal.returns-clause-out
returns-clause-out c is =
    can_run_out c.args.explorer.now.kept c.restore.new.self.machine c.make_moves.new.explorer.machine (map move_of (unrolled c.args.by.now))
    c.in_ok-restore.ensures.ok c.in_ok-make_moves.ensures.makes
    (subst (λ (m : BufferedState). SomeRanOut m.machine.jobs) c.machine.ensures (c.some_ran_out.ensures.out is))

pub returns-clause-none : goal.returns-clause-none
returns-clause-none c is = subst (λ (m : BufferedState). NoneRanOut m.machine.jobs) c.machine.ensures (c.some_ran_out.ensures.none is)
