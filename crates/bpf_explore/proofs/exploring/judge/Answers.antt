use Rattle.std.proofs.Common.{◌<◌, List, length, sym, subst}
use Rattle.bpf_machine.specs.Machine.{MachineState}
use Rattle.bpf_explore.specs.Private.Edges.{AreTurns}
use Rattle.bpf_explore.specs.Private.Replays.{CanRunOut, NoneRunsOut}
use Rattle.bpf_explore.proofs.ExploreLaws.{one_there}
use Rattle.bpf_explore.proofs.exploring.judge.Goals as goal

pub find_budgets-requires-clause-first : goal.find_budgets-requires-clause-first
find_budgets-requires-clause-first c = subst (λ (ms : List MachineState). 0 < length ms) (sym c.find_hung.ensures.same)
    (one_there c.args.explorer.now.kept c.requires.fresh)

pub find_budgets-requires-clause-turns : goal.find_budgets-requires-clause-turns
find_budgets-requires-clause-turns c is = subst (λ (ms : List MachineState). AreTurns ms c.args.turns.now) (sym c.find_hung.ensures.same) (c.requires.turns is)

pub find_budgets-requires-clause-out : goal.find_budgets-requires-clause-out
find_budgets-requires-clause-out c is = subst CanRunOut (sym c.find_hung.ensures.same) (c.in_ok-hung.ensures.out is)

pub returns-clause-unfit : goal.returns-clause-unfit
returns-clause-unfit c is = c.in_ok-budgets.ensures.unfit is

pub returns-clause-suffice : goal.returns-clause-suffice
returns-clause-suffice c is = subst NoneRunsOut c.find_hung.ensures.same (c.in_ok-budgets.ensures.suffice is)

pub returns-clause-out : goal.returns-clause-out
returns-clause-out c is = subst CanRunOut c.find_hung.ensures.same (c.in_ok-budgets.ensures.out is)
