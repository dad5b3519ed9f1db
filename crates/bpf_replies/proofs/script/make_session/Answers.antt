use Rattle.std.proofs.Common.{sym, subst, ◌∙◌}
use Rattle.bpf_machine.specs.Machine.{MachineState, Shows}
use Rattle.bpf_jobs.specs.Printed.{first_of}
use Rattle.bpf_replies.proofs.script.make_session.Goals as goal

pub new-requires-clause-shown : goal.new-requires-clause-shown
new-requires-clause-shown c = (first_of c.args.setup, c.in_ok-shape.ensures.machine)

pub new-requires-clause-shape : goal.new-requires-clause-shape
new-requires-clause-shape c = c.in_ok-shape.ensures.shape

pub new-requires-clause-lists : goal.new-requires-clause-lists
new-requires-clause-lists c = c.in_ok-shape.ensures.lists

pub returns-clause-machine : goal.returns-clause-machine
returns-clause-machine c =
    let S : MachineState → Type 0 = λ m. Shows m (first_of c.args.setup) in
    subst S (sym c.in_ok-session.ensures.machine) c.in_ok-shape.ensures.machine

pub returns-clause-first : goal.returns-clause-first
returns-clause-first c = c.in_ok-session.ensures.first ∙ sym c.in_ok-session.ensures.machine
