use Rattle.std.proofs.Common.{◌∙◌, ap, sym}
use Rattle.bpf_cpu.specs.Task.{InHand}
use Rattle.bpf_alike.proofs.jobs.are_stages_alike.Goals as goal

pub returns-then-left-rest : goal.returns-then-left-rest
returns-then-left-rest c is =
    let mine = c.in-Some in
    let its = c.in-Some-state in (
      mine.state.now,
      mine.left,
      its.later.now,
      mine.ensures,
      its.ensures ∙ ap (InHand its.later.now) (sym c.if-left-rest.true),
      c.are_states_alike.ensures is,
    )
