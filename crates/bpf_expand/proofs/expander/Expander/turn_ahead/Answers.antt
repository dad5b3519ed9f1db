use Rattle.std.proofs.Common.{Bool, ap, subst}
use Rattle.bpf_machine.specs.Machine.{MachineState}
use Rattle.bpf_machine.specs.Cover.{TurnsAhead}
use Rattle.bpf_expand.specs.State.{ExpanderState, Fills}
use Rattle.bpf_expand.proofs.expander.Expander.turn_ahead.Goals as goal

pub returns-clause-turns : goal.returns-clause-turns
returns-clause-turns c =
    let turned = c.turn_ahead-ahead.new.self in
    let machine = ap (λ (e : ExpanderState). e.machine) c.self.view_is in
    let patient = ap (λ (e : ExpanderState). e.host.patient) c.self.view_is in (
      turned,
      subst (λ (old : MachineState). TurnsAhead old c.args.cpu c.turn_ahead-ahead.result turned) machine c.turn_ahead-ahead.ensures.ahead,
      subst (λ (b : Bool). Fills b turned c.args.cpu c.fill.new.machine) patient c.fill.ensures.fills,
    )
