use Rattle.std.proofs.Common.{◌∙◌, Bool, refl, subst, arith}
use Rattle.bpf_x86.specs.Machine.{TurnOf, FlushOf}
use Rattle.bpf_reorderings.specs.Private.Searching.{Searched, IsMoved}
use Rattle.bpf_reorderings.proofs.Growing.{Beyond, none_moved, next_moved, all_moved, was_flushed, was_moved}
use Rattle.bpf_reorderings.proofs.explorer.Explorer.expand.Goals as goal

pub loop-cpu-init : goal.loop-cpu-init
loop-cpu-init c = (refl, none_moved c.args.self.now.patient c.args.self.now.kept c.args.place)

pub loop-cpu-preserved : goal.loop-cpu-preserved
loop-cpu-preserved c =
    let first = c.loop-cpu.invariant.0 in
    let second = c.turn.ensures.patient ∙ first in (
      c.flush.ensures.patient ∙ second,
      next_moved c.args.self.now.patient c.args.self.now.kept c.loop-cpu.self.kept c.turn.new.self.kept c.flush.new.self.kept c.args.place
          c.loop-cpu.cpu c.requires c.loop-cpu.invariant.1 c.turn.ensures.extends
          (subst (λ (b : Bool). IsMoved b c.turn.new.self.kept c.args.place (TurnOf c.loop-cpu.cpu)) first
          (was_moved c.loop-cpu.self.patient c.turn.new.self.kept c.args.place (TurnOf c.loop-cpu.cpu) c.in_ok-turn.field-0
          c.in_ok-turn.ensures.moved))
          c.flush.ensures.extends
          (subst (λ (b : Bool). IsMoved b c.flush.new.self.kept c.args.place (FlushOf c.loop-cpu.cpu)) second
          (was_flushed c.turn.new.self.patient c.flush.new.self.kept c.args.place c.loop-cpu.cpu c.in_ok-flush.field-0
          c.in_ok-flush.ensures.moved)),
    )

pub returns-clause-expanded : goal.returns-clause-expanded
returns-clause-expanded c =
    let beyond : Beyond c.args.self.now.kept c.cpus-cpu-end.result = subst (λ (a : Searched). Beyond a.kept c.cpus-cpu-end.result)
    c.self.view_is c.cpus-cpu-end.ensures.beyond in
    all_moved c.args.self.now.patient c.args.self.now.kept c.loop-cpu.self.kept c.args.place c.loop-cpu.cpu c.cpus-cpu-end.result c.requires
    beyond (omega arith) c.loop-cpu.invariant.1
