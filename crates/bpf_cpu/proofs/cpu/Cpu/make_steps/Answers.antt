use Rattle.std.proofs.Common.{◌≡◌, ℕ, [], ◌∙◌, refl, sym, subst, arith}
use Rattle.bpf_shared.proofs.Chains.{chain_nothing}
use Rattle.bpf_cpu.specs.declared.outcome.Progress.{Progress}
use Rattle.bpf_cpu.specs.State.{at_pc}
use Rattle.bpf_helpers.specs.Held.{AreHeld}
use Rattle.bpf_cpu.specs.Private.Execute.{StepsOn}
use Rattle.bpf_cpu.proofs.TableLaws.{start_short}
use Rattle.bpf_cpu.proofs.StepsLaws.{IsUnderWay, begun, made_more, made_all, runs_out, chain_keeps}
use Rattle.bpf_cpu.proofs.cpu.Cpu.make_steps.Goals as goal

pub returns-in-Done-clause-steps : goal.returns-in-Done-clause-steps
returns-in-Done-clause-steps g c =
    let inv = c.steps.invariant in
    let before = at_pc c.steps.self c.steps.pc in
    let after = at_pc c.step_from.new.self c.step_from.new.pc in
    let events = c.step_from.ensures.step in
    let P : Progress → Type 0 = λ progress. StepsOn (g.S.Shared.shapes c.steps.shared) c.args.program.now before c.steps.left events.0
    progress after c.step_from.new.left in
    made_all g.S.Shared.passes g.S.Shared.serves g.met.S.Shared.follows g.S.Shared.shapes c.args.program.now c.args.budget c.args.self.now c.args.shared.now
    c.steps.left c.steps.shared c.step_from.new.shared before after c.step_from.new.left inv.number inv.keeps.shape inv.under_way c.in-Done.outcome
    (events.0, events.1, subst P (sym c.in-Done.ensures) events.2)

pub steps-preserved : goal.steps-preserved
steps-preserved g c =
    let inv = c.steps.invariant in
    record {
      under_way = made_more g.S.Shared.passes g.S.Shared.serves g.met.S.Shared.follows g.S.Shared.shapes c.args.program.now c.args.budget
          c.args.self.now c.args.shared.now
          c.steps.left c.steps.shared c.step_from.new.shared (at_pc c.steps.self c.steps.pc) (at_pc c.step_from.new.self c.step_from.new.pc)
          c.step_from.new.left inv.number inv.keeps.shape inv.under_way c.step_from.ensures.ready c.in-On.ensures.step;
      number = c.step_from.ensures.number ∙ inv.number;
      held =
          let P : ℕ → Type 0 = λ n. AreHeld (g.S.Shared.held c.step_from.new.shared n) c.step_from.new.self.held in
          subst P inv.number c.step_from.ensures.held;
      keeps = chain_keeps g.S.Shared.shapes g.S.Shared.running g.S.Shared.held c.steps.self.number c.args.self.now.number inv.number
          c.args.shared.now c.steps.shared c.step_from.new.shared inv.keeps c.step_from.ensures.keeps;
    }

pub returns-clause-steps : goal.returns-clause-steps
returns-clause-steps g c =
    let made = c.steps.invariant.under_way in
    let all : c.steps.left ≡ 0 = omega arith in
    let P : ℕ → Type 0 = λ i. IsUnderWay (g.S.Shared.shapes c.args.shared.now) c.args.program.now c.args.budget c.args.self.now i made.0
    (at_pc c.steps.self c.steps.pc) in (
      made.0,
      made.1,
      runs_out (g.S.Shared.shapes c.args.shared.now) c.args.program.now c.args.budget c.args.self.now made.0
          (at_pc c.steps.self c.steps.pc) (subst P all made.2),
    )

pub steps-init : goal.steps-init
steps-init g c = record {
  under_way = (
    [],
    chain_nothing g.S.Shared.passes g.S.Shared.serves c.args.self.now.number g.met.S.Shared.nothing c.args.shared.now,
    begun (g.S.Shared.shapes c.args.shared.now) c.args.program.now c.args.budget c.args.self.now c.requires.ready,
  );
  number = refl;
  held = c.requires.held;
  keeps = record { shape = refl; runs = refl; others = λ d ne. refl };
}

pub overflow_cast-self : goal.overflow_cast-self
overflow_cast-self g c = omega (arith, start_short _ _ _ c.ops-ops.ensures c.step_from.ensures.ready.here)

pub overflow_cast-self-2 : goal.overflow_cast-self-2
overflow_cast-self-2 g c = omega (arith, start_short _ _ _ c.ops-ops.ensures c.steps.invariant.under_way.2.ready.here)
