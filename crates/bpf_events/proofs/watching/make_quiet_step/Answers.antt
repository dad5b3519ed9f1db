use Rattle.std.proofs.Common.{◌≡◌, ◌<◌, ℕ, arith, refl, subst, sym}
use Rattle.bpf_cpu.specs.Step.{MakesQuietSteps}
use Rattle.bpf_machine.specs.Kept.{kept_stage}
use Rattle.bpf_machine.specs.declared.machine.parts.KeptStage.{KeptStage}
use Rattle.bpf_events.specs.Private.Watching.{IsQuietAt}
use Rattle.bpf_events.proofs.watching.make_quiet_step.Goals as goal

pub returns-clause-quiet : goal.returns-clause-quiet
returns-clause-quiet c =
    let state = c.in-InHand.state in
    let more : 0 < c.in-InHand.left = omega arith in
    let one : c.make_quiet_steps.result ≡ 1 = omega arith in
    let steps = subst (λ (n : ℕ). MakesQuietSteps c.args.program.now n state c.make_quiet_steps.new.self) one c.make_quiet_steps.ensures.steps in
    subst (λ (stage : KeptStage). IsQuietAt c.args.program.now (kept_stage stage) state.pc) (sym c.in-InHand.is) (refl, more, (steps.0, steps.1))
