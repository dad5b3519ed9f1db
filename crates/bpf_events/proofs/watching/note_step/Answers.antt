use Rattle.std.proofs.Common.{◌≡◌, ℕ, suc, ◌-◌, Bool, ap, arith}
use Rattle.bpf_events.proofs.Watched.{step_noted}
use Rattle.bpf_events.proofs.watching.note_step.Goals as goal

pub returns-clause-noted : goal.returns-clause-noted
returns-clause-noted c =
    let more : c.args.left ≡ suc (c.args.left - 1) = omega arith in
    step_noted c.args.program.now c.args.state c.step.new.self c.args.left (c.args.left - 1) c.step.result c.args.recorder.now
    c.step.new.shared more c.requires.own c.step.ensures.step

pub returns-clause-shape : goal.returns-clause-shape
returns-clause-shape c = (λ d. ap (λ (f : ℕ → Bool). f d) c.step.ensures.step.1.serves_same, c.step.ensures.keeps.shape)
