use Rattle.std.proofs.Common.{◌∙◌, ℕ, Bool, ap}
use Rattle.bpf_events.proofs.Watched.{begin_noted, begin_runs, begin_serves}
use Rattle.bpf_events.proofs.watching.note_begin.Goals as goal

pub note_step-requires-clause-serves : goal.note_step-requires-clause-serves
note_step-requires-clause-serves c =
    begin_serves c.new-state.result c.args.cpu c.args.input c.args.recorder.now c.begin.new.self c.new-state.ensures c.in-Ok.ensures.same.1 c.requires.serves

pub note_step-requires-clause-in_run : goal.note_step-requires-clause-in_run
note_step-requires-clause-in_run c =
    begin_runs c.new-state.result c.args.cpu c.args.input c.args.recorder.now c.begin.new.self c.new-state.ensures c.in-Ok.ensures.running

pub returns-clause-noted : goal.returns-clause-noted
returns-clause-noted c =
    begin_noted c.args.program.now c.args.cpu c.args.input c.args.budget c.new-state.result c.args.recorder.now c.begin.new.self
    c.note_step.new.recorder c.requires.own c.requires.serves
    c.in-Ok.ensures.begun c.in-Ok.ensures.same.1 c.new-state.ensures c.note_step.ensures.noted

pub returns-clause-shape : goal.returns-clause-shape
returns-clause-shape c = (
  λ d. c.note_step.ensures.shape.0 d ∙ ap (λ (f : ℕ → Bool). f d) c.in-Ok.ensures.same.1,
  c.note_step.ensures.shape.1 ∙ c.in-Ok.ensures.same.0,
)
