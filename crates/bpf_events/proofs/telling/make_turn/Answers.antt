use Rattle.std.proofs.Common.{◌++◌, ◌∙◌, List, map, sym, ap}
use Rattle.std.specs.Prelude.{string_bytes}
use Rattle.bpf_shared.specs.declared.events.Event.{Event}
use Rattle.bpf_events.specs.Lines.{history_lines}
use Rattle.bpf_events.specs.Private.Watching.{noted}
use Rattle.bpf_events.proofs.Told.{turn_told}
use Rattle.bpf_events.proofs.telling.make_turn.Goals as goal

pub returns-clause-told : goal.returns-clause-told
returns-clause-told c =
    let names = map string_bytes c.args.names.now in
    let text = string_bytes c.args.text.now in
    let answer = c.turn-answer.result in
    turn_told c.args.cpu c.in_ok-at.at c.watch.new.recorder.events answer names c.args.machine.now c.turn-answer.new.self text
    (string_bytes c.push_turn.new.text) c.in_ok-at.ensures.watched c.turn-answer.ensures.turn
    (c.in_ok-push_turn.ensures ∙ ap (λ (es : List Event). text ++ history_lines names (noted c.args.cpu c.in_ok-at.at es answer)) c.notes.ensures)

pub returns-clause-shape : goal.returns-clause-shape
returns-clause-shape c =
    let kept = c.turn-answer.ensures.same.shape in
    (λ d. c.watch.ensures.shape.0 d ∙ sym (kept.0 d), c.watch.ensures.shape.1 ∙ sym kept.1)
