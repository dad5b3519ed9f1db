use Rattle.std.proofs.Common.{◌++◌, ◌∙◌, List, map, ap}
use Rattle.std.specs.Prelude.{string_bytes}
use Rattle.bpf_shared.specs.declared.events.Event.{Event}
use Rattle.bpf_buffering.specs.Waiting as buffers
use Rattle.bpf_buffer_events.specs.Printed.{item_lines}
use Rattle.bpf_buffer_events.specs.declared.telling.Scene.{Scene}
use Rattle.bpf_buffer_events.specs.Private.Watched.{noted}
use Rattle.bpf_buffer_events.proofs.Joined.{idle_told, still_watched, turn_told}
use Rattle.bpf_buffer_events.proofs.telling.take_turn.Goals as goal

pub returns-clause-told : goal.returns-clause-told
returns-clause-told c =
    let names = map string_bytes c.args.names.now in
    let text = string_bytes c.args.scene.now.text in
    let waiting = map buffers.event_of c.in_ok-waiting.waiting.items in
    let answer = c.in_ok-answer.answer in
    let new : Scene = record { machine = c.turn.new.self; watcher = c.watch.new.watcher; text = c.push_turn.new.text } in
    turn_told c.args.cpu c.in_ok-at.at c.watch.new.watcher.recorder.events waiting answer names c.args.scene.now new
    c.in_ok-at.ensures.watched c.in_ok-waiting.ensures c.in_ok-answer.ensures.turns
    (c.in_ok-push_turn.ensures ∙ ap (λ (es : List Event). text ++ item_lines names (noted c.args.cpu c.in_ok-at.at waiting es answer)) c.notes.ensures)

pub returns-clause-idle : goal.returns-clause-idle
returns-clause-idle c still n =
    let names = map string_bytes c.args.names.now in
    let text = string_bytes c.args.scene.now.text in
    let waiting = map buffers.event_of c.in_ok-waiting.waiting.items in
    let answer = c.in_ok-answer.answer in
    let new : Scene = record { machine = c.turn.new.self; watcher = c.watch.new.watcher; text = c.push_turn.new.text } in
    idle_told c.args.cpu c.in_ok-at.at c.watch.new.watcher.recorder.events waiting answer names c.args.scene.now new
    c.in_ok-at.ensures.watched c.in_ok-waiting.ensures c.in_ok-answer.ensures.turns
    (c.in_ok-push_turn.ensures ∙ ap (λ (es : List Event). text ++ item_lines names (noted c.args.cpu c.in_ok-at.at waiting es answer)) c.notes.ensures)
    (c.is_work.ensures still) n

pub returns-clause-shape : goal.returns-clause-shape
returns-clause-shape c = still_watched c.args.scene.now.machine c.turn.new.self c.watch.new.watcher c.in_ok-answer.ensures.host c.watch.ensures.shape
