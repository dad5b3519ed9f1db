use Rattle.std.proofs.Common.{◌++◌, ◌∷◌, [], ◌∙◌, ap, map}
use Rattle.std.specs.Prelude.{string_bytes}
use Rattle.bpf_machine.specs.Happenings.{happening}
use Rattle.bpf_buffering.specs.Waiting as buffers
use Rattle.bpf_events.specs.declared.note.Note.{Note}
use Rattle.bpf_events.specs.Watched.{event_of}
use Rattle.bpf_buffer_events.specs.Happenings.{items, waiting_after}
use Rattle.bpf_buffer_events.specs.Printed.{item_lines}
use Rattle.bpf_buffer_events.proofs.Items.{call_more, waits_more}
use Rattle.bpf_buffer_events.proofs.lines.push_calls.Goals as goal

pub loop-note-preserved : goal.loop-note-preserved
loop-note-preserved c =
    let names = map string_bytes c.args.names.now in
    let place = c.args.place in
    let there = happening place.cpu place.job place.pc in
    let text = string_bytes c.loop-note.text in
    let before = map buffers.event_of c.args.waiting.now.items in
    let now = map buffers.event_of c.loop-note.waiting.items in
    let later = map buffers.event_of c.push_call.new.waiting.items in
    let note = c.note-item.result in
    record {
      text = call_more place.cpu there names before now (string_bytes c.args.text.now) text (string_bytes c.push_call.new.text) c.args.notes.now
          c.loop-note.note-index note c.loop-note-test.true c.loop-note.invariant.waiting c.loop-note.invariant.text
          (c.in_ok-push_call.ensures.text ∙ ap (λ (n : Note). text ++ item_lines names (items place.cpu there now (event_of n ∷ []))) c.note-item.is);
      waiting = waits_more before now later c.args.notes.now c.loop-note.note-index note c.loop-note-test.true c.loop-note.invariant.waiting
          (c.in_ok-push_call.ensures.waiting ∙ ap (λ (n : Note). waiting_after now (event_of n)) c.note-item.is);
    }
