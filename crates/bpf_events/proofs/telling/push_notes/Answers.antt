use Rattle.std.proofs.Common.{◌++◌, ◌∙◌, ap, map}
use Rattle.std.specs.Prelude.{string_bytes}
use Rattle.bpf_machine.specs.Happenings.{happening}
use Rattle.bpf_events.specs.declared.note.Note.{Note}
use Rattle.bpf_events.specs.Lines.{happening_line}
use Rattle.bpf_events.specs.Private.Recording.{event_of}
use Rattle.bpf_events.proofs.Told.{one_note_more}
use Rattle.bpf_events.proofs.telling.push_notes.Goals as goal

pub loop-note-preserved : goal.loop-note-preserved
loop-note-preserved c =
    let names = map string_bytes c.args.names.now in
    let text = string_bytes c.loop-note.text in
    let note = c.note-item.result in
    one_note_more names c.args.place.cpu c.args.place.job c.args.place.pc (string_bytes c.args.text.now) text
    (string_bytes c.push_note.new.text) c.args.notes.now c.loop-note.note-index note c.loop-note-test.true c.loop-note.invariant
    (c.in_ok-push_note.ensures ∙ ap (λ (n : Note). text ++ happening_line names
    (happening c.args.place.cpu c.args.place.job c.args.place.pc (event_of n))) c.note-item.is)
