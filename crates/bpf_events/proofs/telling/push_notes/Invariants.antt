use Rattle.std.proofs.Common.{◌≡◌, ◌++◌, map, take}
use Rattle.std.specs.Prelude.{string_bytes}
use Rattle.bpf_machine.specs.Happenings.{happening}
use Rattle.bpf_events.specs.Lines.{history_lines}
use Rattle.bpf_events.specs.Private.Recording.{event_of}
use Rattle.bpf_events.proofs.telling.push_notes.Given as goal

abbrev pub invariant-loop-note : goal.invariant-loop-note
invariant-loop-note l =
    string_bytes l.text ≡ string_bytes l.fn.text ++ history_lines (map string_bytes l.names)
    (map (happening l.place.cpu l.place.job l.place.pc) (map event_of (take l.note-index l.notes)))
