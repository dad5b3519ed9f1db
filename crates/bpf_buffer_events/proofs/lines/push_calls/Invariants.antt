use Rattle.std.proofs.Common.{◌≡◌, ◌++◌, map, take}
use Rattle.std.specs.Prelude.{string_bytes}
use Rattle.bpf_machine.specs.Happenings.{happening}
use Rattle.bpf_buffering.specs.Waiting as buffers
use Rattle.bpf_events.specs.Watched.{event_of}
use Rattle.bpf_buffer_events.specs.Happenings.{all_after, items}
use Rattle.bpf_buffer_events.specs.Printed.{item_lines}
use Rattle.bpf_buffer_events.proofs.lines.push_calls.Given as goal

abbrev pub invariant-loop-note : goal.invariant-loop-note
invariant-loop-note l = record {
  text : string_bytes l.text ≡ string_bytes l.fn.text ++ item_lines (map string_bytes l.names)
      (items l.place.cpu (happening l.place.cpu l.place.job l.place.pc) (map buffers.event_of l.fn.waiting.items)
      (map event_of (take l.note-index l.notes)));
  waiting : map buffers.event_of l.waiting.items ≡ all_after (map buffers.event_of l.fn.waiting.items) (map event_of (take l.note-index l.notes));
}
