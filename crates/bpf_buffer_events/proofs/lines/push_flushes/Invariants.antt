use Rattle.std.proofs.Common.{◌≡◌, ◌++◌, map, take}
use Rattle.std.specs.Prelude.{string_bytes}
use Rattle.bpf_buffering.specs.Waiting as buffers
use Rattle.bpf_buffer_events.specs.Happenings.{Flushed}
use Rattle.bpf_buffer_events.specs.Printed.{item_lines}
use Rattle.bpf_buffer_events.proofs.lines.push_flushes.Given as goal

abbrev pub invariant-loop-stored : goal.invariant-loop-stored
invariant-loop-stored l =
    string_bytes l.text ≡ string_bytes l.fn.text ++ item_lines (map string_bytes l.names)
    (map (Flushed l.cpu) (map buffers.event_of (take l.stored-index l.stores)))
