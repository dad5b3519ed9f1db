use Rattle.std.proofs.Common.{◌≡◌, map, take}
use Rattle.std.specs.Prelude.{string_bytes}
use Rattle.bpf_buffering.specs.Waiting.{event_of}
use Rattle.bpf_buffer_debug.specs.Waiting.{waiting_lines}
use Rattle.bpf_buffer_debug.proofs.waiting.waiting_lines.Given as goal

abbrev pub invariant-loop-stored : goal.invariant-loop-stored
invariant-loop-stored l = string_bytes l.text ≡ waiting_lines (map string_bytes l.names) l.cpu (map event_of (take l.stored-index l.stores))
