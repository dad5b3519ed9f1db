use Rattle.std.proofs.Common.{map, take}
use Rattle.std.specs.Prelude.{string_bytes}
use Rattle.bpf_machine.specs.Schedule.{unrolled}
use Rattle.bpf_buffering.specs.Search.{move_of}
use Rattle.bpf_buffer_events.specs.Private.Told.{ArePrinted, By}
use Rattle.bpf_buffer_events.specs.Private.Watched.{AreWatched}
use Rattle.bpf_buffer_events.proofs.telling.make_moves.Given as goal

abbrev pub invariant-loop-made : goal.invariant-loop-made
invariant-loop-made l = record {
  told : ArePrinted (By (map move_of (unrolled (take l.made-index l.runs)))) (map string_bytes l.names) l.fn.scene l.scene;
  shape : AreWatched l.scene.machine l.scene.watcher;
}
