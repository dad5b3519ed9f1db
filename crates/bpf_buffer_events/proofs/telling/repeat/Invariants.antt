use Rattle.std.proofs.Common.{map, replicate}
use Rattle.std.specs.Prelude.{string_bytes}
use Rattle.bpf_buffering.specs.Search.{move_of}
use Rattle.bpf_buffer_events.specs.Private.Told.{ArePrinted, By}
use Rattle.bpf_buffer_events.specs.Private.Watched.{AreWatched}
use Rattle.bpf_buffer_events.proofs.telling.repeat.Given as goal

abbrev pub invariant-loop : goal.invariant-loop
invariant-loop l = record {
  told : ArePrinted (By (replicate l.counter (move_of l.made))) (map string_bytes l.names) l.fn.scene l.scene;
  shape : AreWatched l.scene.machine l.scene.watcher;
}
