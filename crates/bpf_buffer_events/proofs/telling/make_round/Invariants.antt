use Rattle.std.proofs.Common.{map}
use Rattle.std.specs.Prelude.{string_bytes}
use Rattle.bpf_flushes.specs.Moves.{round_below}
use Rattle.bpf_buffer_events.specs.Private.Told.{ArePrinted, By}
use Rattle.bpf_buffer_events.specs.Private.Watched.{AreWatched}
use Rattle.bpf_buffer_events.proofs.telling.make_round.Given as goal

abbrev pub invariant-loop-cpu : goal.invariant-loop-cpu
invariant-loop-cpu l = record {
  told : ArePrinted (By (round_below l.cpu)) (map string_bytes l.names) l.fn.scene l.scene;
  shape : AreWatched l.scene.machine l.scene.watcher;
}
