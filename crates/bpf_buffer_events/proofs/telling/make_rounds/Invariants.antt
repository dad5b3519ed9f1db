use Rattle.std.proofs.Common.{map}
use Rattle.std.specs.Prelude.{string_bytes}
use Rattle.bpf_buffer_events.specs.Private.Watched.{AreWatched}
use Rattle.bpf_buffer_events.proofs.Joined.{Going}
use Rattle.bpf_buffer_events.proofs.telling.make_rounds.Given as goal

abbrev pub invariant-loop : goal.invariant-loop
invariant-loop l = record {
  going : Going (map string_bytes l.names) l.fn.scene l.scene;
  shape : AreWatched l.scene.machine l.scene.watcher;
}
