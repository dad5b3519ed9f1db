use Rattle.std.proofs.Common.{◌≡◌, ◌≤◌, length}
use Rattle.std.specs.Prelude.{option_map, string_bytes}
use Rattle.bpf_machine.specs.Parts.{IsSameHost}
use Rattle.bpf_debug.specs.Watch.{ShowsWatched, kept_values, watched}
use Rattle.bpf_buffer_debug.proofs.GoLaws.{Comes}
use Rattle.bpf_buffer_debug.proofs.going.go.Given as goal

abbrev pub invariant-loop : goal.invariant-loop
invariant-loop l = record {
  comes : Comes l.breakpoints (option_map watched l.watching.watch.now) l.flushes l.low l.high l.fn.course l.fn.album.machine
      l.album.machine l.from l.gone l.course (string_bytes l.out);
  watched : ShowsWatched l.album.machine.machine.store (option_map watched l.watching.watch.now) (kept_values l.watching.before.now);
  host : IsSameHost l.fn.album.machine.machine l.album.machine.machine;
  kept : l.album.kept ≡ l.fn.album.kept;
  size : length l.gone ≡ 256;
  above : l.low ≤ l.from;
}
