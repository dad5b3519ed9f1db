use Rattle.std.proofs.Common.{◌≡◌, ◌+◌, ◌*◌, ◌≤◌, length}
use Rattle.std.specs.Prelude.{string_bytes, string_len, string_capacity, option_map}
use Rattle.bpf_machine.specs.Parts.{IsSameHost}
use Rattle.bpf_machine.specs.Questions.{open_jobs, turns_left}
use Rattle.bpf_debug.specs.Watch.{ShowsWatched, kept_values, watched}
use Rattle.bpf_debug.proofs.GoLaws.{Comes}
use Rattle.bpf_debug.proofs.going.go.Given as goal

abbrev pub invariant-loop-cpu : goal.invariant-loop-cpu
invariant-loop-cpu l = record {
  comes : Comes l.breakpoints (option_map watched l.watch) l.low l.high l.fn.course l.fn.machine (string_bytes l.fn.out) l.machine l.from
      l.gone l.course (string_bytes l.out);
  watched : ShowsWatched l.machine.store (option_map watched l.watch) (kept_values l.before);
  same : IsSameHost l.fn.machine l.machine;
  room : string_len l.out + 128 * open_jobs l.machine.jobs + 128 ≤ string_capacity l.out;
  size : length l.gone ≡ 256;
  above : l.low ≤ l.from;
}

abbrev pub decreases-loop-cpu : goal.decreases-loop-cpu
decreases-loop-cpu l = turns_left l.machine.jobs
