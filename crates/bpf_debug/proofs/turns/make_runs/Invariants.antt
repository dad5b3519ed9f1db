use Rattle.std.proofs.Common.{◌+◌, ◌*◌, ◌≤◌, drop}
use Rattle.std.specs.Prelude.{string_bytes, string_len, string_capacity}
use Rattle.bpf_machine.specs.Parts.{IsSameHost}
use Rattle.bpf_machine.specs.Questions.{open_jobs}
use Rattle.bpf_debug.proofs.ManyTurns.{RunsFar}
use Rattle.bpf_debug.proofs.turns.make_runs.Given as goal

abbrev pub invariant-loop-run : goal.invariant-loop-run
invariant-loop-run l = record {
  made : RunsFar l.fn.machine l.runs (string_bytes l.fn.out) l.machine (drop l.run-index l.runs) (string_bytes l.out);
  same : IsSameHost l.fn.machine l.machine;
  room : string_len l.out + 128 * open_jobs l.machine.jobs + 128 ≤ string_capacity l.out;
}
