use Rattle.std.proofs.Common.{◌≡◌, ◌+◌, ◌*◌, ◌≤◌, ◌++◌}
use Rattle.std.specs.Prelude.{string_bytes, string_len, string_capacity}
use Rattle.bpf_debug.specs.Told.{told_jobs}
use Rattle.bpf_buffer_debug.proofs.lines.put_jobs.Given as goal

abbrev pub invariant-loop-job : goal.invariant-loop-job
invariant-loop-job l = record {
  text : string_bytes l.out ≡ string_bytes l.fn.out ++ told_jobs l.job l.machine.machine.jobs;
  size : string_len l.out ≤ string_len l.fn.out + 128 * l.job;
  room : string_capacity l.fn.out ≤ string_capacity l.out;
}
