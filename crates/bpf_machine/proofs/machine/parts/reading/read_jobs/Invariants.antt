use Rattle.std.proofs.Common.{◌≡◌, ◌++◌, length, take}
use Rattle.bpf_machine.specs.Saved.{jobs_saved, AreLater}
use Rattle.bpf_machine.proofs.machine.parts.reading.read_jobs.Given as goal

abbrev pub invariant-loop-job : goal.invariant-loop-job
invariant-loop-job l = record {
  count : length l.jobs ≡ length l.first;
  later : AreLater (take l.job l.first) (take l.job l.jobs);
  read : l.bytes ≡ jobs_saved (take l.job l.jobs) ++ l.rest;
}
