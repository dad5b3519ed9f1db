use Rattle.std.proofs.Common.{◌≡◌, ◌≤◌, vec_len}
use Rattle.std.specs.Prelude.{map, vec_capacity}
use Rattle.bpf_machine.specs.Private.Lanes.{first_entry}
use Rattle.bpf_machine.proofs.machine.lane.list_jobs.Given as goal

abbrev pub invariant-loop-job : goal.invariant-loop-job
invariant-loop-job l = record {
  items : l.list.items ≡ map first_entry l.yielded;
  room : vec_len l.fn.jobs ≤ vec_capacity l.list;
}
