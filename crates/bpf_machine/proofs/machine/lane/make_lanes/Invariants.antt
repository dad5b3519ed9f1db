use Rattle.std.proofs.Common.{◌≡◌, ℕ, ◌<◌, ◌≤◌, length, None}
use Rattle.std.specs.Prelude.{vec_capacity}
use Rattle.bpf_machine.specs.Private.Lanes.{IsFirstJob, lane_of}
use Rattle.bpf_machine.proofs.machine.lane.make_lanes.Given as goal

abbrev pub invariant-loop-cpu : goal.invariant-loop-cpu
invariant-loop-cpu l = record {
  count : length l.lanes.items ≡ l.cpu;
  room : l.cpus ≤ vec_capacity l.lanes;
  idle : (c : ℕ) → c < l.cpu → (lane_of l.lanes.items c).hand ≡ None;
  first : (c : ℕ) → c < l.cpu → IsFirstJob l.jobs c 0 (lane_of l.lanes.items c).next;
}
