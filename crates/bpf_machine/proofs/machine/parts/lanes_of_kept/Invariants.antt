use Rattle.std.proofs.Common.{◌≡◌, ℕ, ◌<◌, length}
use Rattle.bpf_machine.specs.Private.Lanes.{lane_of}
use Rattle.bpf_machine.specs.Private.Parts.{IsLaneOf}
use Rattle.bpf_machine.proofs.machine.parts.lanes_of_kept.Given as goal

abbrev pub invariant-loop-cpu : goal.invariant-loop-cpu
invariant-loop-cpu l = record {
  count : length l.lanes.items ≡ l.cpu;
  each : (c : ℕ) → c < l.cpu → IsLaneOf l.parts l.numbers c (lane_of l.lanes.items c);
}
