use Rattle.std.proofs.Common.{◌≡◌, ℕ, ◌<◌, length}
use Rattle.bpf_machine.specs.Private.Lanes.{lane_of}
use Rattle.bpf_machine.specs.Private.Parts.{IsSpareFor, spare_of}
use Rattle.bpf_machine.proofs.machine.parts.spare_lanes.Given as goal

abbrev pub invariant-loop-cpu : goal.invariant-loop-cpu
invariant-loop-cpu l = record {
  count : length l.spares.items ≡ l.cpu;
  each : (c : ℕ) → c < l.cpu → IsSpareFor l.parts l.numbers c (lane_of l.lanes c) (spare_of l.spares.items c);
}
