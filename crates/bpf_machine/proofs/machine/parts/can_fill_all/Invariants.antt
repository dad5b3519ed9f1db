use Rattle.std.proofs.Common.{◌<◌, ℕ}
use Rattle.bpf_machine.specs.Private.Lanes.{lane_of}
use Rattle.bpf_machine.specs.Private.Parts.{CanFill}
use Rattle.bpf_machine.proofs.machine.parts.can_fill_all.Given as goal

abbrev pub invariant-loop-cpu : goal.invariant-loop-cpu
invariant-loop-cpu l = (c : ℕ) → c < l.cpu → CanFill l.parts l.numbers c (lane_of l.lanes c)
