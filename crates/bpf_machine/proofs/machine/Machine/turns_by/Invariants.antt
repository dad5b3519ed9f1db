use Rattle.std.proofs.Common.{take}
use Rattle.bpf_machine.specs.Parts.{IsSameHost}
use Rattle.bpf_machine.specs.Schedule.{unrolled}
use Rattle.bpf_machine.proofs.LengthLaws.{Runs}
use Rattle.bpf_machine.proofs.machine.Machine.turns_by.Given as goal

abbrev pub invariant-loop-cpu : goal.invariant-loop-cpu
invariant-loop-cpu l = record {
  runs : Runs l.fn.self (unrolled (take l.cpu-index l.runs)) l.self;
  same : IsSameHost l.fn.self l.self;
}
