use Rattle.std.proofs.Common.{replicate}
use Rattle.bpf_machine.specs.Parts.{IsSameHost}
use Rattle.bpf_machine.proofs.LengthLaws.{Runs}
use Rattle.bpf_machine.proofs.machine.Machine.repeat.Given as goal

abbrev pub invariant-loop : goal.invariant-loop
invariant-loop l = record {
  runs : Runs l.fn.self (replicate l.counter l.cpu) l.self;
  same : IsSameHost l.fn.self l.self;
}
