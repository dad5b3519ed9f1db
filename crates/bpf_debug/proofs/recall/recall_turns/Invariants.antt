use Rattle.bpf_machine.specs.Parts.{IsSameHost}
use Rattle.bpf_debug.proofs.RecallLaws.{RecallsTurns}
use Rattle.bpf_debug.proofs.recall.recall_turns.Given as goal

abbrev pub invariant-loop : goal.invariant-loop
invariant-loop l = record {
  made : RecallsTurns l.fn.machine l.turns_of l.kind l.cpu l.fn.recall l.machine l.counter l.last;
  same : IsSameHost l.fn.machine l.machine;
}
