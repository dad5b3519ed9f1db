use Rattle.std.proofs.Common.{drop}
use Rattle.bpf_machine.specs.Parts.{IsSameHost}
use Rattle.bpf_debug.proofs.RecallLaws.{RecallsFar}
use Rattle.bpf_debug.proofs.recall.recall_runs.Given as goal

abbrev pub invariant-loop-run : goal.invariant-loop-run
invariant-loop-run l = record {
  made : RecallsFar l.fn.machine l.runs l.kind l.cpu l.machine (drop l.run-index l.runs) l.last;
  same : IsSameHost l.fn.machine l.machine;
}
