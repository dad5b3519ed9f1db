use Rattle.std.proofs.Common.{◌≡◌, replicate}
use Rattle.bpf_machine.specs.Parts.{IsSameHost}
use Rattle.bpf_buffering.specs.Search.{move_of}
use Rattle.bpf_buffer_debug.specs.Recall.{RecallsTo}
use Rattle.bpf_buffer_debug.proofs.recall.recall_same.Given as goal

abbrev pub invariant-loop : goal.invariant-loop
invariant-loop l = record {
  made : RecallsTo l.kind l.cpu l.fn.album.machine l.fn.recall (replicate l.counter (move_of l.made)) l.album.machine l.last;
  host : IsSameHost l.fn.album.machine.machine l.album.machine.machine;
  kept : l.album.kept ≡ l.fn.album.kept;
}
