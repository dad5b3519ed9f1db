use Rattle.std.proofs.Common.{◌≡◌, None, take}
use Rattle.bpf_machine.specs.Parts.{IsSameHost}
use Rattle.bpf_buffer_debug.specs.Moves.{all_moves}
use Rattle.bpf_buffer_debug.specs.Recall.{RecallsTo}
use Rattle.bpf_buffer_debug.proofs.recall.recall_runs.Given as goal

abbrev pub invariant-loop-run : goal.invariant-loop-run
invariant-loop-run l = record {
  made : RecallsTo l.kind l.cpu l.fn.album.machine None (all_moves (take l.run-index l.runs)) l.album.machine l.last;
  host : IsSameHost l.fn.album.machine.machine l.album.machine.machine;
  kept : l.album.kept ≡ l.fn.album.kept;
}
