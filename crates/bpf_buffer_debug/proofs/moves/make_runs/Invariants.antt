use Rattle.std.proofs.Common.{◌≡◌, take}
use Rattle.std.specs.Prelude.{string_bytes}
use Rattle.bpf_machine.specs.Parts.{IsSameHost}
use Rattle.bpf_buffer_debug.specs.Moves.{TellsTo, all_moves}
use Rattle.bpf_buffer_debug.proofs.moves.make_runs.Given as goal

abbrev pub invariant-loop-run : goal.invariant-loop-run
invariant-loop-run l = record {
  told : TellsTo l.fn.album.machine (all_moves (take l.run-index l.runs)) (string_bytes l.fn.out) l.album.machine (string_bytes l.out);
  host : IsSameHost l.fn.album.machine.machine l.album.machine.machine;
  kept : l.album.kept ≡ l.fn.album.kept;
}
