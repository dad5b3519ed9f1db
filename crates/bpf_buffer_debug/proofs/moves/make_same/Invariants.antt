use Rattle.std.proofs.Common.{◌≡◌, replicate}
use Rattle.std.specs.Prelude.{string_bytes}
use Rattle.bpf_machine.specs.Parts.{IsSameHost}
use Rattle.bpf_buffering.specs.Search.{move_of}
use Rattle.bpf_buffer_debug.specs.Moves.{TellsTo}
use Rattle.bpf_buffer_debug.proofs.moves.make_same.Given as goal

abbrev pub invariant-loop : goal.invariant-loop
invariant-loop l = record {
  told : TellsTo l.fn.album.machine (replicate l.counter (move_of l.made)) (string_bytes l.fn.out) l.album.machine (string_bytes l.out);
  host : IsSameHost l.fn.album.machine.machine l.album.machine.machine;
  kept : l.album.kept ≡ l.fn.album.kept;
}
