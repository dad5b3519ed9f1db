use Rattle.std.proofs.Common.{◌≡◌, replicate}
use Rattle.bpf_buffering.specs.Search.{move_of}
use Rattle.bpf_flushes.specs.Moves.{MakesTo}
use Rattle.bpf_reorderings.proofs.trying.repeat.Given as goal

abbrev pub invariant-loop : goal.invariant-loop
invariant-loop l = (l.explorer.kept ≡ l.fn.explorer.kept) × (l.explorer.patient ≡ l.fn.explorer.patient)
    × MakesTo l.fn.explorer.machine (replicate l.counter (move_of l.made)) l.explorer.machine
