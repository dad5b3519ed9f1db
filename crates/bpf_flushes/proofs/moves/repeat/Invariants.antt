use Rattle.std.proofs.Common.{replicate}
use Rattle.bpf_buffering.specs.Search.{move_of}
use Rattle.bpf_flushes.specs.Moves.{MakesTo}
use Rattle.bpf_flushes.proofs.moves.repeat.Given as goal

abbrev pub invariant-loop : goal.invariant-loop
invariant-loop l = MakesTo l.fn.machine (replicate l.counter (move_of l.made)) l.machine
