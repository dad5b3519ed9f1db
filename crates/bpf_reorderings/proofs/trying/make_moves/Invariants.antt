use Rattle.std.proofs.Common.{◌≡◌, map, take}
use Rattle.bpf_machine.specs.Schedule.{unrolled}
use Rattle.bpf_buffering.specs.Search.{move_of}
use Rattle.bpf_flushes.specs.Moves.{MakesTo}
use Rattle.bpf_reorderings.proofs.trying.make_moves.Given as goal

abbrev pub invariant-loop-made : goal.invariant-loop-made
invariant-loop-made l = (l.explorer.kept ≡ l.fn.explorer.kept) × (l.explorer.patient ≡ l.fn.explorer.patient)
    × MakesTo l.fn.explorer.machine (map move_of (unrolled (take l.made-index l.runs))) l.explorer.machine
