use Rattle.std.proofs.Common.{◌≡◌, ◌++◌, map, take, drop}
use Rattle.bpf_explore.proofs.SpreadLaws.{swapped_run}
use Rattle.bpf_explore.proofs.spread.exchange_turns.Given as goal

abbrev pub invariant-loop-place : goal.invariant-loop-place
invariant-loop-place l = l.by ≡ map (swapped_run l.one l.other) (take l.place l.fn.by) ++ drop l.place l.fn.by
