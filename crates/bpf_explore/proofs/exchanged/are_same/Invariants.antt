use Rattle.std.proofs.Common.{◌≡◌, length, take}
use Rattle.bpf_explore.proofs.exchanged.are_same.Given as goal

abbrev pub invariant-loop-run : goal.invariant-loop-run
invariant-loop-run l = take l.run l.one ≡ take l.run l.other
