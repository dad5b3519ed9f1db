use Rattle.std.proofs.Common.{ℕ, ◌<◌}
use Rattle.bpf_threads.specs.Private.Outside.{PlaceReadsOutside}
use Rattle.bpf_threads.proofs.outside.all_read_outside.Given as goal

abbrev pub invariant-loop-place : goal.invariant-loop-place
invariant-loop-place l = (k : ℕ) → k < l.place → PlaceReadsOutside l.arrays l.program l.spots k
