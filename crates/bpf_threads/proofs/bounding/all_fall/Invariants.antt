use Rattle.std.proofs.Common.{ℕ, ◌<◌}
use Rattle.bpf_threads.specs.Counting.{FallsAlong}
use Rattle.bpf_threads.proofs.bounding.all_fall.Given as goal

abbrev pub invariant-loop-place : goal.invariant-loop-place
invariant-loop-place l = (i : ℕ) → i < l.place → FallsAlong l.counted l.program l.spots l.most i
