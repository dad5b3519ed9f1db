use Rattle.std.proofs.Common.{◌≡◌, length}
use Rattle.bpf_threads.specs.Counting.{AreBounds}
use Rattle.bpf_threads.proofs.threads.bounds.Given as goal

abbrev pub invariant-loop-place : goal.invariant-loop-place
invariant-loop-place l = (length l.bounds.items ≡ l.place) × AreBounds l.counted l.programs l.bounds.items
