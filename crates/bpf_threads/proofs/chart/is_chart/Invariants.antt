use Rattle.std.proofs.Common.{ℕ, ◌<◌}
use Rattle.bpf_threads.specs.Private.Charts.{IsSpotFrom}
use Rattle.bpf_threads.proofs.chart.is_chart.Given as goal

abbrev pub invariant-loop-place : goal.invariant-loop-place
invariant-loop-place l = (i : ℕ) → i < l.place → IsSpotFrom l.program l.spots i
