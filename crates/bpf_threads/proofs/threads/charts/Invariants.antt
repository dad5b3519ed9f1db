use Rattle.std.proofs.Common.{◌≡◌, length}
use Rattle.bpf_threads.specs.Private.Charts.{AreCharts}
use Rattle.bpf_threads.proofs.threads.charts.Given as goal

abbrev pub invariant-loop-place : goal.invariant-loop-place
invariant-loop-place l = (length l.charts.items ≡ l.place) × AreCharts l.programs l.charts.items
