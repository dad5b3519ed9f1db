use Rattle.std.proofs.Common.{◌≡◌, ℕ, ◌<◌, Some}
use Rattle.std.specs.Prelude.{slice_get, slice_index}
use Rattle.bpf_cpu.specs.Input.{no_input}
use Rattle.bpf_cpu.specs.State.{start}
use Rattle.bpf_threads.proofs.chart.is_first.Given as goal

abbrev pub invariant-loop-register : goal.invariant-loop-register
invariant-loop-register l = (n x : ℕ) → n < l.register → slice_get l.spot.known n ≡ Some (Some x) → slice_index (start 0 no_input).registers n ≡ x
