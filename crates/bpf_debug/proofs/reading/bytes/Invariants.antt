use Rattle.std.proofs.Common.{◌≡◌, ℕ, ◌+◌, ◌<◌, ◌^◌}
use Rattle.std.specs.Prelude.{slice_index, vec_len}
use Rattle.bpf_debug.specs.Read.{ReadsByte}
use Rattle.bpf_debug.proofs.reading.bytes.Given as goal

abbrev pub invariant-loop-offset : goal.invariant-loop-offset
invariant-loop-offset l = record {
  count : vec_len l.found ≡ l.offset;
  each : (k : ℕ) → k < l.offset → ReadsByte l.store l.state (l.address + k) (slice_index l.found.items k);
  within : l.address + l.count < 2 ^ 64;
}
