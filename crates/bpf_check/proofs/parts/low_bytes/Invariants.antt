use Rattle.std.proofs.Common.{◌≡◌, ◌++◌, ◌-◌, ◌≤◌}
use Rattle.bpf_base.specs.Bytes.{low_bytes}
use Rattle.bpf_check.proofs.parts.low_bytes.Given as goal

-- with those of what is left they are all
abbrev pub invariant-loop : goal.invariant-loop
invariant-loop l = record {
  count : l.counter ≤ l.size;
  bytes : l.bytes.items ++ low_bytes (l.size - l.counter) l.left ≡ low_bytes l.size l.number;
}
