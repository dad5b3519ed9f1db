use Rattle.std.proofs.Common.{◌≡◌, ◌++◌, ◌-◌, ◌≤◌}
use Rattle.bpf_base.specs.Bytes.{low_bytes}
use Rattle.bpf_file.proofs.putting.push_low.Given as goal

-- with those of what is left they are all
abbrev pub invariant-loop : goal.invariant-loop
invariant-loop l = record {
  count : l.counter ≤ l.size;
  bytes : l.bytes.items ++ low_bytes (l.size - l.counter) l.left ≡ l.fn.bytes.items ++ low_bytes l.size l.number;
}
