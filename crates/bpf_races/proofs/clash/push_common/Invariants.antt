use Rattle.std.proofs.Common.{◌≤◌}
use Rattle.bpf_races.specs.Private.Clashes.{Collects}
use Rattle.bpf_races.proofs.Clashing.{InRange}
use Rattle.bpf_races.proofs.clash.push_common.Given as goal

abbrev pub invariant-loop-byte : goal.invariant-loop-byte
invariant-loop-byte l = (l.low ≤ l.byte) × Collects (InRange l.low l.high l.byte) l.sync l.fn.bytes.items l.bytes.items
