use Rattle.std.proofs.Common.{ℕ, ◌-◌, ◌<◌, length}
use Rattle.bpf_hash.specs.Private.Rows.{IsTakenRow}
use Rattle.bpf_hash.proofs.table.Table.lowest_free.Given as goal

abbrev pub invariant-loop-element : goal.invariant-loop-element
invariant-loop-element l = (i : ℕ) → i < l.element → IsTakenRow l.runs l.self i

abbrev pub decreases-loop-element : goal.decreases-loop-element
decreases-loop-element l = length l.self.linked - l.element
