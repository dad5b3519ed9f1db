use Rattle.std.proofs.Common.{ℕ, ◌≤◌, List, length}
use Rattle.bpf_hash.specs.declared.runs.Runs.{Runs}
use Rattle.bpf_hash.specs.Private.Rows.{Rows}
use Rattle.bpf_hash.specs.Private.Normal.{IsSavedRows, AreRead}
use Rattle.bpf_hash.specs.Private.Sized.{AreSized}
use Rattle.bpf_hash.proofs.table.restoring.read_parts.Given as goal

abbrev pub invariant-loop-element : goal.invariant-loop-element
invariant-loop-element l = record {
  read : (runs : List Runs) (t : Rows) (more : List ℕ) → IsSavedRows l.shape l.cpus l.bytes runs t more
      → AreRead runs t l.element l.at l.parts.linked.items l.parts.keys.items l.parts.values.items l.parts.looked_up.items l.parts.left.items;
  inside : l.at ≤ length l.bytes;
  sized : AreSized l.shape l.cpus l.element l.parts.linked.items l.parts.keys.items l.parts.values.items l.parts.looked_up.items l.parts.left.items;
}
