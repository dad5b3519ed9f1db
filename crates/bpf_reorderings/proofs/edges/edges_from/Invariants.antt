use Rattle.std.proofs.Common.{◌≡◌, ℕ, Some, length}
use Rattle.std.specs.Prelude.{slice_get}
use Rattle.bpf_reorderings.specs.declared.edges.Edge.{Edge}
use Rattle.bpf_reorderings.specs.Private.Edges.{IsEdge}
use Rattle.bpf_reorderings.proofs.edges.edges_from.Given as goal

abbrev pub invariant-loop-cpu : goal.invariant-loop-cpu
invariant-loop-cpu l = record {
  same : l.explorer.kept ≡ l.fn.explorer.kept;
  patient : l.explorer.patient ≡ l.fn.explorer.patient;
  count : length l.row.items ≡ l.cpu;
  each : (c : ℕ) (e : Edge) → slice_get l.row.items c ≡ Some e → IsEdge l.fn.explorer.kept l.place c e;
}
