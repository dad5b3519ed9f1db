use Rattle.std.proofs.Common.{◌≡◌, ℕ, Some, length}
use Rattle.std.specs.Prelude.{Vec, slice_get}
use Rattle.std.specs.declared.alloc.Global.{Global}
use Rattle.bpf_reorderings.specs.declared.edges.Edge.{Edge}
use Rattle.bpf_reorderings.specs.Private.Edges.{AreEdgesFrom}
use Rattle.bpf_reorderings.proofs.edges.find_edges.Given as goal

abbrev pub invariant-loop-place : goal.invariant-loop-place
invariant-loop-place l = record {
  same : l.explorer.kept ≡ l.fn.explorer.kept;
  patient : l.explorer.patient ≡ l.fn.explorer.patient;
  count : length l.rows.items ≡ l.place;
  each : (i : ℕ) (row : Vec Edge Global) → slice_get l.rows.items i ≡ Some row → AreEdgesFrom l.fn.explorer.kept i row.items;
}
