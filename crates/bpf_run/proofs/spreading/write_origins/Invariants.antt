use Rattle.std.proofs.Common.{◌≡◌, ◌<◌, ℕ, List, Some, map, slice_get}
use Rattle.bpf_run.specs.Spreading.{origins_name}
use Rattle.bpf_run.proofs.spreading.write_origins.Given as goal

abbrev pub invariant-loop-part : goal.invariant-loop-part
invariant-loop-part g l = (k : ℕ) (part : List ℕ) → k < l.part → slice_get (map (λ v. v.items) l.parts) k ≡ Some part
    → g.T.Shelf.has_made l.rt (origins_name l.folder k) part
