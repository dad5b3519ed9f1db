use Rattle.std.proofs.Common.{◌≡◌, ◌<◌, ◌++◌}
use Rattle.std.specs.Prelude.{string_bytes}
use Rattle.bpf_shared.specs.declared.shapes.ArrayShape.{ArrayShape}
use Rattle.bpf_shared.specs.Shape.{IsArray}
use Rattle.bpf_shared.specs.Store.{Plain}
use Rattle.bpf_jobs.specs.Printed.{called_by, index_lines}
use Rattle.hop_map.specs.Dumping.{IsLast}
use Rattle.bpf_workers.proofs.arrays.push_index.Given as goal

abbrev pub invariant-loop-copy : goal.invariant-loop-copy
invariant-loop-copy l = (last : Plain) → IsLast l.fn.left.closed.now last → last.shape ≡ l.fn.left.shape.now → (g : ArrayShape) → IsArray
    last.shape.arrays l.array.number g → l.index < g.max
    → string_bytes l.text ≡ string_bytes l.fn.text ++ index_lines last (called_by l.array) g l.index l.copy
