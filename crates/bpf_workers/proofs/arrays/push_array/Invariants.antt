use Rattle.std.proofs.Common.{◌≡◌, ◌++◌}
use Rattle.std.specs.Prelude.{string_bytes}
use Rattle.bpf_shared.specs.declared.shapes.ArrayShape.{ArrayShape}
use Rattle.bpf_shared.specs.Shape.{IsArray}
use Rattle.bpf_shared.specs.Store.{Plain}
use Rattle.bpf_jobs.specs.Printed.{called_by, value_lines}
use Rattle.hop_map.specs.Dumping.{IsLast}
use Rattle.bpf_workers.proofs.arrays.push_array.Given as goal

abbrev pub invariant-loop-index : goal.invariant-loop-index
invariant-loop-index l = (last : Plain) → IsLast l.left.closed.now last → last.shape ≡ l.left.shape.now → (g : ArrayShape) → IsArray
    last.shape.arrays l.array.number g
    → string_bytes l.text ≡ string_bytes l.fn.text ++ value_lines last (called_by l.array) g l.index
