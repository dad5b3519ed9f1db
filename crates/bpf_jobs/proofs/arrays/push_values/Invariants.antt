use Rattle.std.proofs.Common.{◌≡◌, ◌++◌}
use Rattle.std.specs.Prelude.{string_bytes}
use Rattle.bpf_shared.specs.declared.shapes.ArrayShape.{ArrayShape}
use Rattle.bpf_shared.specs.Shape.{IsArray}
use Rattle.bpf_shared.specs.Store.{Plain}
use Rattle.bpf_shared.specs.Sound.{IsSoundStore}
use Rattle.bpf_plain.specs.PlainStore.{StandsFor}
use Rattle.bpf_jobs.specs.Printed.{called_by, value_lines}
use Rattle.bpf_jobs.proofs.arrays.push_values.Given as goal

abbrev pub invariant-loop-index : goal.invariant-loop-index
invariant-loop-index l = (s : Plain) → IsSoundStore s → StandsFor l.store s → (g : ArrayShape) → IsArray s.shape.arrays l.array.number g
    → string_bytes l.text ≡ string_bytes l.fn.text ++ value_lines s (called_by l.array) g l.index
