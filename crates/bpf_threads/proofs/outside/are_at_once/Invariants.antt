use Rattle.std.proofs.Common.{ℕ, ◌<◌}
use Rattle.bpf_shared.specs.declared.shapes.ArrayShape.{ArrayShape}
use Rattle.bpf_shared.specs.Shape.{IsArray}
use Rattle.bpf_threads.specs.Outside.{IsCopiedAtOnce}
use Rattle.bpf_threads.proofs.outside.are_at_once.Given as goal

abbrev pub invariant-loop-place : goal.invariant-loop-place
invariant-loop-place l = (k : ℕ) → k < l.place → (g : ArrayShape) → IsArray l.arrays k g → IsCopiedAtOnce g
