use Rattle.std.proofs.Common.{◌≡◌, ℕ, ◌<◌, false, get_or}
use Rattle.bpf_shared.specs.declared.shapes.ArrayShape.{ArrayShape}
use Rattle.bpf_races.proofs.shape.are_arrays.Given as goal

abbrev pub none : ArrayShape
none = record { value = 0; max = 0; per_cpu = false; frozen = false }

-- the first of them are
abbrev pub invariant-loop-place : goal.invariant-loop-place
invariant-loop-place l = (i : ℕ) → i < l.place → get_or l.one i none ≡ get_or l.two i none
