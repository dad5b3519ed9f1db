use Rattle.std.proofs.Common.{◌≡◌, ℕ, ◌<◌, false, get_or}
use Rattle.bpf_shared.specs.declared.shapes.MapShape.{MapShape}
use Rattle.bpf_races.proofs.shape.are_maps.Given as goal

abbrev pub none : MapShape
none = record { key = 0; value = 0; max = 0; spare = 0; mask = 0; grow = false }

-- the first of them are
abbrev pub invariant-loop-place : goal.invariant-loop-place
invariant-loop-place l = (i : ℕ) → i < l.place → get_or l.one i none ≡ get_or l.two i none
