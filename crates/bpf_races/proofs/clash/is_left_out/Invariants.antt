use Rattle.std.proofs.Common.{◌≡◌, ℕ, ◌<◌, Some}
use Rattle.std.specs.Prelude.{slice_get}
use Rattle.bpf_races.specs.declared.sync.Part.{Part}
use Rattle.bpf_races.specs.Parts.{IsInPart}
use Rattle.bpf_races.proofs.clash.is_left_out.Given as goal

abbrev pub invariant-loop-k : goal.invariant-loop-k
invariant-loop-k l = (i : ℕ) (part : Part) → i < l.k → slice_get l.sync i ≡ Some part → IsInPart part l.address → ⊥
