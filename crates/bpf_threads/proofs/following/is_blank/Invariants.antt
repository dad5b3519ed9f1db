use Rattle.std.proofs.Common.{◌≡◌, ℕ, ◌<◌, Some}
use Rattle.std.specs.Prelude.{slice_get}
use Rattle.bpf_threads.proofs.following.is_blank.Given as goal

abbrev pub invariant-loop-register : goal.invariant-loop-register
invariant-loop-register l = (n x : ℕ) → n < l.register → slice_get l.known n ≡ Some (Some x) → ⊥
