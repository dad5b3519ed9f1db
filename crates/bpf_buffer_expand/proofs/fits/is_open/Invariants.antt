use Rattle.std.proofs.Common.{ℕ, ◌<◌}
use Rattle.bpf_buffer_expand.specs.State.{IsOpenIn}
use Rattle.bpf_buffer_expand.proofs.fits.is_open.Given as goal

abbrev pub invariant-loop-number : goal.invariant-loop-number
invariant-loop-number l = (k : ℕ) → k < l.number → IsOpenIn l.shape l.at l.count k → ⊥
