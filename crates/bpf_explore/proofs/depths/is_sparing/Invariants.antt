use Rattle.std.proofs.Common.{ℕ, ◌<◌}
use Rattle.bpf_explore.specs.Private.Depths.{IsSparingAt}
use Rattle.bpf_explore.proofs.depths.is_sparing.Given as goal

abbrev pub invariant-loop-place : goal.invariant-loop-place
invariant-loop-place l = (i : ℕ) → i < l.place → IsSparingAt l.turns.peers.items l.explorer.kept l.depths l.least i
