use Rattle.std.proofs.Common.{◌≡◌, ℕ, ◌<◌}
use Rattle.bpf_reorderings.specs.Private.Hung.{NoneRanOutAt}
use Rattle.bpf_reorderings.proofs.hung.all_go_on.Given as goal

abbrev pub invariant-loop-place : goal.invariant-loop-place
invariant-loop-place l = record {
  same : l.explorer.kept ≡ l.fn.explorer.kept;
  patient : l.explorer.patient ≡ l.fn.explorer.patient;
  none : (i : ℕ) → i < l.place → NoneRanOutAt l.fn.explorer.kept i;
}
