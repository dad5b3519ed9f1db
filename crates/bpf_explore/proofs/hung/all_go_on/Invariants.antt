use Rattle.std.proofs.Common.{◌≡◌, ℕ, ◌<◌}
use Rattle.bpf_explore.specs.Album.{NoneRanOutAt}
use Rattle.bpf_explore.proofs.hung.all_go_on.Given as goal

abbrev pub invariant-loop-place : goal.invariant-loop-place
invariant-loop-place l = (l.explorer.kept ≡ l.fn.explorer.kept) × (l.explorer.peers ≡ l.fn.explorer.peers)
    × ((i : ℕ) → i < l.place → NoneRanOutAt l.fn.explorer.kept i)
