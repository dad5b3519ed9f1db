use Rattle.std.proofs.Common.{◌≡◌}
use Rattle.bpf_explore.proofs.rounds.find_moves.Given as goal

abbrev pub invariant-loop-edge : goal.invariant-loop-edge
invariant-loop-edge l = (l.explorer.kept ≡ l.fn.explorer.kept) × (l.explorer.peers ≡ l.fn.explorer.peers)
