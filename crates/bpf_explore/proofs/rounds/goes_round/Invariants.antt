use Rattle.std.proofs.Common.{◌≡◌}
use Rattle.bpf_explore.specs.Private.Replays.{IsReached}
use Rattle.bpf_explore.proofs.rounds.goes_round.Given as goal

abbrev pub invariant-loop : goal.invariant-loop
invariant-loop l = (l.explorer.kept ≡ l.fn.explorer.kept) × (l.explorer.peers ≡ l.fn.explorer.peers)
    × IsReached l.fn.explorer.kept l.explorer.machine
