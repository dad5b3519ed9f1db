use Rattle.std.proofs.Common.{◌≡◌, ◌≤◌, map, take}
use Rattle.bpf_pairs.specs.Pairs.{pair_of, pairs_in}
use Rattle.bpf_pairs.proofs.pairs.count_in.Given as goal

abbrev pub invariant-loop-pair : goal.invariant-loop-pair
invariant-loop-pair l = (l.count ≡ pairs_in l.number (map pair_of (take l.pair-index l.pairs))) × (l.count ≤ l.pair-index)
