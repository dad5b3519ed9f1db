use Rattle.std.proofs.Common.{◌≡◌, false, map, take}
use Rattle.bpf_pairs.specs.Pairs.{has_key, pair_of}
use Rattle.bpf_pairs.proofs.pairs.has_key.Given as goal

abbrev pub invariant-loop-pair : goal.invariant-loop-pair
invariant-loop-pair l = has_key l.number l.key (map pair_of (take l.pair-index l.pairs)) ≡ false
