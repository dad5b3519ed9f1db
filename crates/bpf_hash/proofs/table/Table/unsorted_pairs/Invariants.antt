use Rattle.std.proofs.Common.{map}
use Rattle.bpf_shared.specs.Listing.{pair_of}
use Rattle.bpf_hash.specs.Private.Pairs.{ArePairsBelow}
use Rattle.bpf_hash.proofs.table.Table.unsorted_pairs.Given as goal

abbrev pub invariant-loop-element : goal.invariant-loop-element
invariant-loop-element l = ArePairsBelow l.self l.element (map pair_of l.pairs.items)
