use Rattle.std.proofs.Common.{◌≡◌, ℕ, ◌≤◌, List, length, slice_index}
use Rattle.bpf_hash.specs.Private.Chains.{Has, IsChain, IsChainedAt, chain_length}
use Rattle.bpf_hash.proofs.index.Index.before.Given as goal

-- the element is further on
abbrev pub invariant-loop-next : goal.invariant-loop-next
invariant-loop-next l = (rest : List ℕ) × IsChain l.self.nexts l.next rest × (length rest ≤ length l.self.nexts)
    × ((i : ℕ) → Has rest i → IsChainedAt l.self l.home i) × Has rest l.element
    × IsChainedAt l.self l.home l.before × (l.next ≡ slice_index l.self.nexts l.before)

abbrev pub decreases-loop-next : goal.decreases-loop-next
decreases-loop-next l = chain_length l.self.nexts (length l.self.nexts) l.next
