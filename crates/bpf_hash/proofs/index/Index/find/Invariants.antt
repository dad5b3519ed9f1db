use Rattle.std.proofs.Common.{◌≡◌, ℕ, ◌*◌, ◌≤◌, List, length}
use Rattle.bpf_base.specs.Bytes.{part}
use Rattle.bpf_hash.specs.Private.Chains.{Has, IsChain, IsChainedAt, chain_length}
use Rattle.bpf_hash.proofs.index.Index.find.Given as goal

-- the elements from here on are of the home, and one with the key is among them
abbrev pub invariant-loop-link : goal.invariant-loop-link
invariant-loop-link l = (rest : List ℕ) × IsChain l.self.nexts l.link rest × (length rest ≤ length l.self.nexts)
    × ((i : ℕ) → Has rest i → IsChainedAt l.self l.home i)
    × ((i : ℕ) → IsChainedAt l.self l.home i → part l.keys (i * l.size) l.size ≡ l.key → Has rest i)

abbrev pub decreases-loop-link : goal.decreases-loop-link
decreases-loop-link l = chain_length l.self.nexts (length l.self.nexts) l.link
