-- A walk along the chain of a home, given by the index's parts.
use Rattle.std.proofs.Common.{◌≡◌, ◌≢◌, ℕ, ◌-◌, ◌<◌, ◌≤◌, List, ◌∷◌, length, get_or, slice_index, ◌⊎◌, inl, inr, refl, sym, ap, subst, ◌∙◌, arith}
use Rattle.std.proofs.lemmas.List.{get_or_read}
use Rattle.bpf_hash.specs.Private.Chains.{Has, IsChain, chain_length, Links, IsChainedAt, IsLinks}
use Rattle.bpf_hash.proofs.Chaining.{chain_step, chain-length}

module _ (parts x : Links) (view : parts ≡ x) (ok : IsLinks parts) (b : ℕ) where
  -- the link of the home
  pub head_read : (link : ℕ) → b < length x.heads → link ≡ get_or parts.heads b link → link ≡ slice_index x.heads b
  head_read link home read = get_or_read parts.heads b link (subst (λ (y : Links). b < length y.heads) (sym view) home) read 0 ∙ ap
      (λ (y : Links). slice_index y.heads b) view

  -- an element of the home
  module _ (e : ℕ) (at : IsChainedAt x b e) where
    pub element_inside : e < length parts.nexts
    element_inside = ok.inside b e (subst (λ (y : Links). IsChainedAt y b e) (sym view) at)

    pub next_read : (next : ℕ) → next ≡ get_or parts.nexts e next → next ≡ slice_index x.nexts e
    next_read next read = get_or_read parts.nexts e next element_inside read 0 ∙ ap (λ (y : Links). slice_index y.nexts e) view

  -- from a link on, which isn't the end, these are elements of the home
  module _ (link : ℕ) (rest : List ℕ) (chain : IsChain x.nexts link rest) (most : length rest ≤ length x.nexts)
      (chained : (i : ℕ) → Has rest i → IsChainedAt x b i) (some : link ≢ 0) where
    abbrev pub later : List ℕ
    later = (chain_step x.nexts link rest some chain).0

    walked : rest ≡ (link - 1) ∷ later
    walked = (chain_step x.nexts link rest some chain).1

    pub walk_cases : (i : ℕ) → Has rest i → (i ≡ link - 1) ⊎ Has later i
    walk_cases i h = subst (λ (l : List ℕ). Has l i) walked h

    pub walk_at : IsChainedAt x b (link - 1)
    walk_at = chained (link - 1) (subst (λ (l : List ℕ). Has l (link - 1)) (sym walked) (inl refl))

    pub walk_inside : link - 1 < length parts.nexts
    walk_inside = element_inside (link - 1) walk_at

    fewer : length later < length rest
    fewer = let long : length rest ≡ length ((link - 1) ∷ later) = ap (λ (l : List ℕ). length l) walked in omega arith

    module _ (next : ℕ) (read : next ≡ get_or parts.nexts (link - 1) next) where
      pub walk_read : next ≡ slice_index x.nexts (link - 1)
      walk_read = next_read (link - 1) walk_at next read

      pub walk_rest : IsChain x.nexts next later × (length later ≤ length x.nexts) × ((i : ℕ) → Has later i → IsChainedAt x b i)
      walk_rest = (
        subst (λ (n : ℕ). IsChain x.nexts n later) (sym walk_read) (chain_step x.nexts link rest some chain).2,
        omega (arith, fewer, most),
        λ i h. chained i (subst (λ (l : List ℕ). Has l i) (sym walked) (inr h)),
      )

      pub walk_smaller : chain_length x.nexts (length x.nexts) next < chain_length x.nexts (length x.nexts) link
      walk_smaller =
          let old : chain_length x.nexts (length x.nexts) link ≡ length rest = chain-length x.nexts (length x.nexts) link rest chain most in
          let new : chain_length x.nexts (length x.nexts) next ≡ length later = chain-length x.nexts (length x.nexts) next later walk_rest.0 walk_rest.1 in
          omega (arith, old, new, fewer)
