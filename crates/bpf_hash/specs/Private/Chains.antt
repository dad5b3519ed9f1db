-- Chains of elements, which lead from each of them to the next.
use Rattle.std.specs.Prelude.{◌≡◌, ◌≢◌, ℕ, zero, suc, ◌+◌, ◌<◌, ◌⊎◌, List, [], ◌∷◌, length, slice_index}

-- the number is one of these
abbrev pub Has : List ℕ → ℕ → Type 0
Has [] i = ⊥
Has (x ∷ xs) i = (i ≡ x) ⊎ Has xs i

-- no number occurs twice
abbrev pub IsDistinct : List ℕ → Type 0
IsDistinct [] = Unit {0}
IsDistinct (x ∷ xs) = (Has xs x → ⊥) × IsDistinct xs

-- a link is one more than an element's number, and 0 is the end: these are the elements from a link
-- on
abbrev pub IsChain : List ℕ → ℕ → List ℕ → Type 0
IsChain nexts link [] = link ≡ 0
IsChain nexts link (x ∷ xs) = (link ≡ x + 1) × IsChain nexts (slice_index nexts x) xs

-- how many elements there are from a link on, up to a bound
abbrev pub chain_length : List ℕ → ℕ → ℕ → ℕ
chain_length nexts zero link = 0
chain_length nexts (suc n) zero = 0
chain_length nexts (suc n) (suc x) = suc (chain_length nexts n (slice_index nexts x))

pub record Links : Type 0 where
  -- by home, the link to its first element
  pub heads : List ℕ
  -- by element, the link to the next one
  pub nexts : List ℕ

-- the elements of a home's chain
abbrev pub IsChainOf : Links → ℕ → List ℕ → Type 0
IsChainOf x b xs = IsChain x.nexts (slice_index x.heads b) xs

-- the element is in the chain of this home
abbrev pub IsChainedAt : Links → ℕ → ℕ → Type 0
IsChainedAt x b i = (xs : List ℕ) × IsChainOf x b xs × Has xs i

-- each home has a chain, which ends, and an element is in one chain at most, once
pub record IsLinks (x : Links) : Type 0 where
  pub fits : length x.nexts < 0x1_0000_0000
  pub chain : (b : ℕ) → (xs : List ℕ) × IsChainOf x b xs × IsDistinct xs
  pub inside : (b i : ℕ) → IsChainedAt x b i → i < length x.nexts
  pub apart : (b c i : ℕ) → IsChainedAt x b i → IsChainedAt x c i → b ≡ c

-- there are as many homes and elements
pub record AreAsMany (old new : Links) : Type 0 where
  pub homes : length new.heads ≡ length old.heads
  pub elements : length new.nexts ≡ length old.nexts

-- the element came to a home, and the others stay where they are
pub record GetsChained (b i : ℕ) (old new : Links) : Type 0 where
  pub many : AreAsMany old new
  pub here : IsChainedAt new b i
  pub still : (c j : ℕ) → IsChainedAt old c j → IsChainedAt new c j
  pub was : (c j : ℕ) → IsChainedAt new c j → ((c ≡ b) × (j ≡ i)) ⊎ IsChainedAt old c j

-- the element went, and the others stay where they are
pub record GetsUnchained (i : ℕ) (old new : Links) : Type 0 where
  pub many : AreAsMany old new
  pub still : (c j : ℕ) → IsChainedAt old c j → j ≢ i → IsChainedAt new c j
  pub was : (c j : ℕ) → IsChainedAt new c j → IsChainedAt old c j × (j ≢ i)
