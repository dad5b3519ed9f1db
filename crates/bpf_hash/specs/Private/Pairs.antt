-- The pairs of a map's elements, as they are collected and sorted.
use Rattle.std.specs.Prelude.{◌≡◌, ℕ, ◌<◌, true, List, length, take}
use Rattle.std.specs.List.{count_by}
use Rattle.std.specs.Ordering.{nat_cmp}
use Rattle.std.specs.declared.cmp.Ordering.TheVariants.{Less}
use Rattle.std.specs.Cmp.Lexicographic.{slice_cmp}
use Rattle.bpf_hash.specs.Private.Rows.{Rows, key_of, bytes_of, IsLinked}
use Rattle.bpf_shared.specs.Listing.{Pair, pair_at}
use Rattle.bpf_shared.specs.KeyOrder.{is_among, in_order, AreDistinct}

-- what an element holds
abbrev pub row_pair : Rows → ℕ → Pair
row_pair t i = (key_of t i, bytes_of t i)

-- the k-th pair is that of the element
abbrev pub IsPairOfElement : Rows → List Pair → ℕ → ℕ → Type 0
IsPairOfElement t pairs k i = pair_at pairs k ≡ row_pair t i

-- the pairs are those of a map's elements below this one, each key once
pub record ArePairsBelow (t : Rows) (n : ℕ) (pairs : List Pair) : Type 0 where
  pub each : (k : ℕ) → k < length pairs
      → (i : ℕ) × IsLinked t i × (i < n) × IsPairOfElement t pairs k i
  pub all : (i : ℕ) → IsLinked t i → i < n
      → (k : ℕ) × (k < length pairs) × IsPairOfElement t pairs k i
  pub once : (j k : ℕ) → j < length pairs → k < length pairs
      → (pair_at pairs j).0 ≡ (pair_at pairs k).0 → j ≡ k

-- the pairs are those of a map's elements, in the order of their keys
pub record AreRowPairs (t : Rows) (pairs : List Pair) : Type 0 where
  pub sorted : (j k : ℕ) → j < k → k < length pairs
      → slice_cmp nat_cmp (pair_at pairs j).0 (pair_at pairs k).0 ≡ Less
  pub each : (k : ℕ) → k < length pairs
      → (i : ℕ) × IsLinked t i × IsPairOfElement t pairs k i
  pub all : (i : ℕ) → IsLinked t i → (k : ℕ) × (k < length pairs) × IsPairOfElement t pairs k i

-- of the elements below this one, the list has the keys of those in the map, and no others, each
-- once
pub record AreKeysBelow (t : Rows) (n : ℕ) (keys : List (List ℕ)) : Type 0 where
  pub each : (q : List ℕ) → is_among q keys ≡ true
      → (i : ℕ) × IsLinked t i × (i < n) × (q ≡ key_of t i)
  pub all : (i : ℕ) → IsLinked t i → i < n → is_among (key_of t i) keys ≡ true
  pub distinct : AreDistinct keys
  pub few : length keys ≡ count_by (λ b. b) (take n t.linked)

-- the list is that of the map's keys, in order
abbrev pub AreRowKeys : Rows → List (List ℕ) → Type 0
AreRowKeys t keys = (found : List (List ℕ)) × AreKeysBelow t (length t.linked) found
    × (keys ≡ in_order found)
