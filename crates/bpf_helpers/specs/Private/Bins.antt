-- How the spans that a run holds are kept in bins, by where they start.
use Rattle.std.specs.Prelude.{◌≡◌, ℕ, ◌/◌, ◌^◌, ◌-◌, ◌<◌, ◌≤◌, List, length, Some, slice_get, slice_index}
use Rattle.bpf_base.specs.Hashes.{spread}
use Rattle.bpf_shared.specs.declared.events.Span.{Span}

-- the bin of the spans that start there
unfoldable pub bin_of : ℕ → ℕ
bin_of at = spread at / 2 ^ 55

-- each of these spans is found from the latest one of its bin on, one earlier after the other
pub record AreBinned (latest earlier : List ℕ) (spans : List Span) : Type 0 where
  -- numbers are those of spans, and fall down to the first one's
  pub few : (b : ℕ) → slice_index latest b ≤ length spans - 1
  pub falling : (n : ℕ) → n < length spans → slice_index earlier n ≤ n - 1
  -- but for the first one's, they lead to spans of the bin
  pub own : (b : ℕ) (q : Span) → slice_get spans (slice_index latest b) ≡ Some q
      → 0 < slice_index latest b → bin_of q.at ≡ b
  pub alike : (n : ℕ) (p q : Span) → slice_get spans n ≡ Some p
      → slice_get spans (slice_index earlier n) ≡ Some q → 0 < slice_index earlier n
      → bin_of q.at ≡ bin_of p.at
  -- none is after the latest one of its bin, and none of the bin is passed over
  pub last : (k : ℕ) (p : Span) → slice_get spans k ≡ Some p → k ≤ slice_index latest (bin_of p.at)
  pub next : (k n : ℕ) (p q : Span) → slice_get spans k ≡ Some p → slice_get spans n ≡ Some q
      → k < n → bin_of p.at ≡ bin_of q.at → k ≤ slice_index earlier n
