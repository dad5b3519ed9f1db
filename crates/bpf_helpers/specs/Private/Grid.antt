-- Where the elements of maps lie whose values have given sizes.
use Rattle.std.specs.Prelude.{◌≡◌, ℕ, ◌+◌, ◌*◌, ◌/◌, ◌%◌, ◌<◌, ◌≤◌, List, slice_index}
use Rattle.bpf_shared.specs.declared.events.Span.{Span}
use Rattle.bpf_shared.specs.Shape.{first_value, map_area}

-- the address is so far past where the first value of the map begins
pub record IsOffset (address m offset : ℕ) : Type 0 where
  pub map : m < 16
  pub near : offset < map_area
  pub at : address ≡ first_value + map_area * m + offset

-- from one value of this size to the next
abbrev pub stride_of : ℕ → ℕ
stride_of size = (size + 7) / 8 * 8

-- the span begins at a multiple of eight, as each element's does
abbrev pub IsAligned : Span → Type 0
IsAligned p = p.at % 8 ≡ 0

-- the span is an element's, in a map whose values have its size
pub record IsOnGrid (sizes : List ℕ) (p : Span) : Type 0 where
  pub map : ℕ
  pub element : ℕ
  pub start : IsOffset p.at map (element * stride_of p.size)
  pub size : slice_index sizes map ≡ p.size
  pub some : 1 ≤ p.size
  pub room : element * stride_of p.size + p.size ≤ map_area
