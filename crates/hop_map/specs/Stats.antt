-- How many places and elements a map at rest has in use.
use Rattle.std.specs.Prelude.{◌≡◌, ℕ, zero, suc, ◌+◌, ◌-◌, ◌/◌, ◌%◌, Bool, is_some, if◌then◌else◌}
use Rattle.std.specs.Int.{bit_at}
use Rattle.bpf_shared.specs.Shape.{elements as elements_of}
use Rattle.hop_layout.specs.Births.{is_born}
use Rattle.hop_layout.specs.Layout.{mem, depth, segments as segments_of}
use Rattle.hop_layout.specs.declared.place.Place.TheVariants.{FreeBits, KeyCount, Slot}
use Rattle.hop_words.specs.Closing.{Ending}
use Rattle.hop_words.specs.Content.{item}
use Rattle.hop_words.specs.Ghost.{shape_at}
use Rattle.hop_map.specs.Dumping.{rest_depths, born_below}
use Rattle.hop_map.specs.declared.stats.MapStats.{MapStats}

-- a place of a segment has an item
abbrev pub is_placed : Ending → ℕ → ℕ → ℕ → Bool
is_placed e m s p = is_some (item (mem e.about.shape e.words (Slot m s p)))

-- how many of the segment's places below n have one
abbrev pub placed_in : Ending → ℕ → ℕ → ℕ → ℕ
placed_in e m s zero = 0
placed_in e m s (suc n) =
    if is_placed e m s n then placed_in e m s n + 1 else placed_in e m s n

-- how many places of the map's born segments below n have one
abbrev pub placed_below : Ending → ℕ → ℕ → ℕ
placed_below e m zero = 0
placed_below e m (suc n) = if is_born (rest_depths e m) (depth (shape_at e.about m)) n
    then placed_below e m n + placed_in e m n 64 else placed_below e m n

-- how many of the map's elements below n are free: their bits are set
abbrev pub free_below : Ending → ℕ → ℕ → ℕ
free_below e m zero = 0
free_below e m (suc n) =
    free_below e m n + bit_at (mem e.about.shape e.words (FreeBits m (n / 64))) (n % 64)

-- what the words say of a map's numbers; what ports counted is printed beside
pub record IsCounted (e : Ending) (m : ℕ) (s : MapStats) : Type 0 where
  pub segments : s.segments ≡ born_below e m (segments_of (shape_at e.about m))
  pub keys : s.keys ≡ mem e.about.shape e.words (KeyCount m)
  pub overflow : s.overflow ≡ s.keys - placed_below e m (segments_of (shape_at e.about m))
  pub free : s.free ≡ free_below e m (elements_of (shape_at e.about m))
