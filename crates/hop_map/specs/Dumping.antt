-- The pairs and the segments of a map, and the values of arrays, as the words of a store at rest have
-- them.
use Rattle.std.specs.Prelude.{◌≡◌, ℕ, zero, suc, ◌+◌, nat_lt, ◌&&◌, List, [], Option, Some, None, slice_get, if◌then◌else◌}
use Rattle.bpf_shared.specs.declared.shapes.ArrayShape.{ArrayShape}
use Rattle.bpf_shared.specs.Shape.{copies}
use Rattle.bpf_shared.specs.Store.{Plain, fixed_number}
use Rattle.hop_layout.specs.Births.{is_born}
use Rattle.hop_layout.specs.Layout.{mem, depth}
use Rattle.hop_layout.specs.declared.place.Place.TheVariants.{Stamp}
use Rattle.hop_words.specs.Closing.{Ending}
use Rattle.hop_words.specs.Depths.{stamp_depth, IsBorn}
use Rattle.hop_words.specs.Ghost.{shape_at}
use Rattle.hop_words.specs.Seats.{view, KeepsWholeHistory}

-- the words keep the rule with the history, whose last store this is
abbrev pub IsLast : Ending → Plain → Type 0
IsLast e last = (w : KeepsWholeHistory e.about (view [] e.history) e.words) × (last ≡ w.ghost.last)

-- the depths of segments, by the stamps as they are
abbrev pub rest_depths : Ending → ℕ → ℕ → ℕ
rest_depths e m s = stamp_depth (mem e.about.shape e.words (Stamp m s))

abbrev pub IsBornHere : Ending → ℕ → ℕ → Type 0
IsBornHere e m s = IsBorn e.about (rest_depths e) m s

-- how many of the map's segments below n are born
abbrev pub born_below : Ending → ℕ → ℕ → ℕ
born_below e m zero = 0
born_below e m (suc n) = if is_born (rest_depths e m) (depth (shape_at e.about m)) n
    then born_below e m n + 1 else born_below e m n

-- the bytes of the value of an index of an array, of the k-th CPU if each has its own, if it is
-- there
abbrev pub indexed : Plain → ℕ → ℕ → ℕ → Option ArrayShape → Option (List ℕ)
indexed s a k i None = None
indexed s a k i (Some g) =
    if nat_lt k (copies s.shape.cpus g) && nat_lt i g.max
    then Some (s.value (fixed_number a k i)).bytes
    else None

abbrev pub fixed_of : Plain → ℕ → ℕ → ℕ → Option (List ℕ)
fixed_of s a k i = indexed s a k i (slice_get s.shape.arrays a)
