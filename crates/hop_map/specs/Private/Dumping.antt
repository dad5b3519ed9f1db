-- What a listing has found so far.
use Rattle.std.specs.Prelude.{◌≡◌, ◌⊎◌, ℕ, ◌+◌, nat_lt, ◌&&◌, List, [], ◌∷◌, Option, Some, None, slice_get, take, if◌then◌else◌}
use Rattle.bpf_shared.specs.declared.shapes.ArrayShape.{ArrayShape}
use Rattle.bpf_shared.specs.Shape.{Shape, copies}
use Rattle.bpf_shared.specs.Listing.{Pair}
use Rattle.hop_layout.specs.declared.place.Place.TheVariants.{ValueWord, FixedWord}
use Rattle.hop_layout.specs.Layout.{mem, words_for}
use Rattle.hop_layout.specs.Words.{bytes_of_words}
use Rattle.hop_words.specs.Content.{MapWords, Reached}
use Rattle.hop_words.specs.Ghost.{shape_at, Each}
use Rattle.hop_words.specs.Rule.{image}
use Rattle.hop_words.specs.Closing.{Ending}
use Rattle.hop_map.specs.Dumping.{IsBornHere}
use Rattle.hop_map.specs.Private.LockedSegment.{spelled_key}

abbrev pub words_in : Ending → MapWords
words_in e = image e.about e.words

-- the bytes of an element's key, and of its value
abbrev pub key_in : Ending → ℕ → ℕ → List ℕ
key_in e m i = spelled_key e.about m (words_in e) i

abbrev pub value_in : Ending → ℕ → ℕ → List ℕ
value_in e m i = take (shape_at e.about m).value
    (bytes_of_words (words_for (shape_at e.about m).value)
    (λ k. mem e.about.shape e.words (ValueWord m i k)))

abbrev pub IsReached : Ending → ℕ → ℕ → ℕ → Type 0
IsReached e m s i = Reached (words_in e) m s i

-- one of the pairs has the key
abbrev pub IsKeyAmong : List ℕ → List Pair → Type 0
IsKeyAmong key [] = ⊥
IsKeyAmong key (p ∷ ps) = (p.0 ≡ key) ⊎ IsKeyAmong key ps

-- the pair of an element that some born segment's words lead to
abbrev pub IsPairFound : Ending → ℕ → Pair → Type 0
IsPairFound e m p = (s : ℕ) × (i : ℕ) × IsBornHere e m s × IsReached e m s i
    × (p ≡ (key_in e m i, value_in e m i))

abbrev pub AreFound : Ending → ℕ → List Pair → Type 0
AreFound e m ps = Each (IsPairFound e m) ps

-- the new pairs are of such elements, as the old ones were, and no key was lost
pub record AddsPairs (e : Ending) (m : ℕ) (old new : List Pair) : Type 0 where
  pub found : AreFound e m old → AreFound e m new
  pub kept : (key : List ℕ) → IsKeyAmong key old → IsKeyAmong key new

-- ---- arrays
-- the array, if it has this index, of the k-th CPU if each has its own
abbrev pub with_index : Shape → ℕ → ℕ → Option ArrayShape → Option ArrayShape
with_index h k i None = None
with_index h k i (Some g) =
    if nat_lt k (copies h.cpus g) && nat_lt i g.max then Some g else None

abbrev pub array_with : Shape → ℕ → ℕ → ℕ → Option ArrayShape
array_with h a k i = with_index h k i (slice_get h.arrays a)

-- the first bytes of an array's words, from this one on
abbrev pub fixed_in : Ending → ℕ → ℕ → ℕ → List ℕ
fixed_in e a first size = take size
    (bytes_of_words (words_for size) (λ j. mem e.about.shape e.words (FixedWord a (first + j))))
