-- The words of a store as made, one after the other.
use Rattle.std.specs.Prelude.{◌≡◌, ℕ, ◌+◌, ◌*◌, ◌-◌, ◌^◌, Bool, true, ◌&&◌, ◌||◌, ◌==◌, if◌then◌else◌, nat_lt, ◌/◌, ◌%◌, ◌<◌, length, false}
use Rattle.hop_layout.specs.declared.place.Place.{Place}
use Rattle.hop_layout.specs.declared.place.Place.TheVariants.{RunCount, FreeBits, Stamp, KeyCount, Head, Hop, Slot, FixedWord}
use Rattle.hop_layout.specs.declared.about.About.{About}
use Rattle.hop_layout.specs.Layout.{is_place, first_depth, array_words}
use Rattle.hop_layout.specs.Words.{AreBytes, word_of}
use Rattle.hop_words.specs.Depths.{stamp_depth}
use Rattle.hop_words.specs.Ghost.{shape_at, array_at, HasElement, IsSegment}
use Rattle.std.specs.Int.{bit_at}
use Rattle.bpf_shared.specs.Shape.{IsShape, contents_of, copies, copy_stride}

-- the word of an array as made: each CPU's values have the same bytes
abbrev pub first_word : About → ℕ → ℕ → ℕ
first_word a b k = word_of (contents_of a.shape b) (k % (copy_stride (array_at a b) / 8))

-- the words as made: all elements are free, no segment is locked or has an item, no map has a key,
-- and arrays have their first bytes
pub record AreNewWords (a : About) (w : Place → ℕ) : Type 0 where
  pub shaped : IsShape a.shape
  pub counts : (c : ℕ) → c < a.shape.cpus → w (RunCount c) ≡ a.count
  pub keys : (m : ℕ) → m < length a.shape.maps → w (KeyCount m) ≡ 0
  pub bits : (m e : ℕ) → HasElement a m e → bit_at (w (FreeBits m (e / 64))) (e % 64) ≡ 1
  pub stamps : (m s : ℕ) → IsSegment a m s → (w (Stamp m s) % 2 ≡ 0)
      × (w (Stamp m s) / 256 ≡ a.version)
      × (stamp_depth (w (Stamp m s)) ≡ first_depth (shape_at a m))
  pub heads : (m s : ℕ) → IsSegment a m s → w (Head m s) ≡ 0
  pub slots : (m s p : ℕ) → IsSegment a m s → p < 64 → w (Slot m s p) ≡ 0
  pub hops : (m s b : ℕ) → IsSegment a m s → b < 64 → w (Hop m s b) ≡ 0
  pub bytes : (b : ℕ) → b < length a.shape.arrays → AreBytes (contents_of a.shape b)
  pub fixed : (b k : ℕ) → b < length a.shape.arrays → k < array_words a.shape b
      → w (FixedWord b k) ≡ first_word a b k

-- the word of a place as made
abbrev pub made : About → Place → ℕ
made a (RunCount c) = a.count
made a (FreeBits m i) = 2 ^ 64 - 1
made a (Stamp m s) = a.version * 256 + 2 * first_depth (shape_at a m)
made a (FixedWord b k) = first_word a b k
made a p = 0

-- the place comes before these many run counters, maps, words of free bits and segments of the next
-- map
abbrev pub comes_before : ℕ → ℕ → ℕ → ℕ → Place → Bool
comes_before c m i s (RunCount d) = nat_lt d c
comes_before c m i s (FreeBits n j) = nat_lt n m || ((n == m) && nat_lt j i)
comes_before c m i s (Stamp n t) = nat_lt n m || ((n == m) && nat_lt t s)
comes_before c m i s (FixedWord b k) = false
comes_before c m i s p = true

-- the words so far are as made, and all others are 0
abbrev pub IsPartly : About → (Place → ℕ) → ℕ → ℕ → ℕ → ℕ → Type 0
IsPartly a w c m i s = (p : Place) → is_place a.shape p ≡ true
    → w p ≡ (if comes_before c m i s p then made a p else 0)

-- the place comes before these many arrays, and words of the next
abbrev pub is_filled : ℕ → ℕ → Place → Bool
is_filled b n (FixedWord c k) = nat_lt c b || ((c == b) && nat_lt k n)
is_filled b n p = true

-- when all maps are made: the words of arrays so far are as made, and all others of arrays are 0
abbrev pub IsFilled : About → (Place → ℕ) → ℕ → ℕ → Type 0
IsFilled a w b n = (p : Place) → is_place a.shape p ≡ true
    → w p ≡ (if is_filled b n p then made a p else 0)

-- the word is the first of some CPU's values of the array
abbrev pub IsCopyStart : About → ℕ → ℕ → Type 0
IsCopyStart a b n = (k : ℕ) × (k < copies a.shape.cpus (array_at a b))
    × (n ≡ k * (copy_stride (array_at a b) / 8))
