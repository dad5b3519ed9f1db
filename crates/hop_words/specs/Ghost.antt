-- What belongs to the words and is in no word: the history, what each CPU knows, and who has which
-- element.
use Rattle.std.specs.Prelude.{◌≡◌, ℕ, ◌+◌, ◌*◌, ◌/◌, ◌<◌, Bool, true, false, List, [], ◌∷◌, Option, length, ◌==◌, slice_index_or}
use Rattle.bpf_shared.specs.declared.shapes.ArrayShape.{ArrayShape}
use Rattle.bpf_shared.specs.declared.shapes.MapShape.{MapShape}
use Rattle.bpf_shared.specs.declared.events.Entry.{Entry}
use Rattle.bpf_shared.specs.Shape.{elements, copies, array_stride, copy_stride}
use Rattle.bpf_shared.specs.Store.{Plain}
use Rattle.hop_layout.specs.declared.about.About.{About}
use Rattle.hop_words.specs.declared.known.Known.{Known}
use Rattle.hop_words.specs.declared.known.Fresh.{Fresh}
use Rattle.hop_words.specs.declared.known.Limbo.{Limbo}
use Rattle.hop_words.specs.declared.known.Lock.{Lock}
use Rattle.hop_words.specs.declared.known.Reading.{Reading}
use Rattle.hop_words.specs.declared.known.Sight.{Sight}
use Rattle.hop_layout.specs.Layout.{map_shape, array_shape, segments, power}
use Rattle.hop_words.specs.Content.{MapWords}
use Rattle.hop_words.specs.Depths.{stamp_depth, home_by}

-- an element is free, or one CPU fills it, or one CPU took it out of its map, or a key of its
-- map leads to it
pub data Holder : Type 0 where
  Free : Holder
  Filling : ℕ → Holder
  Leaving : ℕ → Holder
  Within : List ℕ → Holder

abbrev pub is_free : Holder → Bool
is_free Free = true
is_free other = false

abbrev pub is_filling : ℕ → Holder → Bool
is_filling c (Filling d) = d == c
is_filling c other = false

abbrev pub is_leaving : ℕ → Holder → Bool
is_leaving c (Leaving d) = d == c
is_leaving c other = false

-- a value of the plain store lies in the element
abbrev pub Carries : Holder → Type 0
Carries Free = ⊥
Carries (Filling c) = ⊥
Carries (Leaving c) = Unit {0}
Carries (Within key) = Unit {0}

-- what the CPUs know, field by field
pub record Lanes : Type 0 where
  pub seen : ℕ → List Entry
  pub fresh : ℕ → List Fresh
  pub limbo : ℕ → List Limbo
  pub locks : ℕ → List Lock
  pub readings : ℕ → List Reading
  pub tally : ℕ → List Sight

abbrev pub lane : Lanes → ℕ → Known
lane x c = record {
  cpu = c;
  seen = x.seen c;
  fresh = x.fresh c;
  limbo = x.limbo c;
  locks = x.locks c;
  readings = x.readings c;
  tally = x.tally c;
}

-- of a segment: a number that never goes down, which is the stamp while no lock changed anything;
-- who locks it; whether that CPU has to change the version; a Done event that the version doesn't
-- count yet; and its words at rest
pub record Era : Type 0 where
  pub era : ℕ
  pub writer : ℕ
  pub dirty : Bool
  pub credit : ℕ
  pub old : MapWords

pub record Ghost : Type 0 where
  pub log : List Entry
  pub last : Plain
  pub lanes : Lanes
  -- by map and element
  pub holder : ℕ → ℕ → Holder
  -- by map and element: the number of the value that lies in it
  pub number : ℕ → ℕ → ℕ
  -- by map, CPU and number of an update of the map by it: the element that it took
  pub taker : ℕ → ℕ → ℕ → ℕ
  -- by map and key: the element that the key leads to
  pub linked : ℕ → List ℕ → Option ℕ
  -- by map and segment: the depth of a born one
  pub depths : ℕ → ℕ → ℕ
  -- by map and segment
  pub eras : ℕ → ℕ → Era

abbrev pub shape_at : About → ℕ → MapShape
shape_at a m = map_shape a.shape m

abbrev pub HasElement : About → ℕ → ℕ → Type 0
HasElement a m e = (m < length a.shape.maps) × (e < elements (shape_at a m))

abbrev pub IsSegment : About → ℕ → ℕ → Type 0
IsSegment a m s = (m < length a.shape.maps) × (s < segments (shape_at a m))

abbrev pub array_at : About → ℕ → ArrayShape
array_at a b = array_shape a.shape b

-- the array has values of this CPU, and one of this index
pub record HasFixed (a : About) (b k i : ℕ) : Type 0 where
  pub array : b < length a.shape.arrays
  pub copy : k < copies a.shape.cpus (array_at a b)
  pub index : i < (array_at a b).max

-- which of its array's words such a value begins with
abbrev pub fixed_word : ArrayShape → ℕ → ℕ → ℕ
fixed_word g k i = (k * copy_stride g + i * array_stride g) / 8

-- the segment that a key would be at home in, by the stamp that was locked: the lock alone says
abbrev pub lock_home : About → Lock → List ℕ → ℕ
lock_home a k = home_by a k.map (stamp_depth k.stamp)

-- the key is at home in the locked segment
abbrev pub IsHomeIn : About → Lock → List ℕ → Type 0
IsHomeIn a k key = lock_home a k key ≡ k.segment

-- the segment that is born when the locked one splits
abbrev pub child : Lock → ℕ
child k = k.segment + power (stamp_depth k.stamp)

abbrev pub no_limbo : Limbo
no_limbo = record { used = []; young = []; old = []; noted = [] }

-- what the CPU has of a map
abbrev pub limbo_at : List Limbo → ℕ → Limbo
limbo_at xs m = slice_index_or xs m no_limbo

abbrev pub Each : {A : Type 0} → (A → Type 0) → List A → Type 0
Each P [] = Unit {0}
Each P (x ∷ xs) = P x × Each P xs
