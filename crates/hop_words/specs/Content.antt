-- The content of one segment: which elements are reached through hop bits and slots or through the
-- overflow list.
use Rattle.std.specs.Prelude.{◌≡◌, ℕ, zero, suc, ◌+◌, ◌%◌, ◌<◌, ◌≤◌, ◌⊎◌, ◌^◌, nat_lt, Bool, true, false, List, [], ◌∷◌, Option, Some, None}
use Rattle.std.specs.Prelude.{◌==◌, if◌then◌else◌, length}
use Rattle.std.specs.Int.{bit_at}
use Rattle.bpf_shared.specs.declared.shapes.MapShape.{MapShape}
use Rattle.hop_layout.specs.declared.place.Place.{Place}
use Rattle.hop_layout.specs.declared.place.Place.TheVariants.{Head, Hop, Slot, Link, KeyWord}
use Rattle.hop_layout.specs.Layout.{words_for}
use Rattle.hop_layout.specs.Home.{key_bucket}
use Rattle.hop_layout.specs.Words.{AreBytes, word_of}

-- the words that segments are made of: by map and segment, and by map and element
pub record MapWords : Type 0 where
  pub head : ℕ → ℕ → ℕ
  pub hop : ℕ → ℕ → ℕ → ℕ
  pub slot : ℕ → ℕ → ℕ → ℕ
  pub link : ℕ → ℕ → ℕ
  pub key : ℕ → ℕ → ℕ → ℕ

abbrev pub words_by_place : (Place → ℕ) → MapWords
words_by_place w = record {
  head = λ m s. w (Head m s);
  hop = λ m s b. w (Hop m s b);
  slot = λ m s b. w (Slot m s b);
  link = λ m e. w (Link m e);
  key = λ m e k. w (KeyWord m e k);
}

abbrev pub one_if : Bool → ℕ
one_if true = 1
one_if false = 0

-- how often a list has a number
abbrev pub times : ℕ → List ℕ → ℕ
times e [] = 0
times e (x ∷ xs) = one_if (x == e) + times e xs

-- ---- reaching
-- the element that a word leads to
abbrev pub item : ℕ → Option ℕ
item zero = None
item (suc n) = if nat_lt n (2 ^ 32) then Some n else None

-- bit d of bucket b leads to the element e
abbrev pub HopsTo : MapWords → ℕ → ℕ → ℕ → ℕ → ℕ → Type 0
HopsTo x m s b d e = (b < 64) × (d < 32) × (bit_at (x.hop m s b) d ≡ 1)
    × (item (x.slot m s ((b + d) % 64)) ≡ Some e)

-- from the word n on, links lead through these elements and end
abbrev pub LinksThrough : (ℕ → ℕ) → ℕ → List ℕ → Type 0
LinksThrough link n [] = item n ≡ None
LinksThrough link n (e ∷ es) = (item n ≡ Some e) × LinksThrough link (link e) es

abbrev pub IsOnList : MapWords → ℕ → ℕ → ℕ → Type 0
IsOnList x m s e = (es : List ℕ) × LinksThrough (x.link m) (x.head m s) es × (1 ≤ times e es)

abbrev pub Reached : MapWords → ℕ → ℕ → ℕ → Type 0
Reached x m s e = ((b : ℕ) × (d : ℕ) × HopsTo x m s b d e) ⊎ IsOnList x m s e

-- the element's key words are those of the key
abbrev pub HasKey : MapShape → MapWords → ℕ → ℕ → List ℕ → Type 0
HasKey g x m e key = (length key ≡ g.key) × AreBytes key
    × ((k : ℕ) → k < words_for g.key → x.key m e k ≡ word_of key k)

-- each hop bit leads to an item whose home bucket is that bucket, the list ends, and no element is
-- reached twice
pub record IsSegmentSound (seed : ℕ) (g : MapShape) (x : MapWords) (m s : ℕ) : Type 0 where
  pub leads : (b d : ℕ) → b < 64 → d < 32 → bit_at (x.hop m s b) d ≡ 1
      → (e : ℕ) × HopsTo x m s b d e
  pub hopped : (p e : ℕ) → p < 64 → item (x.slot m s p) ≡ Some e
      → (b : ℕ) × (d : ℕ) × HopsTo x m s b d e × ((b + d) % 64 ≡ p)
  pub homes : (b d e : ℕ) (key : List ℕ) → HopsTo x m s b d e → HasKey g x m e key
      → key_bucket seed g key ≡ b
  pub one_hop : (a b c d e : ℕ) → HopsTo x m s a b e → HopsTo x m s c d e → (a ≡ c) × (b ≡ d)
  pub list : List ℕ
  pub follows : LinksThrough (x.link m) (x.head m s) list
  pub one_place : (e : ℕ) → times e list ≤ 1
  pub apart : (b d e : ℕ) → HopsTo x m s b d e → times e list ≡ 0

-- the segment is sound, and its content is what f says of the keys that are at home there (home:
-- the segment of each key)
pub record IsShare (seed : ℕ) (g : MapShape) (home : List ℕ → ℕ) (x : MapWords) (m s : ℕ)
    (f : List ℕ → Option ℕ) : Type 0 where
  pub sound : IsSegmentSound seed g x m s
  pub each : (e : ℕ) → Reached x m s e → (key : List ℕ) × HasKey g x m e key × (home key ≡ s)
      × (f key ≡ Some e)
  pub all : (key : List ℕ) (e : ℕ) → f key ≡ Some e → home key ≡ s
      → Reached x m s e × HasKey g x m e key

-- the same words in a segment, but for its elements'
pub record AgreesFront (m s : ℕ) (x y : MapWords) : Type 0 where
  pub head : x.head m s ≡ y.head m s
  pub hop : (b : ℕ) → x.hop m s b ≡ y.hop m s b
  pub slot : (b : ℕ) → x.slot m s b ≡ y.slot m s b

-- the same words in a segment, and in the elements that are meant
pub record AgreesInSegment (m s : ℕ) (on : ℕ → Type 0) (x y : MapWords) : Type 0 where
  pub head : x.head m s ≡ y.head m s
  pub hop : (b : ℕ) → x.hop m s b ≡ y.hop m s b
  pub slot : (b : ℕ) → x.slot m s b ≡ y.slot m s b
  pub link : (e : ℕ) → on e → x.link m e ≡ y.link m e
  pub key : (e k : ℕ) → on e → x.key m e k ≡ y.key m e k
