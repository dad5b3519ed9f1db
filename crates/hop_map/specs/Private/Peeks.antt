-- What the code of one segment sees of words that others may be writing.
use Rattle.std.specs.Prelude.{◌≡◌, ℕ, ◌<◌, ◌≤◌, Bool, true, List, [], ◌∷◌, ◌++◌, Option, length}
use Rattle.atomic_table.specs.Seated.{TableId}
use Rattle.bpf_shared.specs.Shape.{elements}
use Rattle.hop_layout.specs.declared.about.About.{About}
use Rattle.hop_words.specs.declared.known.Known.{Known}
use Rattle.hop_words.specs.declared.known.Peek.{Peek}
use Rattle.hop_words.specs.declared.known.Sight.{Sight}
use Rattle.hop_words.specs.Sights.{look}
use Rattle.hop_layout.specs.declared.place.Place.{Place}
use Rattle.hop_layout.specs.Layout.{words_for}
use Rattle.hop_layout.specs.Words.{word_of}
use Rattle.hop_words.specs.Content.{MapWords, Reached, IsShare}
use Rattle.hop_words.specs.Ghost.{shape_at, IsSegment, Each}
use Rattle.hop_words.specs.Rule.{IsPeek}
use Rattle.hop_words.specs.Kinds.{peeking}
use Rattle.hop_words.specs.Peeking.{latest_reading, HasReading}
use Rattle.hop_seg.specs.Words.{Words as SegWords}
use Rattle.hop_map.specs.Private.LockedSegment.{segment_view}
use Rattle.hop_words.specs.Depths.{stamp_depth, home_by}

-- a segment that is read without its lock, as its users see it
pub record Peeked : Type 0 where
  pub table : TableId
  pub about : About
  pub known : Known
  pub map : ℕ
  pub segment : ℕ

-- the parts fit
pub record FitsPeeks (id : TableId) (a : About) (standing : TableId) (l : Known)
    (m s key_size count : ℕ) : Type 0 where
  pub seated : standing ≡ id
  pub keyed : key_size ≡ (shape_at a m).key
  pub small : key_size ≤ 64
  pub counted : count ≡ elements (shape_at a m)
  pub inside : IsSegment a m s
  pub reading : HasReading l m s

-- one word more was read
abbrev pub peeked : Peeked → Place → ℕ → Peeked
peeked x p n = record x { known = peeking x.known (latest_reading x.known) p n }

-- the words have all numbers that were read of this segment
abbrev pub HavePeeks : MapWords → Peeked → Type 0
HavePeeks w x = Each (λ (p : Peek). IsPeek w x.map x.segment p.place p.number)
    (latest_reading x.known).peeks

-- the key words of an element are the key's
abbrev pub Spelled : About → ℕ → MapWords → ℕ → List ℕ → Type 0
Spelled a m w e key = (j : ℕ) → j < words_for (shape_at a m).key → w.key m e j ≡ word_of key j

-- these may be the words that were read: they show some content, they have all numbers that were
-- read, and the elements that may be read are reached there
pub record Agreed (x : Peeked) (w : SegWords) : Type 0 where
  pub words : MapWords
  pub content : List ℕ → Option ℕ
  pub share : IsShare x.about.seed (shape_at x.about x.map)
      (home_by x.about x.map (stamp_depth (latest_reading x.known).stamp)) words x.map x.segment
      content
  pub peeks : HavePeeks words x
  pub known : ℕ → Bool
  pub known_is : (e : ℕ) → known e ≡ true → Reached words x.map x.segment e
  pub shown : w ≡ segment_view x.about x.map x.segment
      (stamp_depth (latest_reading x.known).stamp) known words

-- what reads noted, the last first
abbrev pub looks_of : List Peek → List Sight
looks_of [] = []
looks_of (p ∷ ps) = look p.place p.number ∷ looks_of ps

-- nothing but reads lies between the two
pub record OnlyReads (x y : Peeked) : Type 0 where
  pub table : y.table ≡ x.table
  pub about : y.about ≡ x.about
  pub map : y.map ≡ x.map
  pub segment : y.segment ≡ x.segment
  pub known : y.known ≡ record x.known { readings = y.known.readings; tally = y.known.tally }
  pub more : List Peek
  pub reading : latest_reading y.known
      ≡ record (latest_reading x.known) { peeks = more ++ (latest_reading x.known).peeks }
  pub noted : y.known.tally ≡ looks_of more ++ x.known.tally

-- how many looks were noted so far
abbrev pub looks_noted : Peeked → ℕ
looks_noted x = length x.known.tally

-- how many words a key of the map has, and how many elements the map
abbrev pub key_words_of : Peeked → ℕ
key_words_of x = words_for (shape_at x.about x.map).key

abbrev pub elements_in : Peeked → ℕ
elements_in x = elements (shape_at x.about x.map)
