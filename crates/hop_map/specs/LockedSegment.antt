-- What the code of one segment sees of the shared words.
use Rattle.std.specs.Prelude.{◌≡◌, ℕ, ◌+◌, ◌%◌, ◌^◌, ◌≤◌, Bool, true, false, ◌||◌, ◌&&◌, ◌==◌, List, [], ◌∷◌, length}
use Rattle.atomic_table.specs.Seated.{TableId}
use Rattle.bpf_shared.specs.Shape.{elements}
use Rattle.hop_layout.specs.declared.about.About.{About}
use Rattle.hop_words.specs.declared.known.Known.{Known}
use Rattle.hop_words.specs.declared.known.Fresh.{Fresh}
use Rattle.hop_words.specs.declared.known.Change.{Change}
use Rattle.hop_words.specs.declared.known.Change.TheVariants.{Nothing, Puts, Drops}
use Rattle.hop_layout.specs.Layout.{at, size}
use Rattle.hop_layout.specs.declared.place.Place.TheVariants.{Stamp}
use Rattle.hop_words.specs.Content.{MapWords, item, HasKey}
use Rattle.hop_words.specs.Ghost.{shape_at, IsSegment, child}
use Rattle.hop_words.specs.Rule.{image}
use Rattle.hop_words.specs.Kinds.{has, MayLink}
use Rattle.hop_layout.specs.Home.{home_of}
use Rattle.hop_words.specs.Locking.{lock_of}
use Rattle.hop_words.specs.Depths.{stamp_depth, home_by}
use Rattle.hop_seg.specs.Split.{Front}

-- the home of a key
abbrev pub home : ℕ → ℕ → List ℕ → ℕ
home seed mask key = home_of key seed mask

-- the new element, whose event has taken effect
abbrev pub is_put : Change → ℕ → Bool
is_put Nothing e = false
is_put (Puts key d) e = e == d
is_put (Drops key) e = false

-- the element that the lane fills
abbrev pub fills_element : List Fresh → ℕ → ℕ → Bool
fills_element [] m e = false
fills_element (f ∷ fs) m e = (f.map == m) && (e == f.element)

-- the elements whose words the lane may read: those linked in the segment, and its own new one
abbrev pub knows : Known → ℕ → ℕ → Bool
knows l m e = has e (lock_of l).known || (is_put (lock_of l).change e || fills_element l.fresh m e)

-- the lane has the segment's lock, and knows the key words of the elements that it may read
pub record Ready (a : About) (l : Known) (m s : ℕ) : Type 0 where
  pub held : l.locks ≡ lock_of l ∷ []
  pub map : (lock_of l).map ≡ m
  pub segment : (lock_of l).segment ≡ s
  pub inside : IsSegment a m s
  pub sized : length (lock_of l).copy ≡ size a.shape
  pub known_is : (e : ℕ) → knows l m e ≡ true →
      MayLink a l (lock_of l) e ×
      ((key : List ℕ) × HasKey (shape_at a m) (image a (lock_of l).copy) m e key)

-- a locked segment as its users see it
pub record Locked : Type 0 where
  pub table : TableId
  pub about : About
  pub known : Known
  pub map : ℕ
  pub segment : ℕ

-- the words of the segment that would be born here, beside another's
abbrev pub front_view : ℕ → ℕ → MapWords → Front
front_view m c y = record {
  hop = λ b. y.hop m c b % 2 ^ 32;
  slot = λ p. item (y.slot m c p);
  head = item (y.head m c);
}

abbrev pub child_front : Locked → Front
child_front x = front_view x.map (child (lock_of x.known)) (image x.about (lock_of x.known).copy)

-- all but the words: the lane's other fields, and what its lock says beside the copy
pub record StaysBeside (x y : Locked) : Type 0 where
  pub table : y.table ≡ x.table
  pub about : y.about ≡ x.about
  pub map : y.map ≡ x.map
  pub segment : y.segment ≡ x.segment
  pub known : y.known ≡ record x.known { locks = y.known.locks }
  pub lock : lock_of y.known ≡
      record (lock_of x.known) { copy = (lock_of y.known).copy; dirty = (lock_of y.known).dirty }

-- and the words of the segment that would be born here
pub record Stays (x y : Locked) : Type 0 where
  pub table : y.table ≡ x.table
  pub about : y.about ≡ x.about
  pub map : y.map ≡ x.map
  pub segment : y.segment ≡ x.segment
  pub known : y.known ≡ record x.known { locks = y.known.locks }
  pub lock : lock_of y.known ≡
      record (lock_of x.known) { copy = (lock_of y.known).copy; dirty = (lock_of y.known).dirty }
  pub child : child_front y ≡ child_front x

-- the parts fit
pub record Fits (id : TableId) (a : About) (standing : TableId) (l : Known)
    (m s key_size count : ℕ) : Type 0 where
  pub seated : standing ≡ id
  pub keyed : key_size ≡ (shape_at a m).key
  pub small : key_size ≤ 64
  pub counted : count ≡ elements (shape_at a m)
  pub ready : Ready a l m s

-- so they do, and the segment's words begin here
pub record FitsFrom (id : TableId) (a : About) (standing : TableId) (l : Known)
    (m s key_size count first : ℕ) : Type 0 where
  pub seated : standing ≡ id
  pub keyed : key_size ≡ (shape_at a m).key
  pub small : key_size ≤ 64
  pub counted : count ≡ elements (shape_at a m)
  pub ready : Ready a l m s
  pub begins : first ≡ at a.shape (Stamp m s)
  pub room : first + 130 ≤ 2 ^ 64

-- the segment that a key would be at home in, by the stamp that was locked
abbrev pub locked_home : About → Known → ℕ → List ℕ → ℕ
locked_home a l m key = home_by a m (stamp_depth (lock_of l).stamp) key
