-- What a call has before the lock, and right after it.
use Rattle.std.specs.Prelude.{◌≡◌, ◌≢◌, ℕ, ◌<◌, Bool, true, false, List, [], ◌∷◌, length, slice_index, ◌%◌, ◌≤◌}
use Rattle.bpf_shared.specs.Shape.{elements}
use Rattle.hop_layout.specs.declared.about.About.{About}
use Rattle.hop_words.specs.declared.known.Known.{Known}
use Rattle.hop_layout.specs.Layout.{words_for, power}
use Rattle.hop_layout.specs.Words.{word_of, AreBytes}
use Rattle.hop_words.specs.declared.known.Sight.{Sight}
use Rattle.hop_words.specs.Sights.{sighted, lock_taken}
use Rattle.hop_words.specs.Ghost.{shape_at, IsSegment}
use Rattle.hop_words.specs.Locking.{hand}
use Rattle.hop_map.specs.Private.Updates.{Valued}
use Rattle.hop_words.specs.Depths.{stamp_depth}
use Rattle.hop_words.specs.Kinds.{LocksSegment, KnowsBorn, StampNoted}
use Rattle.hop_words.specs.declared.walking.Way.{Way}
use Rattle.hop_words.specs.Walking.{IsOnWay}
use Rattle.hop_map.specs.Private.Updates.{Brought}

-- the lane has one element in hand, filled with a key
pub record CarriesKey (a : About) (l : Known) (m : ℕ) (key : List ℕ) (element : ℕ) : Type 0 where
  pub in_hand : l.fresh ≡ hand l ∷ []
  pub map : (hand l).map ≡ m
  pub number : (hand l).element ≡ element
  pub inside : element < elements (shape_at a m)
  pub size : length key ≡ (shape_at a m).key
  pub are_bytes : AreBytes key
  pub filled : length (hand l).key ≡ words_for (shape_at a m).key
  pub spelled : (i : ℕ) → i < words_for (shape_at a m).key →
      slice_index (hand l).key i ≡ word_of key i

-- also with a value, for a call in a run
pub record Readies (a : About) (l : Known) (m : ℕ) (key bytes : List ℕ) (flags element : ℕ) :
    Type 0 where
  pub carries : CarriesKey a l m key element
  pub valued : Valued a l m bytes
  pub brought : Brought a l m key bytes flags
  pub idle : l.locks ≡ []

-- a lock was taken, and noted by this sight. What was read before is given up
abbrev pub locked_with : Known → Sight → Known
locked_with l k = sighted (record l { readings = [] }) k

-- the segment's lock was taken, at this stamp, and nothing else was noted
abbrev pub with_lock : Known → ℕ → ℕ → ℕ → Known
with_lock l m s n = locked_with l (lock_taken m s n)

-- the segment that the home belongs to, by the stamp that was noted
pub record Sought (a : About) (l : Known) (m home s n : ℕ) (l' : Known) : Type 0 where
  pub inside : IsSegment a m s
  pub noted : StampNoted a l m s n l'
  pub here : home % power (stamp_depth n) ≡ s

-- a segment of the home was locked when its stamp was this one
pub record Taken (a : About) (l : Known) (m home s stamp : ℕ) (l2 : Known) : Type 0 where
  pub inside : IsSegment a m s
  pub even : stamp % 2 ≡ 0
  pub locked : LocksSegment a l m s stamp l2
  pub here : home % power (stamp_depth stamp) ≡ s

-- the number's home belongs to another segment: so no segment of this number is born
pub record IsUnborn (a : About) (l : Known) (m s : ℕ) (l' : Known) : Type 0 where
  pub owner : ℕ
  pub stamp : ℕ
  pub sought : Sought a l m s owner stamp l'
  pub other : owner ≢ s

-- the segment of this number was locked, or it isn't born
abbrev pub LocksNumber : About → Known → ℕ → ℕ → Bool → Known → Type 0
LocksNumber a l m s true l' = (n : ℕ) × LocksSegment a l m s n l'
LocksNumber a l m s false l' = IsUnborn a l m s l'

-- on the way to the segment of a home: of what the CPU knows only what it read is another
pub record Walking (a : About) (l : Known) (m home : ℕ) (w : Way) (i : ℕ) (l' : Known) : Type 0
  where
    pub after : l' ≡ record l { readings = l'.readings }
    pub inside : IsSegment a m w.segment
    pub born : KnowsBorn a l' m w.segment
    pub way : IsOnWay home w
    pub level : w.level ≤ 10
    pub so_far : i ≤ w.level

-- also the stamp of the segment was noted, after which the CPU knows this
pub record StampOnWay (a : About) (l : Known) (m home : ℕ) (w : Way) (i n : ℕ) (l' : Known) :
    Type 0 where
  pub before : Known
  pub walking : Walking a l m home w i before
  pub noted : StampNoted a before m w.segment n l'
