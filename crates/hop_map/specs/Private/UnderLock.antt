-- What a call knows under the lock.
use Rattle.std.specs.Prelude.{◌≡◌, ℕ, ◌<◌, true, false, List, [], ◌∷◌, Option, Some, length, slice_index}
use Rattle.bpf_shared.specs.Shape.{elements}
use Rattle.hop_layout.specs.declared.about.About.{About}
use Rattle.hop_words.specs.declared.known.Known.{Known}
use Rattle.hop_words.specs.declared.known.Change.TheVariants.{Nothing}
use Rattle.bpf_shared.specs.declared.events.Event.TheVariants.{Update}
use Rattle.bpf_shared.specs.declared.events.MapAnswer.TheVariants.{Done}
use Rattle.bpf_shared.specs.History.{events_of}
use Rattle.hop_layout.specs.Layout.{words_for, size}
use Rattle.hop_layout.specs.Words.{word_of, AreBytes}
use Rattle.hop_words.specs.Content.{IsShare, HasKey}
use Rattle.hop_words.specs.Ghost.{shape_at}
use Rattle.hop_words.specs.Rule.{image}
use Rattle.hop_words.specs.Kinds.{has, TakesEffect}
use Rattle.bpf_shared.specs.Own.{in_run}
use Rattle.hop_words.specs.Locking.{lock_of, hand}
use Rattle.hop_words.specs.Depths.{stamp_depth, home_by}
use Rattle.hop_map.specs.LockedSegment.{locked_home}

-- what the words showed when they were locked; nothing has changed since
pub record LockShows (a : About) (l : Known) (m s : ℕ) : Type 0 where
  pub map : (lock_of l).map ≡ m
  pub segment : (lock_of l).segment ≡ s
  pub content : List ℕ → Option ℕ
  pub share : IsShare a.seed (shape_at a m) (home_by a m (stamp_depth (lock_of l).stamp))
      (image a (lock_of l).first) m s content
  pub all_known : (key : List ℕ) (e : ℕ) → content key ≡ Some e →
      locked_home a l m key ≡ s →
      (e < elements (shape_at a m)) × (has e (lock_of l).known ≡ true)
  pub copied : (lock_of l).copy ≡ (lock_of l).first
  pub nothing : (lock_of l).change ≡ Nothing
  pub clean : (lock_of l).dirty ≡ false
  pub sized : length (lock_of l).copy ≡ size a.shape

-- in a run, the lane has an element in hand, filled with a key of this segment and a value
pub record HandFilled (a : About) (l : Known) (m s : ℕ) (key bytes : List ℕ) (element : ℕ) :
    Type 0 where
  pub in_hand : l.fresh ≡ hand l ∷ []
  pub map : (hand l).map ≡ m
  pub number : (hand l).element ≡ element
  pub inside : element < elements (shape_at a m)
  pub home : locked_home a l m key ≡ s
  pub size : length bytes ≡ (shape_at a m).value
  pub are_bytes : AreBytes bytes
  pub filled : length (hand l).value ≡ words_for (shape_at a m).value
  pub value : (i : ℕ) → i < words_for (shape_at a m).value →
      slice_index (hand l).value i ≡ word_of bytes i
  pub keyed : HasKey (shape_at a m) (image a (lock_of l).first) m element key
  pub runs : in_run (events_of l.cpu l.seen) ≡ true

-- so it is for a new key
pub record OffersInsertion (a : About) (l : Known) (m s : ℕ) (key bytes : List ℕ)
    (flags element : ℕ) : Type 0 where
  pub filled : HandFilled a l m s key bytes element
  pub flags_known : flags < 2

-- the new element's event, and all else as it was
pub record IsInsertion (a : About) (l : Known) (m : ℕ) (key bytes : List ℕ) (flags : ℕ)
    (l2 : Known) : Type 0 where
  pub seen : TakesEffect a l (Update m key bytes flags Done) l2.seen
  pub after : l2 ≡ record l { seen = l2.seen; fresh = []; locks = [] }
