-- A replacement.
use Rattle.std.specs.Prelude.{◌≡◌, ℕ, ◌<◌, ◌⊎◌, false, List, [], length}
use Rattle.bpf_shared.specs.Shape.{elements}
use Rattle.hop_layout.specs.declared.about.About.{About}
use Rattle.hop_words.specs.declared.known.Known.{Known}
use Rattle.bpf_shared.specs.declared.events.Event.TheVariants.{Update}
use Rattle.bpf_shared.specs.declared.events.MapAnswer.TheVariants.{Done}
use Rattle.hop_words.specs.Ghost.{shape_at}
use Rattle.hop_words.specs.Kinds.{has, TakesEffect, with_gone}
use Rattle.hop_words.specs.Locking.{lock_of}
use Rattle.hop_map.specs.Private.UnderLock.{HandFilled}

-- the lane has an element in hand for a replacement
pub record OffersReplacement (a : About) (l : Known) (m s : ℕ) (key bytes : List ℕ)
    (flags element : ℕ) : Type 0 where
  pub filled : HandFilled a l m s key bytes element
  pub flags_known : (flags ≡ 0) ⊎ (flags ≡ 2)
  pub limbo : m < length l.limbo
  -- by what the lock said
  pub apart : has element (lock_of l).known ≡ false

-- the replacement's event; the element that the key led to is in hand, and all else as it was
pub record IsReplacement (a : About) (l : Known) (m : ℕ) (key bytes : List ℕ) (flags old : ℕ)
    (l2 : Known) : Type 0 where
  pub inside : old < elements (shape_at a m)
  pub seen : TakesEffect a l (Update m key bytes flags Done) l2.seen
  pub after : l2 ≡ record l { seen = l2.seen; fresh = []; limbo = with_gone l m old; locks = [] }
