-- What a CPU has that lists a map's keys: the locks of all its segments, and nothing left to write.
use Rattle.std.specs.Prelude.{◌≡◌, ◌⊎◌, ℕ, ◌+◌, ◌<◌, false, is_some, List, [], ◌∷◌, Option, length}
use Rattle.bpf_shared.specs.KeyOrder.{is_among}
use Rattle.hop_layout.specs.declared.about.About.{About}
use Rattle.hop_words.specs.declared.known.Known.{Known}
use Rattle.hop_words.specs.declared.known.Lock.{Lock}
use Rattle.hop_words.specs.Ghost.{IsHomeIn, Each}
use Rattle.bpf_shared.specs.declared.events.Event.{Event}
use Rattle.hop_layout.specs.declared.place.Place.TheVariants.{Stamp}
use Rattle.hop_words.specs.declared.known.Sight.{Sight}
use Rattle.hop_words.specs.Sights.{sight, sighted}
use Rattle.hop_words.specs.Kinds.{MayShow, AreElsewhere, AnsweredAll}
use Rattle.hop_words.specs.Locking.{lock_of, other_locks}

-- by all that the lock's words can show, of the keys that are at home in its segment those of the
-- list are there, and no others
abbrev pub ListsSegment : About → List (List ℕ) → Lock → Type 0
ListsSegment a keys k = (f : List ℕ → Option ℕ) → MayShow a k f → (key : List ℕ)
    → IsHomeIn a k key → is_some (f key) ≡ is_among key keys

-- the key is at home in the segment of one of these locks
abbrev pub IsHomeAmong : About → List ℕ → List Lock → Type 0
IsHomeAmong a key [] = ⊥
IsHomeAmong a key (k ∷ ks) = IsHomeIn a k key ⊎ IsHomeAmong a key ks

-- the CPU has the lock of each key's segment of the map, nothing has changed under any, and the
-- list has the keys of each
pub record ListsMap (a : About) (l : Known) (m : ℕ) (keys : List (List ℕ)) : Type 0 where
  pub map : m < length a.shape.maps
  pub locks : l.locks ≡ lock_of l ∷ other_locks l
  pub of_map : Each (λ (k : Lock). k.map ≡ m) l.locks
  pub clean : Each (λ (k : Lock). k.dirty ≡ false) l.locks
  pub elsewhere : AreElsewhere (lock_of l) (other_locks l)
  pub all : (key : List ℕ) → IsHomeAmong a key l.locks
  pub lists : Each (ListsSegment a keys) l.locks

-- a lock was given back: the number that it had left was found, and the one before it is left
abbrev pub lock_given : Lock → Sight
lock_given k = sight (Stamp k.map k.segment) (k.stamp + 1) k.stamp

-- the event took effect with the unlock of the lock taken last, which is noted
abbrev pub AnswersGiving : About → Known → Event → Known → Type 0
AnswersGiving a l e l' = (x : Known) × AnsweredAll a l (other_locks l) e x
    × (l' ≡ sighted x (lock_given (lock_of l)))
