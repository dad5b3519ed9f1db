-- What the steps under a lock ask of what a CPU knows, and what they say.
use Rattle.std.specs.Prelude.{◌≡◌, ◌≢◌, ℕ, ◌<◌, List, [], ◌∷◌, slice_index_or, false}
use Rattle.bpf_shared.specs.declared.events.Event.TheVariants.{Update}
use Rattle.bpf_shared.specs.declared.events.MapAnswer.TheVariants.{Full, NoMemory}
use Rattle.hop_layout.specs.declared.about.About.{About}
use Rattle.hop_words.specs.declared.known.Known.{Known}
use Rattle.hop_words.specs.declared.known.Fresh.{Fresh}
use Rattle.hop_words.specs.declared.known.Lock.{Lock}
use Rattle.hop_words.specs.declared.known.Change.TheVariants.{Nothing}
use Rattle.hop_words.specs.Ghost.{shape_at}
use Rattle.hop_words.specs.Kinds.{AddsEvent}
use Rattle.hop_words.specs.Owning.{tail_of}

abbrev pub no_lock : Lock
no_lock = record {
  map = 0;
  segment = 0;
  stamp = 0;
  first = [];
  copy = [];
  change = Nothing;
  known = [];
  dirty = false;
}

-- the lock that the CPU took last
abbrev pub lock_of : Known → Lock
lock_of l = slice_index_or l.locks 0 no_lock

abbrev pub nothing_in_hand : Fresh
nothing_in_hand = record { map = 0; element = 0; update = 0; key = []; value = [] }

-- the first element in hand
abbrev pub hand : Known → Fresh
hand l = slice_index_or l.fresh 0 nothing_in_hand

-- the CPU has this lock, and no other
abbrev pub HasLock : Known → ℕ → ℕ → Type 0
HasLock l m s = (l.locks ≡ lock_of l ∷ []) × ((lock_of l).map ≡ m) × ((lock_of l).segment ≡ s)

-- the locks that it took before
abbrev pub other_locks : Known → List Lock
other_locks l = tail_of l.locks

-- the CPU took this lock last
abbrev pub HasLastLock : Known → ℕ → ℕ → Type 0
HasLastLock l m s =
    (l.locks ≡ lock_of l ∷ other_locks l) × ((lock_of l).map ≡ m) × ((lock_of l).segment ≡ s)

-- it gives the lock back that it took last
abbrev pub unlocking_last : Known → Known
unlocking_last l = record l { locks = other_locks l }

-- a count at the map's most keys is the answer Full; else the map has room
abbrev pub SeesRoom : About → Known → List ℕ → List ℕ → ℕ → ℕ → Known → Type 0
SeesRoom a l key bytes flags n l' =
    (n ≡ (shape_at a (lock_of l).map).max
    → AddsEvent a l (Update (lock_of l).map key bytes flags Full) l')
    × (n ≢ (shape_at a (lock_of l).map).max → (l' ≡ l) × (n < (shape_at a (lock_of l).map).max))

-- a count at the map's most keys is the answer Full, any other NoMemory
abbrev pub SeesLack : About → Known → List ℕ → List ℕ → ℕ → ℕ → Known → Type 0
SeesLack a l key bytes flags n l' =
    (n ≡ (shape_at a (lock_of l).map).max
    → AddsEvent a l (Update (lock_of l).map key bytes flags Full) l')
    × (n ≢ (shape_at a (lock_of l).map).max
    → AddsEvent a l (Update (lock_of l).map key bytes flags NoMemory) l')
