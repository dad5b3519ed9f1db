-- What a CPU notes at a whole call.
use Rattle.std.specs.Prelude.{◌≡◌, ◌⊎◌, ℕ, zero, suc, true, ◌-◌, ◌/◌, ◌%◌, ◌^◌, ◌<◌, ◌≤◌, List, [], ◌∷◌, ◌++◌}
use Rattle.bpf_shared.specs.declared.events.Event.{Event}
use Rattle.bpf_shared.specs.declared.events.Event.TheVariants.{End, Lookup, Update, Delete, Keys}
use Rattle.bpf_shared.specs.declared.events.MapAnswer.{MapAnswer}
use Rattle.bpf_shared.specs.declared.events.MapAnswer.TheVariants.{Done, Busy}
use Rattle.hop_layout.specs.declared.about.About.{About}
use Rattle.hop_words.specs.declared.known.Known.{Known}
use Rattle.hop_words.specs.declared.known.Sight.{Sight}
use Rattle.hop_words.specs.Sights.{sight, LeavesLocks, lock_taken, split_made}
use Rattle.hop_layout.specs.Layout.{segments, power}
use Rattle.hop_words.specs.Depths.{stamp_depth}
use Rattle.hop_words.specs.Ghost.{shape_at, Each}
use Rattle.hop_map.specs.Finding.{IsSparing, OwnsKey}

-- the answer is Busy where the stamp has the last version, and nowhere else: so Busy comes before
-- Exists, Absent, Full and NoMemory
abbrev pub BusyFirst : ℕ → MapAnswer → Type 0
BusyFirst stamp Busy = 2 ^ 56 - 1 ≤ stamp / 256
BusyFirst stamp answer = stamp / 256 < 2 ^ 56 - 1

-- the call took one lock, that of the key's segment, and the version that it showed decided whether
-- the answer is Busy
pub record IsUnderLock (a : About) (m : ℕ) (key : List ℕ) (answer : MapAnswer)
    (sights : List Sight) : Type 0 where
  pub segment : ℕ
  pub stamp : ℕ
  pub own : OwnsKey a m key segment stamp
  pub sooner : List Sight
  pub later : List Sight
  pub all : sights ≡ later ++ (lock_taken m segment stamp ∷ sooner)
  pub only : Each LeavesLocks later × Each LeavesLocks sooner
  pub order : BusyFirst stamp answer

-- the locks of the segments below n were taken, each once and by rising number; of a map that grows
-- those were passed over that aren't born
abbrev pub TakesLocks : About → ℕ → ℕ → List Sight → Type 0
TakesLocks a m zero sights = sights ≡ []
TakesLocks a m (suc n) sights =
    ((stamp : ℕ) × (sooner : List Sight)
    × (sights ≡ lock_taken m n stamp ∷ sooner) × TakesLocks a m n sooner)
    ⊎ (((shape_at a m).grow ≡ true) × TakesLocks a m n sights)

-- these steps, and then each steps_undone, the last made first: each finds the number that it had left, and
-- leaves the number that it had found
abbrev pub steps_undone : List Sight → List Sight → List Sight
steps_undone [] sights = sights
steps_undone (s ∷ ss) sights = steps_undone ss (sight s.place s.left s.found ∷ sights)

-- the locks of all born segments of the map were taken, and then given back, the last first, each
-- with the number that it was taken at. A version never goes down: so none changed meanwhile
abbrev pub HoldsLocks : About → ℕ → List Sight → Type 0
HoldsLocks a m sights = (taken : List Sight) × TakesLocks a m (segments (shape_at a m)) taken
    × (sights ≡ steps_undone taken taken)

-- what a call with this event may note, the last first. An update with flags that are none of those
-- known notes nothing, nor does a beginning, or an access to a value; an end takes no lock, a
-- listing those of all segments of the map that are born
abbrev pub MayNote : About → Event → List Sight → Type 0
MayNote a (Lookup m key found) sights = IsSparing a m key sights
MayNote a (Update m key bytes flags answer) sights =
    (flags ≤ 2 → IsUnderLock a m key answer sights) × (2 < flags → sights ≡ [])
MayNote a (Delete m key answer) sights = IsUnderLock a m key answer sights
MayNote a (Keys m ks) sights = HoldsLocks a m sights
MayNote a End sights = Each LeavesLocks sights
MayNote a event sights = sights ≡ []

-- what the CPU noted at the call, in front of all that it had noted
abbrev pub CallNotes : About → Event → Known → Known → Type 0
CallNotes a event l l' = (sights : List Sight) × (l'.tally ≡ sights ++ l.tally)
    × MayNote a event sights

-- of the locks that were taken the last is that of this segment
abbrev pub LocksLast : ℕ → ℕ → List Sight → Type 0
LocksLast m s sights = (stamp : ℕ) × (later : List Sight) × (sooner : List Sight)
    × (sights ≡ later ++ (lock_taken m s stamp ∷ sooner)) × Each LeavesLocks later

-- so it is of those that the CPU took in a call
abbrev pub LockedLast : ℕ → ℕ → Known → Known → Type 0
LockedLast m s l l' = (sights : List Sight) × (l'.tally ≡ sights ++ l.tally) × LocksLast m s sights

-- the segment that the number t belongs to was to split: by the stamp at which its lock was taken.
-- It split or didn't
abbrev pub TriesSplit : ℕ → ℕ → List Sight → Type 0
TriesSplit m t sights = (s : ℕ) × (n : ℕ) × (t % power (stamp_depth n) ≡ s)
    × ((sights ≡ lock_taken m s n ∷ []) ⊎ (sights ≡ split_made m s n ∷ (lock_taken m s n ∷ [])))

-- a split that may come after a call: after an update that was done, of a map that grows. The
-- segment whose lock the update took last was to split
abbrev pub IsGrowth : About → Event → List Sight → List Sight → Type 0
IsGrowth a (Update m key bytes flags Done) sooner sights = ((shape_at a m).grow ≡ true)
    × ((t : ℕ) × LocksLast m t sooner × TriesSplit m t sights)
IsGrowth a event sooner sights = ⊥

-- what a call may note, and a split after it
abbrev pub MayNoteGrowing : About → Event → List Sight → Type 0
MayNoteGrowing a event sights = MayNote a event sights
    ⊎ ((later : List Sight) × (sooner : List Sight) × (sights ≡ later ++ sooner)
    × IsGrowth a event sooner later × MayNote a event sooner)

-- at each of some calls, one after the other, no more than it may
abbrev pub MayNoteEach : About → List Event → List Sight → Type 0
MayNoteEach a [] sights = sights ≡ []
MayNoteEach a (event ∷ events) sights = (mine : List Sight) × (rest : List Sight)
    × (sights ≡ rest ++ mine) × MayNoteGrowing a event mine × MayNoteEach a events rest

abbrev pub CallsNote : About → List Event → Known → Known → Type 0
CallsNote a events l l' = (sights : List Sight) × (l'.tally ≡ sights ++ l.tally)
    × MayNoteEach a events sights
