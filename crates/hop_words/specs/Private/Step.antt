-- What a kind of step has to give: whatever the words and the ghost are, the step of one CPU at one
-- place keeps the rule, and its caller learns something.
use Rattle.std.specs.Prelude.{◌≡◌, ◌≢◌, ℕ, ◌<◌, ◌==◌, if◌then◌else◌, List, [], ◌∷◌, ◌++◌, length, ◌⊎◌, ◌+◌, ◌%◌}
use prog.Atomic.{either}
use mathlib.Core.List.{IsPrefix}
use Rattle.atomic_table.specs.Table.{Me}
use Rattle.hop_layout.specs.declared.place.Place.{Place}
use Rattle.hop_layout.specs.declared.about.About.{About}
use Rattle.hop_words.specs.declared.known.Known.{Known}
use Rattle.hop_words.specs.declared.known.Sight.{Sight}
use Rattle.hop_words.specs.declared.known.View.{View}
use Rattle.hop_layout.specs.Layout.{size, mem, put_at}
use Rattle.hop_words.specs.Sights.{sight}
use Rattle.hop_words.specs.Ghost.{Ghost, lane, child}
use Rattle.hop_words.specs.Rule.{Rule}
use Rattle.hop_layout.specs.declared.place.Place.TheVariants.{Stamp, FreeBits}
use Rattle.hop_words.specs.Locking.{lock_of, HasLock, HasLastLock}
use mathlib.Core.List.{IsPrefix}

-- a place where a step that changes the word need not be noted: so no element is taken or given
-- back, and no lock is taken, without a sight
abbrev pub IsQuiet : Place → Type 0
IsQuiet (FreeBits m i) = ⊥
IsQuiet (Stamp m s) = ⊥
IsQuiet place = Unit {0}

abbrev pub solo : Known → View
solo l = record { lanes = l ∷ []; kept = [] }

-- the store unlocks the segment that the CPU locked last: its version is the one before the lock, or
-- the next, and its depth the same
abbrev pub Unlocks : Known → Place → ℕ → Type 0
Unlocks l (Stamp m s) new = HasLastLock l m s
    × ((new ≡ (lock_of l).stamp) ⊎ (new ≡ (lock_of l).stamp + 256))
Unlocks l place new = ⊥

-- the store unlocks the only segment that the CPU has locked, with the next version and one depth
-- more
abbrev pub IsSplit : Known → Place → ℕ → Type 0
IsSplit l (Stamp m s) new = HasLock l m s × (new ≡ (lock_of l).stamp + 258)
IsSplit l place new = ⊥

-- the store leaves an unlocked stamp to the segment that is born when the locked one splits
abbrev pub IsBesideStamp : Known → Place → ℕ → Type 0
IsBesideStamp l (Stamp m s) new =
    ((lock_of l).map ≡ m) × (child (lock_of l) ≡ s) × (new % 2 ≡ 0)
IsBesideStamp l place new = ⊥

-- the lane's tally has these sights in front of what it had, and all else in it is as it was
pub record Noted (a : About) (w : Place → ℕ) (g : Ghost) (c : ℕ) (sights : List Sight)
    (told : Known → Type 0) : Type 0 where
  pub ghost : Ghost
  pub rule : Rule a w ghost
  pub others : (d : ℕ) → d ≢ c → lane ghost.lanes d ≡ lane g.lanes d
  pub longer : IsPrefix g.log ghost.log
  pub tally : ghost.lanes.tally c ≡ sights ++ g.lanes.tally c
  pub says : told (lane ghost.lanes c)

-- the tally is as it was
abbrev pub Next : About → (Place → ℕ) → Ghost → ℕ → (Known → Type 0) → Type 0
Next a w g c told = Noted a w g c [] told

-- of the words, the number found and the lane after; the sights by the number found
abbrev pub Leaves : About → Known → Place → (ℕ → ℕ) → (ℕ → List Sight)
    → (List ℕ → ℕ → Known → Type 0) → Type 0
Leaves a l p f sights told = (ws : List ℕ) (g : Ghost) → length ws ≡ size a.shape
    → Rule a (mem a.shape ws) g → lane g.lanes l.cpu ≡ l → l.cpu < a.shape.cpus
    → mem a.shape ws p < 18446744073709551616
    → Noted a (put_at (mem a.shape ws) p (f (mem a.shape ws p))) g l.cpu
    (sights (mem a.shape ws p)) (told ws (mem a.shape ws p))

-- a step that is not noted
abbrev pub Steps : About → Known → Place → (ℕ → ℕ) → (List ℕ → ℕ → Known → Type 0) → Type 0
Steps a l p f told = Leaves a l p f (λ n. []) told

-- a step that is noted: its place, the number found, and the number left
abbrev pub Notes : About → Known → Place → (ℕ → ℕ) → (List ℕ → ℕ → Known → Type 0) → Type 0
Notes a l p f told = Leaves a l p f (λ n. sight p n (f n) ∷ []) told

-- a compare-exchange is noted where it takes effect
abbrev pub NotesTaken : About → Known → Place → ℕ → ℕ → (List ℕ → ℕ → Known → Type 0) → Type 0
NotesTaken a l p old new told = Leaves a l p (λ n. either (n == old) new n)
    (λ n. if n == old then sight p n new ∷ [] else []) told

abbrev pub TellsLane : ℕ → (ℕ → Known → Type 0) → ℕ → Me (Unit {0}) View → Type 0
TellsLane c told n m = (m.1 ≡ []) × ((l : Known) × (m.0 ≡ solo l) × (l.cpu ≡ c) × told n l)

-- the one lane of a port's seat
abbrev pub first_lane : Known → List Known → Known
first_lane d [] = d
first_lane d (l ∷ ls) = l
