-- The words that a segment's lock guards.
use Rattle.std.specs.Prelude.{◌≡◌, ℕ}
use Rattle.hop_layout.specs.declared.about.About.{About}
use Rattle.hop_words.specs.declared.known.Known.{Known}
use Rattle.hop_layout.specs.declared.place.Place.{Place}
use Rattle.hop_layout.specs.declared.place.Place.TheVariants.{Head, Hop, Slot, Link, KeyWord, Stamp}
use Rattle.hop_words.specs.Kinds.{MayLink}
use Rattle.hop_words.specs.Locking.{lock_of}
use Rattle.hop_words.specs.Ghost.{child}

-- the locked segment
abbrev pub IsLocked : Known → ℕ → ℕ → Type 0
IsLocked l m s = ((lock_of l).map ≡ m) × ((lock_of l).segment ≡ s)

-- an element that is linked in the locked segment, or the one in hand
abbrev pub IsMine : About → Known → ℕ → ℕ → Type 0
IsMine a l m e = ((lock_of l).map ≡ m) × MayLink a l (lock_of l) e

-- the holder of the lock may write the word
abbrev pub MayWrite : About → Known → Place → Type 0
MayWrite a l (Head m s) = IsLocked l m s
MayWrite a l (Hop m s b) = IsLocked l m s
MayWrite a l (Slot m s p) = IsLocked l m s
MayWrite a l (Link m e) = IsMine a l m e
MayWrite a l p = ⊥

-- nobody else writes it while the lock is held
abbrev pub IsGuarded : About → Known → Place → Type 0
IsGuarded a l (KeyWord m e k) = IsMine a l m e
IsGuarded a l p = MayWrite a l p

-- the segment that is born when the locked one splits
abbrev pub IsBeside : Known → ℕ → ℕ → Type 0
IsBeside l m s = ((lock_of l).map ≡ m) × (child (lock_of l) ≡ s)

-- its words but the stamp
abbrev pub IsWordBeside : Known → Place → Type 0
IsWordBeside l (Head m s) = IsBeside l m s
IsWordBeside l (Hop m s b) = IsBeside l m s
IsWordBeside l (Slot m s p) = IsBeside l m s
IsWordBeside l p = ⊥

abbrev pub IsStampBeside : Known → Place → Type 0
IsStampBeside l (Stamp m s) = IsBeside l m s
IsStampBeside l p = ⊥

-- which only the holder of its parent's lock reads and writes
abbrev pub IsGuardedBeside : Known → Place → Type 0
IsGuardedBeside l (Stamp m s) = IsBeside l m s
IsGuardedBeside l p = IsWordBeside l p
