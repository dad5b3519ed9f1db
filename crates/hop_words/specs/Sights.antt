-- What the noted steps of a CPU show. Each is in the tally as it was made, the last first.
use Rattle.std.specs.Prelude.{◌≡◌, ◌⊎◌, ℕ, ◌+◌, ◌-◌, ◌/◌, ◌%◌, ◌^◌, bit_and, bit_or, List, [], ◌∷◌}
use Rattle.std.specs.Int.{bit_at}
use Rattle.hop_layout.specs.declared.place.Place.{Place}
use Rattle.hop_layout.specs.declared.place.Place.TheVariants.{FreeBits, Stamp}
use Rattle.hop_words.specs.declared.known.Known.{Known}
use Rattle.hop_words.specs.declared.known.Sight.{Sight}

abbrev pub sight : Place → ℕ → ℕ → Sight
sight p found left = record { place = p; found = found; left = left }

-- the step left the word as it was
abbrev pub IsLook : Sight → Type 0
IsLook s = s.left ≡ s.found

-- a look that found this number
abbrev pub look : Place → ℕ → Sight
look p n = sight p n n

-- the step took no lock
abbrev pub LeavesLocks : Sight → Type 0
LeavesLocks s = (m i : ℕ) → s.place ≡ Stamp m i → IsLook s

-- a segment's lock was taken
abbrev pub lock_taken : ℕ → ℕ → ℕ → Sight
lock_taken m s n = sight (Stamp m s) n (n + 1)

-- a segment was split, and with that unlocked: the version is the next, and the depth one more
abbrev pub split_made : ℕ → ℕ → ℕ → Sight
split_made m s n = sight (Stamp m s) (n + 1) (n + 258)

-- an element's bit was cleared among those found, and was set
abbrev pub bit_cleared : ℕ → ℕ → ℕ → Sight
bit_cleared m e n = sight (FreeBits m (e / 64)) n (bit_and n (2 ^ 64 - 1 - 2 ^ (e % 64)))

abbrev pub bit_set : ℕ → ℕ → ℕ → Sight
bit_set m e n = sight (FreeBits m (e / 64)) n (bit_or n (2 ^ (e % 64)))

-- of the map's elements, the step took none and gave none back
abbrev pub LeavesElements : ℕ → Sight → Type 0
LeavesElements m s = (i : ℕ) → s.place ≡ FreeBits m i → IsLook s

-- the sight shows that the element wasn't free at that moment
abbrev pub ShowsTaken : Sight → ℕ → ℕ → Type 0
ShowsTaken s m e = (s.place ≡ FreeBits m (e / 64)) × (bit_at s.found (e % 64) ≡ 0)

-- it was seen not free since the CPU last took an element of the map or gave one back
abbrev pub IsTakenSince : List Sight → ℕ → ℕ → Type 0
IsTakenSince [] m e = ⊥
IsTakenSince (s ∷ ss) m e = LeavesElements m s × (ShowsTaken s m e ⊎ IsTakenSince ss m e)

-- one step more was noted
abbrev pub sighted : Known → Sight → Known
sighted l s = record l { tally = s ∷ l.tally }
