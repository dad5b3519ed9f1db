-- Races of one machine while they are gathered, by rising pair of CPUs.
use Rattle.std.specs.Prelude.{◌≡◌, ℕ, ◌+◌, ◌<◌, ◌⊎◌, List, [], Some, length, slice_get}
use Rattle.bpf_machine.specs.Machine.{MachineState, Shows}
use Rattle.bpf_machine.specs.Race.{IsRace}
use Rattle.bpf_machine.specs.Schedule.{World}
use Rattle.bpf_races.specs.declared.found.Pair.{Pair}
use Rattle.bpf_races.specs.declared.sync.Part.{Part}
use Rattle.bpf_races.specs.Touch.{IsAmong}
use Rattle.bpf_races.specs.Next.{NextStep}
use Rattle.bpf_races.specs.Races.{RaceFound, RacesIn, AreOnce, AreRising, IsKeyAt, IsTold}
use Rattle.bpf_races.specs.Parts.{IsLeftOut}

-- it is one in what the machine shows, between two CPUs, and no schedule is given
pub record IsThere (m : MachineState) (sync : List Part) (race : RaceFound) : Type 0 where
  pub races : (w : World) → Shows m w → RacesIn w sync race
  pub order : race.pair.one.cpu < race.pair.other.cpu
  pub here : race.by ≡ []

-- it is between these two for this byte, in what the machine shows, and no schedule is given
pub record IsFor (m : MachineState) (both : Pair) (b : ℕ) (race : RaceFound) : Type 0 where
  pub pair : race.pair ≡ both
  pub at : race.at ≡ b
  pub by : race.by ≡ []
  pub key : (w : World) → Shows m w → IsKeyAt w.store b race.key

-- the pair of a and b is before that of c and d
abbrev pub IsPassed : ℕ → ℕ → ℕ → ℕ → Type 0
IsPassed c d a b = (a < c) ⊎ ((a ≡ c) × (b < d))

-- each race of these CPUs in what the machine shows is printed
abbrev pub AreListedOf : List RaceFound → List Part → MachineState → ℕ → ℕ → Type 0
AreListedOf races sync m c d = (w : World) → Shows m w → (pair : Pair) (b : ℕ)
    → pair.one.cpu ≡ c → pair.other.cpu ≡ d → IsRace w pair.one pair.other b
    → IsTold races w.store pair b ⊎ IsLeftOut sync b

-- those of all pairs before this one
pub record UpTo (m : MachineState) (sync : List Part) (nexts : List NextStep) (c d : ℕ)
    (races : List RaceFound) : Type 0 where
  pub each : (race : RaceFound) → IsAmong races race → IsThere m sync race
  pub passed : (race : RaceFound) → IsAmong races race
      → IsPassed c d race.pair.one.cpu race.pair.other.cpu
  pub listed : (a b : ℕ) → a < b → b < length nexts → IsPassed c d a b
      → AreListedOf races sync m a b
  pub once : AreOnce races
  pub rising : AreRising races

-- the race for the byte is among them
abbrev pub IsByteTold : MachineState → Pair → List RaceFound → ℕ → Type 0
IsByteTold m pair races b = (w : World) → Shows m w → IsTold races w.store pair b

-- and those of this pair for the first k of some bytes
pub record Amid (m : MachineState) (sync : List Part) (nexts : List NextStep) (pair : Pair)
    (bytes : List ℕ) (k : ℕ) (races : List RaceFound) : Type 0 where
  pub each : (race : RaceFound) → IsAmong races race → IsThere m sync race
  pub passed : (race : RaceFound) → IsAmong races race
      → IsPassed pair.one.cpu (pair.other.cpu + 1) race.pair.one.cpu race.pair.other.cpu
  pub listed : (a b : ℕ) → a < b → b < length nexts → IsPassed pair.one.cpu pair.other.cpu a b
      → AreListedOf races sync m a b
  pub once : AreOnce races
  pub rising : AreRising races
  pub told : (i b : ℕ) → i < k → slice_get bytes i ≡ Some b → IsByteTold m pair races b
