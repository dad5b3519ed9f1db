-- Races while they are gathered.
use Rattle.std.specs.Prelude.{◌≡◌, ℕ, ◌<◌, ◌≤◌, ◌⊎◌, ◌++◌, ◌∷◌, [], List, Some, length, slice_get}
use Rattle.bpf_machine.specs.Hands.{IsFree}
use Rattle.bpf_machine.specs.Machine.{MachineState, Shows}
use Rattle.bpf_machine.specs.Schedule.{World}
use Rattle.bpf_explore.specs.Album.{IsShownAt}
use Rattle.bpf_races.specs.declared.sync.Part.{Part}
use Rattle.bpf_races.specs.Touch.{IsAmong}
use Rattle.bpf_races.specs.Next.{NextStep, IsNextIn}
use Rattle.bpf_races.specs.Races.{RaceFound, RacesBy, RacesIn, AreOnce, AreListed, IsListed, spot_of}

-- this CPU's next step
pub record IsNextOf (m : MachineState) (c : ℕ) (next : NextStep) : Type 0 where
  pub of : next.here.cpu ≡ c
  pub is : IsNextIn m next

-- the next steps of the CPUs, by their numbers; those beyond have no job in hand
pub record AreNexts (m : MachineState) (nexts : List NextStep) : Type 0 where
  pub each : (c : ℕ) (next : NextStep) → slice_get nexts c ≡ Some next → IsNextOf m c next
  pub none : (c : ℕ) → length nexts ≤ c → IsFree m.jobs c

-- the race is after the others, unless they have such a one
abbrev pub AddsRace : List RaceFound → RaceFound → List RaceFound → Type 0
AddsRace old race new = (IsListed old (spot_of race) × (new ≡ old))
    ⊎ ((IsListed old (spot_of race) → ⊥) × (new ≡ old ++ race ∷ []))

-- they are one but for their schedules
pub record IsSame (one two : RaceFound) : Type 0 where
  pub pair : one.pair ≡ two.pair
  pub at : one.at ≡ two.at
  pub key : one.key ≡ two.key

abbrev pub IsOneOf : List RaceFound → RaceFound → Type 0
IsOneOf races race = (one : RaceFound) × IsAmong races one × IsSame one race

-- each is a race by its own schedule, and none is listed twice
pub record Gathered (kept : List MachineState) (sync : List Part) (races : List RaceFound) : Type 0
  where
    pub each : (race : RaceFound) → IsAmong races race → (w : World) → IsShownAt kept 0 w
        → RacesBy w sync race
    pub once : AreOnce races

-- each of these is between two CPUs, the lesser first
abbrev pub AreOrdered : List RaceFound → Type 0
AreOrdered found = (race : RaceFound) → IsAmong found race
    → race.pair.one.cpu < race.pair.other.cpu

-- it is a race in what the i-th kept machine shows
abbrev pub IsRaceAt : List MachineState → List Part → ℕ → RaceFound → Type 0
IsRaceAt kept sync i race = (w : World) → IsShownAt kept i w → RacesIn w sync race

-- so is each
abbrev pub AreRacesAt : List MachineState → List Part → ℕ → List RaceFound → Type 0
AreRacesAt kept sync i found = (race : RaceFound) → IsAmong found race → IsRaceAt kept sync i race

-- such a one is listed of each
abbrev pub AreAllListed : List RaceFound → List RaceFound → Type 0
AreAllListed races found = (race : RaceFound) → IsAmong found race → IsListed races (spot_of race)

-- none is lost
abbrev pub Keeps : List RaceFound → List RaceFound → Type 0
Keeps old new = (race : RaceFound) → IsAmong old race → IsAmong new race

-- each race in what the machine shows is printed
abbrev pub AreListedIn : List RaceFound → List Part → MachineState → Type 0
AreListedIn races sync m = (w : World) → Shows m w → AreListed races sync w

-- and in what the i-th kept machine shows
abbrev pub AreListedAt : List MachineState → List RaceFound → List Part → ℕ → Type 0
AreListedAt kept races sync i = (m : MachineState) → slice_get kept i ≡ Some m
    → AreListedIn races sync m
