-- The data races that schedules lead to.
use Rattle.std.specs.Prelude.{◌≡◌, ℕ, ◌/◌, ◌%◌, ◌<◌, ◌≤◌, ◌⊎◌, ◌==◌, ◌&&◌, Bool, true, false, List, [], Option, Some, None, length, slice_get}
use Rattle.bpf_base.specs.Bytes.{low_bytes}
use Rattle.bpf_shared.specs.Shape.{Shape, array_stride, copy_stride}
use Rattle.bpf_shared.specs.Store.{Plain}
use Rattle.bpf_helpers.specs.Arrays.{IsInArray, offset_of}
use Rattle.bpf_plain.specs.Shows.{LeadsTo}
use Rattle.bpf_machine.specs.Machine.{MachineState, Shows}
use Rattle.bpf_machine.specs.Schedule.{World, RunsSchedule, unrolled}
use Rattle.bpf_machine.specs.Patient.{NoneRanOut}
use Rattle.bpf_machine.specs.Race.{IsRace}
use Rattle.bpf_explore.specs.Outcomes.{AreReached}
use Rattle.bpf_x86.specs.Laws.{IsSameOnX86}
use Rattle.bpf_races.specs.declared.found.Pair.{Pair}
use Rattle.bpf_races.specs.declared.sync.Part.{Part}
use Rattle.bpf_races.specs.Touch.{IsAmong}
use Rattle.bpf_races.specs.Parts.{IsLeftOut, map_at}

-- the index of the value of an array at the address, as a key: four bytes
abbrev pub IsIndexAt : Shape → ℕ → List ℕ → Type 0
IsIndexAt h a key =
    (there : IsInArray h a 1)
    × (key ≡ low_bytes 4 (offset_of a % copy_stride there.array / array_stride there.array))

-- the key that leads to the value at the address, or its index in an array: none where the value has
-- left its map
abbrev pub IsKeyAt : Plain → ℕ → Option (List ℕ) → Type 0
IsKeyAt s a None = ((key : List ℕ) → LeadsTo s a key → ⊥) × (¬ IsInArray s.shape a 1)
IsKeyAt s a (Some key) = LeadsTo s a key ⊎ IsIndexAt s.shape a key

-- ---- races

-- two CPUs and where they are, the address of a byte, the key of its value, and a schedule: CPUs,
-- each with how many turns it makes before the next
pub record RaceFound : Type 0 where
  pub pair : Pair
  pub at : ℕ
  pub key : Option (List ℕ)
  pub by : List (ℕ × ℕ)

-- the next steps of the two are a race at the byte, which isn't left out
pub record RacesIn (w : World) (sync : List Part) (found : RaceFound) : Type 0 where
  pub counts : IsLeftOut sync found.at → ⊥
  pub race : IsRace w found.pair.one found.pair.other found.at
  pub key : IsKeyAt w.store found.at found.key

-- the schedule leads to a machine in which they are
pub record RacesBy (w : World) (sync : List Part) (found : RaceFound) : Type 0 where
  pub order : found.pair.one.cpu < found.pair.other.cpu
  pub last : World
  pub runs : RunsSchedule w (unrolled found.by) last
  pub races : RacesIn last sync found

-- ---- lists of them

-- what distinguishes a race: where the two CPUs are, the map and the key of the value
pub record Spot : Type 0 where
  pub pair : Pair
  pub map : ℕ
  pub key : Option (List ℕ)

abbrev pub spot_of : RaceFound → Spot
spot_of race = record { pair = race.pair; map = map_at race.at; key = race.key }

-- some race has these
abbrev pub IsListed : List RaceFound → Spot → Type 0
IsListed races spot = (race : RaceFound) × IsAmong races race × (spot_of race ≡ spot)

-- no two have the same
abbrev pub AreOnce : List RaceFound → Type 0
AreOnce races = (i j : ℕ) (one two : RaceFound) → slice_get races i ≡ Some one
    → slice_get races j ≡ Some two → spot_of one ≡ spot_of two → i ≡ j

-- some race is one of these two, who are there, for the map and the key of the value at the address
abbrev pub IsTold : List RaceFound → Plain → Pair → ℕ → Type 0
IsTold races s pair b = (race : RaceFound) × IsAmong races race × (race.pair ≡ pair)
    × (map_at race.at ≡ map_at b) × IsKeyAt s b race.key

-- each race in the machine is printed, but for those at bytes that are left out
abbrev pub AreListed : List RaceFound → List Part → World → Type 0
AreListed races sync z = (pair : Pair) (b : ℕ) → pair.one.cpu < pair.other.cpu
    → IsRace z pair.one pair.other b → IsTold races z.store pair b ⊎ IsLeftOut sync b

-- its CPUs are a lesser pair, or the same
abbrev pub IsBefore : Pair → Pair → Type 0
IsBefore p q = (p.one.cpu < q.one.cpu)
    ⊎ ((p.one.cpu ≡ q.one.cpu) × (p.other.cpu ≤ q.other.cpu))

-- they are in the order of their pairs of CPUs
abbrev pub AreRising : List RaceFound → Type 0
AreRising races = (i j : ℕ) (one two : RaceFound) → i < j → slice_get races i ≡ Some one
    → slice_get races j ≡ Some two → IsBefore one.pair two.pair

-- the races in what a machine shows, each once, and with no schedule; none lacks, but for those at
-- bytes that are left out
pub record AreRacesIn (m : MachineState) (sync : List Part) (races : List RaceFound) : Type 0 where
  pub each : (race : RaceFound) → IsAmong races race → (w : World) → Shows m w
      → RacesIn w sync race
  pub ordered : (race : RaceFound) → IsAmong races race
      → race.pair.one.cpu < race.pair.other.cpu
  pub here : (race : RaceFound) → IsAmong races race → race.by ≡ []
  pub once : AreOnce races
  pub rising : AreRising races
  pub all : (w : World) → Shows m w → AreListed races sync w

-- so is each in all that schedules lead to; of a patient search, while no job runs out of budget
abbrev pub HaveAllRaces : Bool → World → List Part → List RaceFound → Type 0
HaveAllRaces false w sync races =
    (schedule : List ℕ) (z : World) → RunsSchedule w schedule z → AreListed races sync z
HaveAllRaces true w sync races =
    (schedule : List ℕ) (z : World) → RunsSchedule w schedule z → NoneRanOut z.jobs
    → AreListed races sync z

-- there is no race at all: no bytes are left out, and none is listed where all are
abbrev pub is_race_free : List Part → List RaceFound → Bool → Bool
is_race_free sync races all = all && (length sync == 0 && length races == 0)

-- the races, whether they are all, and whether the search counts as refused memory, which is its own to
-- say. Else, of a search that isn't patient, not all are printed only where schedules lead to more machines
-- than the limit
pub record AreRaces (patient : Bool) (w : World) (sync : List Part) (races : List RaceFound)
    (all refused : Bool) (limit : ℕ) : Type 0 where
  pub each : (race : RaceFound) → IsAmong races race → RacesBy w sync race
  pub once : AreOnce races
  pub complete : all ≡ true → HaveAllRaces patient w sync races
  pub met : patient ≡ false → all ≡ false → refused ≡ false
      → (states : ℕ) × AreReached w states × (limit < states)
  pub short : refused ≡ true → all ≡ false
  pub same : is_race_free sync races all ≡ true → IsSameOnX86 patient w
