-- Races where two equal CPUs change places.
use Rattle.std.specs.Prelude.{◌≡◌, ℕ, ◌<◌, ◌++◌, nat_lt, if◌then◌else◌, List, Some, map, slice_get}
use Rattle.bpf_machine.specs.declared.machine.Stand.{Stand}
use Rattle.bpf_machine.specs.Schedule.{World, unrolled}
use Rattle.bpf_equal.specs.declared.peers.Peer.{Peer}
use Rattle.bpf_equal.specs.Peers.{AreOneGroup}
use Rattle.bpf_equal.specs.Permutations.{exchanged}
use Rattle.bpf_equal.specs.Races.{StaysExchanged, stand_exchanged}
use Rattle.bpf_races.specs.declared.found.Pair.{Pair}
use Rattle.bpf_races.specs.declared.sync.Part.{Part}
use Rattle.bpf_races.specs.Touch.{IsAmong}
use Rattle.bpf_races.specs.Races.{RaceFound, RacesBy, AreOnce, IsListed, Spot, spot_of}

-- two CPUs, that of the lesser number first
abbrev pub in_order : Stand → Stand → Pair
in_order one other = if nat_lt one.cpu other.cpu
    then record { one = one; other = other }
    else record { one = other; other = one }

-- where c and d change places
abbrev pub pair_exchanged : ℕ → ℕ → Pair → Pair
pair_exchanged c d pair = in_order (stand_exchanged c d pair.one) (stand_exchanged c d pair.other)

abbrev pub spot_exchanged : ℕ → ℕ → Spot → Spot
spot_exchanged c d spot = record spot { pair = pair_exchanged c d spot.pair }

-- so do they in its schedule
pub record IsExchanged (c d : ℕ) (old new : RaceFound) : Type 0 where
  pub pair : new.pair ≡ pair_exchanged c d old.pair
  pub at : new.at ≡ old.at
  pub key : new.key ≡ old.key
  pub by : unrolled new.by ≡ map (exchanged c d) (unrolled old.by)

-- the race is listed with the CPUs of both jobs exchanged, if they are of one group
abbrev pub IsListedFor : List Peer → List RaceFound → RaceFound → ℕ → ℕ → Type 0
IsListedFor peers races race j k = (one other : Peer) → AreOneGroup peers j k one other
    → IsListed races (spot_exchanged one.cpu other.cpu (spot_of race))

-- so it is for each later job below a number
abbrev pub IsListedFrom : List Peer → List RaceFound → RaceFound → ℕ → ℕ → Type 0
IsListedFrom peers races race j below = (k : ℕ) → j < k → k < below
    → IsListedFor peers races race j k

-- and that for each job below a number
abbrev pub IsListedAround : List Peer → List RaceFound → RaceFound → ℕ → Type 0
IsListedAround peers races race below = (j k : ℕ) → j < below → j < k
    → IsListedFor peers races race j k

-- so is each of the first n
abbrev pub HaveExchangesBelow : List Peer → List RaceFound → ℕ → Type 0
HaveExchangesBelow peers races n = (i j k : ℕ) (race : RaceFound) → i < n
    → slice_get races i ≡ Some race → j < k → IsListedFor peers races race j k

-- and each
abbrev pub HaveExchanges : List Peer → List RaceFound → Type 0
HaveExchanges peers races = (race : RaceFound) → IsAmong races race → (j k : ℕ) → j < k
    → IsListedFor peers races race j k

-- each is one by its own schedule
abbrev pub AreAllBy : World → List Part → List RaceFound → Type 0
AreAllBy w sync races = (race : RaceFound) → IsAmong races race → RacesBy w sync race

-- more races are listed: each by its own schedule where the first world stays as it is when equal CPUs
-- change places, and none twice
pub record Grows (peers : List Peer) (old new : List RaceFound) : Type 0 where
  pub longer : (more : List RaceFound) × (new ≡ old ++ more)
  pub each : (w : World) (sync : List Part) → StaysExchanged peers w → AreAllBy w sync old
      → AreAllBy w sync new
  pub once : AreOnce old → AreOnce new

-- the first n races are listed among others, each of which is one by its own schedule if the former are,
-- and none twice
pub record CoversBelow (peers : List Peer) (found races : List RaceFound) (n : ℕ) : Type 0 where
  pub listed : (i : ℕ) (race : RaceFound) → i < n → slice_get found i ≡ Some race
      → IsListed races (spot_of race)
  pub each : (w : World) (sync : List Part) → StaysExchanged peers w → AreAllBy w sync found
      → AreAllBy w sync races
  pub once : AreOnce races
