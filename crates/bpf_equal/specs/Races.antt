-- Races where equal CPUs have changed places.
use Rattle.std.specs.Prelude.{◌≡◌, ℕ, ◌<◌, List, [], ◌∷◌, map}
use Rattle.bpf_machine.specs.declared.machine.Stand.{Stand}
use Rattle.bpf_machine.specs.Cover.{IsShown}
use Rattle.bpf_machine.specs.Laws.{IsFresh}
use Rattle.bpf_machine.specs.Machine.{MachineState}
use Rattle.bpf_machine.specs.Patient.{NoneRanOut}
use Rattle.bpf_machine.specs.Race.{IsRace}
use Rattle.bpf_machine.specs.Schedule.{RunsSchedule, World}
use Rattle.bpf_equal.specs.Covers.{IsClosedPermuted, IsClosedPermutedRichly}
use Rattle.bpf_equal.specs.Peers.{AreOneGroup, Peer}
use Rattle.bpf_equal.specs.Permutations.{Exchanges, Permutation, exchanged}
use Rattle.bpf_equal.specs.Stores.{store_permuted}
use Rattle.bpf_equal.specs.Worlds.{IsPermuted}

-- where a CPU is, if c and d change places
abbrev pub stand_exchanged : ℕ → ℕ → Stand → Stand
stand_exchanged c d here = record here { cpu = exchanged c d here.cpu }

-- if each of these pairs does, the first of them first
abbrev pub stand_after : List (ℕ × ℕ) → Stand → Stand
stand_after [] here = here
stand_after ((c, d) ∷ pairs) here = stand_after pairs (stand_exchanged c d here)

-- two CPUs whose jobs are of one group, that of the lesser number first
abbrev pub AreEqualCpus : List Peer → ℕ → ℕ → Type 0
AreEqualCpus peers c d = (j : ℕ) × (k : ℕ) × (one : Peer) × (other : Peer)
    × (j < k) × AreOneGroup peers j k one other × (one.cpu ≡ c) × (other.cpu ≡ d)

-- each pair is of two
abbrev pub AreAllEqual : List Peer → List (ℕ × ℕ) → Type 0
AreAllEqual peers [] = Unit {0}
AreAllEqual peers ((c, d) ∷ pairs) = AreEqualCpus peers c d × AreAllEqual peers pairs

-- the world stays as it is where two such CPUs change places, and their jobs
abbrev pub StaysExchanged : List Peer → World → Type 0
StaysExchanged peers w = (c d : ℕ) → AreEqualCpus peers c d
    → (cpus : Permutation) × (jobs : Permutation) × Exchanges cpus c d × IsPermuted cpus jobs w w

-- in a world whose store is that of z but for places, these two race for the byte at this address
pub record IsRaceIn (v z : World) (one other : Stand) (b : ℕ) : Type 0 where
  pub cpus : Permutation
  pub store : v.store ≡ store_permuted cpus z.store
  pub race : IsRace v one other b

-- in what a kept machine shows, so do those to which exchanges of equal CPUs lead
pub record IsRaceKeptElsewhere (peers : List Peer) (kept : List MachineState) (z : World)
    (one other : Stand) (b : ℕ) : Type 0 where
  pub pairs : List (ℕ × ℕ)
  pub equal : AreAllEqual peers pairs
  pub world : World
  pub shown : IsShown kept world
  pub race : IsRaceIn world z (stand_after pairs one) (stand_after pairs other) b

-- ---- laws
-- where a list is closed but for places, each race that a schedule leads to is one of it, but for places
abbrev pub PermutedRacesAreKept : Type 0
PermutedRacesAreKept =
    (peers : List Peer) (kept : List MachineState) (first z : World) (schedule : List ℕ)
    → IsClosedPermuted peers kept → IsFresh first → IsShown kept first
    → RunsSchedule first schedule z → (one other : Stand) (b : ℕ) → IsRace z one other b
    → IsRaceKeptElsewhere peers kept z one other b

-- where it is closed but for places and richer jobs, so is each before which no job is out of budget
abbrev pub PermutedPatientRacesAreKept : Type 0
PermutedPatientRacesAreKept =
    (peers : List Peer) (kept : List MachineState) (first z : World) (schedule : List ℕ)
    → IsClosedPermutedRichly peers kept → IsFresh first → IsShown kept first
    → RunsSchedule first schedule z → NoneRanOut z.jobs
    → (one other : Stand) (b : ℕ) → IsRace z one other b
    → IsRaceKeptElsewhere peers kept z one other b

-- a race that a schedule leads to comes with that of the schedule with two equal CPUs exchanged
abbrev pub RacesAreExchanged : Type 0
RacesAreExchanged =
    (peers : List Peer) (first z : World) (schedule : List ℕ) (c d : ℕ)
    → StaysExchanged peers first → AreEqualCpus peers c d → RunsSchedule first schedule z
    → (one other : Stand) (b : ℕ) → IsRace z one other b
    → (y : World) × RunsSchedule first (map (exchanged c d) schedule) y
    × IsRaceIn y z (stand_exchanged c d one) (stand_exchanged c d other) b
