-- Patient searches in which equal CPUs count once: whether jobs can reach their ends, whether some
-- schedule uses a budget up, and what lies beyond schedules.
use Rattle.std.specs.Prelude.{◌≡◌, ℕ, zero, suc, ◌+◌, ◌<◌, ◌≤◌, ◌⊎◌, Bool, false, List, [], ◌∷◌, Some, map, slice_get}
use Rattle.bpf_cpu.specs.Task.{Task}
use Rattle.bpf_machine.specs.Budgets.{depth_at}
use Rattle.bpf_machine.specs.Cover.{IsShown, TurnsAhead, TurnsTo}
use Rattle.bpf_machine.specs.Ends.{CanEnd, IsHung, RunsFreely}
use Rattle.bpf_machine.specs.Hands.{IsFree, NoneWaits}
use Rattle.bpf_machine.specs.Headways.{with_jobs}
use Rattle.bpf_machine.specs.Laws.{IsFresh}
use Rattle.bpf_machine.specs.Machine.{MachineState, Shows}
use Rattle.bpf_machine.specs.Patient.{AsRich, NoneRanOut}
use Rattle.bpf_machine.specs.Rounds.{HaveEnded}
use Rattle.bpf_machine.specs.Schedule.{RunsSchedule, World, unrolled}
use Rattle.bpf_alike.specs.Covers.{IsCoveredAlike}
use Rattle.bpf_alike.specs.Ends.{EndsInAlike, IsCoveredAlikeAt, IsShownAlikeRichlyAt}
use Rattle.bpf_alike.specs.Patient.{IsCoveredAlikeRichly}
use Rattle.bpf_equal.specs.Covers.{ButForPlaces}
use Rattle.bpf_equal.specs.Peers.{AreOneGroup, Peer}
use Rattle.bpf_equal.specs.Permutations.{Exchanges, Permutation, exchanged}
use Rattle.bpf_equal.specs.Races.{AreEqualCpus}
use Rattle.bpf_equal.specs.Worlds.{ArePermuted, AreSymmetries, IsPermuted}

-- ---- one kept machine
-- but for places, richer jobs and dead registers, the i-th shows the world
abbrev pub IsShownPermutedRichlyAt : List Peer → List MachineState → ℕ → World → Type 0
IsShownPermutedRichlyAt peers kept i w = ButForPlaces peers (IsShownAlikeRichlyAt kept i) w

-- what the machine shows, it shows so
abbrev pub IsKeptPermutedRichlyAt : List Peer → List MachineState → ℕ → MachineState → Type 0
IsKeptPermutedRichlyAt peers kept i m =
    (w : World) → Shows m w → IsShownPermutedRichlyAt peers kept i w

-- but for these and for turns that CPUs make ahead, the world is what it shows
abbrev pub IsCoveredPermutedRichlyAt : List Peer → List MachineState → ℕ → World → Type 0
IsCoveredPermutedRichlyAt peers kept i w =
    (jobs : List Task) × AsRich w.jobs jobs
    × ButForPlaces peers (IsCoveredAlikeAt kept i) (with_jobs w jobs)

-- ---- ends
-- the CPU's turn, made from the i-th, leads to the k-th
abbrev pub LeadsToPermuted : List Peer → List MachineState → ℕ → ℕ → ℕ → Type 0
LeadsToPermuted peers kept i c k = (m : MachineState) × (new : MachineState)
    × (slice_get kept i ≡ Some m) × TurnsTo m c new × IsKeptPermutedRichlyAt peers kept k new

-- this many such turns lead from the i-th to one without work in which no job is out of budget
abbrev pub EndsInPermuted : List Peer → List MachineState → ℕ → ℕ → Type 0
EndsInPermuted peers kept zero i = EndsInAlike kept zero i
EndsInPermuted peers kept (suc n) i =
    (c k : ℕ) × LeadsToPermuted peers kept i c k × EndsInPermuted peers kept n k

-- the machine has work, none of its jobs is out of budget, and each CPU's turn leads to one that is
-- marked as not ending
pub record IsStuckPermuted (peers : List Peer) (kept : List MachineState) (ends : List Bool) (i : ℕ)
    : Type 0 where
  pub works : (m : MachineState) → slice_get kept i ≡ Some m → HaveEnded m.jobs → ⊥
  pub none : (m : MachineState) → slice_get kept i ≡ Some m → NoneRanOut m.jobs
  pub turns : (c : ℕ)
      → (k : ℕ) × LeadsToPermuted peers kept i c k × (slice_get ends k ≡ Some false)

-- so is each that is marked so
abbrev pub AreStuckPermuted : List Peer → List MachineState → List Bool → Type 0
AreStuckPermuted peers kept ends =
    (i : ℕ) → slice_get ends i ≡ Some false → IsStuckPermuted peers kept ends i

-- ---- budgets
-- the CPU's turn, with n turns of it that no store sees, leads from the i-th to one that is deeper by
-- more than n
abbrev pub LeadsDeeperPermuted : List Peer → List MachineState → List ℕ → ℕ → MachineState → ℕ
    → Type 0
LeadsDeeperPermuted peers kept depths i m c = (new : MachineState) × (k : ℕ) × (n : ℕ)
    × TurnsAhead m c n new × IsKeptPermutedRichlyAt peers kept k new
    × (depth_at depths i + n + 1 ≤ depth_at depths k)

-- the i-th is less deep than each budget, and each CPU with work leads deeper
pub record IsSparingPermuted (peers : List Peer) (kept : List MachineState) (depths : List ℕ)
    (least i : ℕ) (m : MachineState) : Type 0 where
  pub depth : depth_at depths i < least
  pub budgets : (j : ℕ) (task : Task) → slice_get m.jobs j ≡ Some task → least ≤ task.budget
  pub turns : (c : ℕ)
      → (IsFree m.jobs c × NoneWaits m.jobs c) ⊎ LeadsDeeperPermuted peers kept depths i m c

abbrev pub AreSparingPermuted : List Peer → List MachineState → List ℕ → ℕ → Type 0
AreSparingPermuted peers kept depths least = (i : ℕ) (m : MachineState) → slice_get kept i ≡ Some m
    → IsSparingPermuted peers kept depths least i m

-- ---- what lies beyond schedules
-- one machine shows the first world and covers the second, but for one change of places
pub record AreOfOneMachine (z w : World) : Type 0 where
  pub cpus : Permutation
  pub jobs : Permutation
  pub first : World
  pub second : World
  pub first_goes : IsPermuted cpus jobs z first
  pub second_goes : IsPermuted cpus jobs w second
  pub machine : MachineState
  pub shows : Shows machine first
  pub covers : IsCoveredAlike (machine ∷ []) second

-- the world lies beyond a schedule: with richer jobs it is of one machine with one to which turns lead
-- from where the schedule leads, where jobs are given steps
abbrev pub LiesBeyond : World → List ℕ → World → Type 0
LiesBeyond first schedule w =
    (y : World) × (later : List ℕ) × (z : World) × (jobs : List Task)
    × RunsSchedule first schedule y × RunsFreely y later z
    × AsRich w.jobs jobs × AreOfOneMachine z (with_jobs w jobs)

-- it lies beyond one of these
abbrev pub LiesBeyondOne : World → List (List (ℕ × ℕ)) → World → Type 0
LiesBeyondOne first all w = (i : ℕ) × (by : List (ℕ × ℕ)) × (slice_get all i ≡ Some by)
    × LiesBeyond first (unrolled by) w

-- with each of these schedules there is the one in which two equal CPUs have changed places
abbrev pub AreAllExchanged : List Peer → List (List (ℕ × ℕ)) → Type 0
AreAllExchanged peers all = (i c d : ℕ) (by : List (ℕ × ℕ)) → slice_get all i ≡ Some by
    → AreEqualCpus peers c d
    → (k : ℕ) × (other : List (ℕ × ℕ)) × (slice_get all k ≡ Some other)
    × (unrolled other ≡ map (exchanged c d) (unrolled by))

-- ---- laws
-- where jobs are given steps, a schedule leads to what the schedule of the CPUs that its own go to leads
-- to
abbrev pub FreeRunsArePermuted : Type 0
FreeRunsArePermuted =
    (cpus jobs : Permutation) (w v z : World) (schedule : List ℕ) → IsPermuted cpus jobs w v
    → RunsFreely w schedule z
    → (y : World) × RunsFreely v (map cpus.to schedule) y × IsPermuted cpus jobs z y

-- where this many turns lead from the i-th to an end, so does all that it covers
abbrev pub PermutedCanEnd : Type 0
PermutedCanEnd =
    (peers : List Peer) (kept : List MachineState) (n i : ℕ) (z : World)
    → EndsInPermuted peers kept n i → IsCoveredPermutedRichlyAt peers kept i z → CanEnd z

-- what a schedule leads to, and what such a machine shows but for places, richer jobs and dead registers,
-- never ends
abbrev pub PermutedStuckAreHung : Type 0
PermutedStuckAreHung =
    (peers : List Peer) (kept : List MachineState) (ends : List Bool) (first z : World)
    (schedule : List ℕ) (i : ℕ)
    → AreStuckPermuted peers kept ends → IsFresh first → RunsSchedule first schedule z
    → slice_get ends i ≡ Some false → IsShownPermutedRichlyAt peers kept i z → IsHung z

-- where all machines are sparing, no schedule uses a budget up
abbrev pub PermutedBudgetsSuffice : Type 0
PermutedBudgetsSuffice =
    (peers : List Peer) (kept : List MachineState) (depths : List ℕ) (least : ℕ) (first z : World)
    (schedule : List ℕ)
    → AreSparingPermuted peers kept depths least → IsFresh first → IsShown kept first
    → RunsSchedule first schedule z → NoneRanOut z.jobs

-- where equal CPUs may be exchanged, and their jobs, each move leaves the world as it is
abbrev pub ExchangesAreSymmetries : Type 0
ExchangesAreSymmetries =
    (peers : List Peer) (w : World)
    → ((j k : ℕ) (one other : Peer) → j < k → AreOneGroup peers j k one other
    → (cpus : Permutation) × (jobs : Permutation) × Exchanges cpus one.cpu other.cpu
    × Exchanges jobs j k × IsPermuted cpus jobs w w)
    → AreSymmetries peers w

-- where a schedule leads to a hung state, so does the schedule with two equal CPUs exchanged
abbrev pub HungAreExchanged : Type 0
HungAreExchanged =
    (peers : List Peer) (first z : World) (schedule : List ℕ) (c d : ℕ)
    → AreSymmetries peers first → AreEqualCpus peers c d → RunsSchedule first schedule z
    → NoneRanOut z.jobs → IsHung z
    → (y : World) × RunsSchedule first (map (exchanged c d) schedule) y × NoneRanOut y.jobs × IsHung y

-- where turns lead to what a machine shows, all that it covers lies beyond
abbrev pub CoveredLieBeyond : Type 0
CoveredLieBeyond =
    (first y z w : World) (schedule later : List ℕ) (m : MachineState)
    → RunsSchedule first schedule y → RunsFreely y later z → Shows m z
    → IsCoveredAlikeRichly (m ∷ []) w → LiesBeyond first schedule w

-- what is permuted, with richer jobs, from what lies beyond one of some schedules lies beyond one of
-- them, if they are there in all exchanges
abbrev pub BeyondIsExchanged : Type 0
BeyondIsExchanged =
    (peers : List Peer) (first w v : World) (all : List (List (ℕ × ℕ))) (jobs : List Task)
    → AreSymmetries peers first → AreAllExchanged peers all → AsRich w.jobs jobs
    → ArePermuted peers (with_jobs w jobs) v → LiesBeyondOne first all v → LiesBeyondOne first all w
