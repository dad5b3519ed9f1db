-- Turns of CPUs that no store sees, made ahead of those of other CPUs.
use Rattle.std.specs.Prelude.{◌≡◌, ℕ, zero, suc, List, ◌⊎◌, Option, Some, None, slice_get}
use Rattle.bpf_shared.specs.Store.{Plain}
use Rattle.bpf_loader.specs.Loaded.{Loaded}
use Rattle.bpf_cpu.specs.declared.cpu.Cpu.{Cpu}
use Rattle.bpf_machine.specs.declared.machine.ahead.Headway.{Headway}
use Rattle.bpf_machine.specs.declared.machine.ahead.Headway.TheVariants.{Idle, Turns}
use Rattle.bpf_cpu.specs.Task.{Task, InHand}
use Rattle.bpf_machine.specs.Hands.{IsAt, IsFree, NoneWaits, with_stage}
use Rattle.bpf_machine.specs.Schedule.{World, Advances}
use Rattle.bpf_machine.specs.Machine.{MachineState}
use Rattle.bpf_machine.specs.Work.{HasInHand, IsNext}

-- this many turns of a CPU that go on with the job in its hand, and leave any store as it is
abbrev pub TakesQuietTurns : Loaded → ℕ → ℕ → Cpu → ℕ → Cpu → ℕ → Type 0
TakesQuietTurns program c zero old left new rest = (new ≡ old) × (rest ≡ left)
TakesQuietTurns program c (suc n) old left new rest =
    (mid : Cpu) × (more : ℕ) × ((s : Plain) → Advances program c s old left None s mid more)
    × TakesQuietTurns program c n mid more new rest

-- the CPU's j-th job, in hand, takes this many of them
abbrev pub GoesAhead : MachineState → ℕ → ℕ → ℕ → MachineState → Type 0
GoesAhead old c j n new =
    (task : Task) × (state : Cpu) × (left : ℕ) × (program : Loaded) × (later : Cpu) × (rest : ℕ)
    × IsAt old.jobs c j task (InHand state left)
    × (slice_get old.programs task.program ≡ Some program)
    × TakesQuietTurns program c n state left later rest
    × (new ≡ record old { jobs = with_stage old.jobs j task (InHand later rest) })

-- no other job is in the CPU's hand
abbrev pub IsOnlyOne : List Task → ℕ → ℕ → Type 0
IsOnlyOne jobs c j = (k : ℕ) → HasInHand jobs c k → k ≡ j

-- the CPU is so far ahead then
abbrev pub RunsAhead : MachineState → ℕ → Headway → MachineState → Type 0
RunsAhead old c Idle new = (new ≡ old) × IsFree old.jobs c × NoneWaits old.jobs c
RunsAhead old c (Turns n) new =
    ((new ≡ old) × (n ≡ 0) × ((j : ℕ) × IsNext old.jobs c j))
    ⊎ ((j : ℕ) × GoesAhead old c j n new × IsOnlyOne new.jobs c j)

-- ---- a machine of which CPUs are ahead
abbrev pub turns_in : Headway → ℕ
turns_in Idle = 0
turns_in (Turns n) = n

-- a job, and where it is when its CPU is this many turns ahead
abbrev pub Precedes : List Loaded → ℕ → Task → Task → Type 0
Precedes programs n old new =
    ((new ≡ old) × ((state : Cpu) (left : ℕ) → old.stage ≡ InHand state left → n ≡ 0))
    ⊎ ((program : Loaded) × (state : Cpu) × (left : ℕ) × (later : Cpu) × (rest : ℕ)
    × (slice_get programs old.program ≡ Some program) × (old.stage ≡ InHand state left)
    × (new ≡ record old { stage = InHand later rest })
    × TakesQuietTurns program old.cpu n state left later rest)

abbrev pub BothPrecede : List Loaded → (ℕ → ℕ) → Option Task → Option Task → Type 0
BothPrecede programs turns None None = Unit {0}
BothPrecede programs turns None (Some new) = ⊥
BothPrecede programs turns (Some old) None = ⊥
BothPrecede programs turns (Some old) (Some new) = Precedes programs (turns old.cpu) old new

-- a CPU without work is marked, and one that is ahead has one job in hand
abbrev pub FitsHeadway : List Task → ℕ → Headway → Type 0
FitsHeadway jobs c Idle = IsFree jobs c × NoneWaits jobs c
FitsHeadway jobs c (Turns zero) = IsFree jobs c → NoneWaits jobs c → ⊥
FitsHeadway jobs c (Turns (suc n)) = (j : ℕ) × HasInHand jobs c j × IsOnlyOne jobs c j

-- the world with these jobs
abbrev pub with_jobs : World → List Task → World
with_jobs w jobs = record w { jobs = jobs }

-- the world is so far ahead of one with these jobs; of some CPUs it is known how they fit
pub record IsAheadOf (known : ℕ → Type 0) (headways : ℕ → Headway) (jobs : List Task)
    (w : World) : Type 0 where
  pub each : (j : ℕ) → BothPrecede w.programs (λ c. turns_in (headways c)) (slice_get jobs j)
      (slice_get w.jobs j)
  pub fits : (c : ℕ) → known c → FitsHeadway w.jobs c (headways c)
