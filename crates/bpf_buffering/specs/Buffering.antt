-- What callers see of a machine whose CPUs' stores wait, and what its turns do.
use Rattle.std.specs.Prelude.{◌≡◌, ℕ, ◌<◌, true, false, List, [], Option, Some, None, Vec, length, map, nat_lt, slice_get, slice_index_or}
use Rattle.std.specs.declared.alloc.Global.{Global}
use Rattle.bpf_shared.specs.declared.events.Event.{Event}
use Rattle.bpf_shared.specs.declared.events.Event.TheVariants.{Begin}
use Rattle.bpf_shared.specs.Store.{Plain, put}
use Rattle.bpf_shared.specs.Sound.{IsSoundStore}
use Rattle.bpf_plain.specs.PlainStore.{Contents, StandsFor, has_cpu, is_running}
use Rattle.bpf_loader.specs.Loaded.{Loaded}
use Rattle.bpf_cpu.specs.declared.cpu.Cpu.{Cpu}
use Rattle.bpf_cpu.specs.declared.input.Input.{Input}
use Rattle.bpf_cpu.specs.declared.outcome.Outcome.{Outcome}
use Rattle.bpf_cpu.specs.State.{start}
use Rattle.bpf_cpu.specs.Task.{Stage, Task, Waiting, InHand}
use Rattle.bpf_machine.specs.declared.machine.Turn.{Turn}
use Rattle.bpf_machine.specs.declared.machine.Turn.TheVariants as turn
use Rattle.bpf_machine.specs.Hands.{IsAt, IsFree, with_stage}
use Rattle.bpf_machine.specs.Work.{HasInHand}
use Rattle.bpf_machine.specs.Parts.{FitsHand}
use Rattle.bpf_machine.specs.Machine.{MachineState}
use Rattle.bpf_x86.specs.Buffers.{Calls, Sees}
use Rattle.bpf_x86.specs.Machine.{X86, buffered, TakesTurn}
use Rattle.bpf_buffering.specs.Search.{BufferedState, ShowsX86, buffer_at, alone}
use Rattle.bpf_buffering.specs.declared.waiting.Stored.{Stored}
use Rattle.bpf_buffering.specs.declared.jobs.Listed.{Listed}
use Rattle.bpf_buffering.specs.Waiting.{WaitingContents, CanWait, event_of}
use Rattle.bpf_buffering.specs.Jobs.{tasks_of}
use Rattle.bpf_buffering.specs.Going.{GoesAlone}

-- ---- what it is made of
-- the stores that wait, by CPU
abbrev pub stored_at : List (Vec Stored Global) → ℕ → List Stored
stored_at buffers c = slice_index_or (map (λ b. b.items) buffers) c []

abbrev pub events_of_all : List (Vec Stored Global) → List (List Event)
events_of_all buffers = map (λ b. map event_of b.items) buffers

-- the machine; it lists no keys
abbrev pub state_of : WaitingContents → List Loaded → List Listed → List (Vec Stored Global) → BufferedState
state_of w programs jobs buffers = record {
  machine = record { store = w.store; programs = programs; jobs = tasks_of jobs; lists = None };
  buffers = events_of_all buffers;
}

-- the state of a machine of these parts, which lists no keys
abbrev pub state_with : Contents → List Loaded → List Task → List (List Stored) → BufferedState
state_with store programs jobs buffers = record {
  machine = record { store = store; programs = programs; jobs = jobs; lists = None };
  buffers = map (map event_of) buffers;
}

-- a store, programs and jobs that fit each other
pub record Stands (m : MachineState) : Type 0 where
  pub served : (j : ℕ) (task : Task) → slice_get m.jobs j ≡ Some task
      → has_cpu m.store task.cpu ≡ true
  pub loaded : (j : ℕ) (task : Task) → slice_get m.jobs j ≡ Some task
      → task.program < length m.programs
  pub hand : (c j : ℕ) (task : Task) (state : Cpu) (left : ℕ)
      → IsAt m.jobs c j task (InHand state left) → FitsHand m c task state
  pub one : (c j k : ℕ) → HasInHand m.jobs c j → HasInHand m.jobs c k → j ≡ k
  pub idle : (c : ℕ) → IsFree m.jobs c → is_running m.store c ≡ false

-- these and what waits by CPU fit each other, as those of each machine do
pub record IsBoard (store : Contents) (programs : List Loaded) (jobs : List Task)
    (buffers : List (List Stored)) : Type 0 where
  pub stands : Stands (state_with store programs jobs buffers).machine
  pub cpus : (c : ℕ) → has_cpu store c ≡ nat_lt c (length buffers)
  pub each : (c : ℕ) → CanWait store c (slice_index_or buffers c [])

pub record IsBuffering (w : WaitingContents) (programs : List Loaded) (jobs : List Listed)
    (buffers : List (Vec Stored Global)) : Type 0 where
  pub stands : Stands (state_of w programs jobs buffers).machine
  -- a CPU's stores are with the store only while it takes its turn
  pub put_back : w.waiting ≡ []
  pub cpus : (c : ℕ) → has_cpu w.store c ≡ nat_lt c (length buffers)
  pub each : (c : ℕ) → CanWait w.store c (stored_at buffers c)

-- these contents are what the CPU sees: memory after its own waiting stores
abbrev pub IsSeenBy : BufferedState → ℕ → Contents → Type 0
IsSeenBy m c seen = (x : X86) → ShowsX86 m x
    → (s : Plain) × Sees (buffered x) c s × IsSoundStore s × StandsFor seen s

-- ---- what a turn does
abbrev pub answer_of : ℕ → Option Outcome → Turn
answer_of j None = turn.Ran
answer_of j (Some end) = turn.Ended j end

-- the CPU goes on with the j-th job, which it has in hand
abbrev pub Proceeds : BufferedState → ℕ → ℕ → Option Outcome → BufferedState → Type 0
Proceeds old c j end new =
    (task : Task) (state : Cpu) (left : ℕ) → IsAt old.machine.jobs c j task (InHand state left)
    → (program : Loaded) × (stage : Stage) × (fs : List Event)
    × (slice_get old.machine.programs task.program ≡ Some program)
    × (new.machine.programs ≡ old.machine.programs)
    × (new.machine.jobs ≡ with_stage old.machine.jobs j task stage)
    × (old.machine.lists ≡ None) × (new.machine.lists ≡ None)
    × (buffer_at new.buffers ≡ put (buffer_at old.buffers) c fs)
    × ((s : Plain) → IsSoundStore s → StandsFor old.machine.store s
    → (t : Plain) × IsSoundStore t × StandsFor new.machine.store t
    × GoesAlone program c s (buffer_at old.buffers c) (InHand state left) end t fs stage)

-- it begins the j-th job, which waits
abbrev pub Begins : BufferedState → ℕ → ℕ → BufferedState → Type 0
Begins old c j new =
    (task : Task) × (input : Input) × (fs : List Event)
    × IsAt old.machine.jobs c j task (Waiting input)
    × (new.machine.programs ≡ old.machine.programs)
    × (new.machine.jobs ≡ with_stage old.machine.jobs j task (InHand (start c input) task.budget))
    × (new.machine.lists ≡ old.machine.lists)
    × (buffer_at new.buffers ≡ put (buffer_at old.buffers) c fs)
    × ((s : Plain) → IsSoundStore s → StandsFor old.machine.store s
    → (t : Plain) × IsSoundStore t × StandsFor new.machine.store t
    × Calls (alone s c (buffer_at old.buffers c)) c Begin (alone t c fs))

-- the turn's answer is that of the x86 machine, and so is what it leads to
abbrev pub TurnsTo : BufferedState → ℕ → Turn → BufferedState → Type 0
TurnsTo old c answer new =
    (x : X86) → ShowsX86 old x → (z : X86) × TakesTurn x c answer z × ShowsX86 new z
