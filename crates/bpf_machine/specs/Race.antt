-- Races: the next steps of two CPUs touch one byte, at least one of them writes it, and not both are
-- atomic.
use Rattle.std.specs.Prelude.{◌≡◌, ◌≢◌, ℕ, ◌+◌, ◌<◌, ◌≤◌, Bool, true, false, ◌||◌, ◌&&◌, List, Some, map, slice_get}
use Rattle.bpf_shared.specs.declared.events.Event.{Event}
use Rattle.bpf_shared.specs.declared.events.Event.TheVariants.{Load, Store, Atomic}
use Rattle.bpf_shared.specs.Access.{bytes_in}
use Rattle.bpf_shared.specs.Store.{Plain}
use Rattle.bpf_shared.specs.History.{PlainlyLegal, entry}
use Rattle.bpf_loader.specs.Loaded.{Loaded}
use Rattle.bpf_cpu.specs.declared.cpu.Cpu.{Cpu}
use Rattle.bpf_cpu.specs.declared.outcome.Progress.{Progress}
use Rattle.bpf_cpu.specs.Step.{Step}
use Rattle.bpf_cpu.specs.Task.{Task, InHand}
use Rattle.bpf_machine.specs.declared.machine.Stand.{Stand}
use Rattle.bpf_machine.specs.Hands.{IsAt}
use Rattle.bpf_machine.specs.Schedule.{World, RunsSchedule}
use Rattle.bpf_machine.specs.Laws.{IsFresh}
use Rattle.bpf_machine.specs.Machine.{MachineState}
use Rattle.bpf_machine.specs.Cover.{IsClosed, IsShown}

-- the event touches the byte at this address; whether it writes it, and whether it is atomic
abbrev pub Touches : Event → ℕ → Bool → Bool → Type 0
Touches (Load a size found) b writes atomic =
    (a ≤ b) × (b < a + bytes_in size) × (writes ≡ false) × (atomic ≡ false)
Touches (Store a size word) b writes atomic =
    (a ≤ b) × (b < a + bytes_in size) × (writes ≡ true) × (atomic ≡ false)
Touches (Atomic a size op operand expected found) b writes atomic =
    (a ≤ b) × (b < a + bytes_in size) × (writes ≡ true) × (atomic ≡ true)
Touches _ b writes atomic = ⊥

-- the next step of a CPU that is there has this event at the store
pub record HasNext (w : World) (here : Stand) (event : Event) : Type 0 where
  pub job : ℕ
  pub task : Task
  pub state : Cpu
  pub left : ℕ
  pub at : IsAt w.jobs here.cpu job task (InHand state left)
  pub runs : task.program ≡ here.program
  pub stands : state.pc ≡ here.pc
  pub may : 0 < left
  pub program : Loaded
  pub loaded : slice_get w.programs task.program ≡ Some program
  pub events : List Event
  pub answer : Progress
  pub after : Cpu
  pub step : Step w.store.shape program state events answer after
  pub store : Plain
  pub legal : PlainlyLegal w.store (map (entry here.cpu) events) store
  pub place : ℕ
  pub among : slice_get events place ≡ Some event

-- the next steps of two CPUs, which are there, touch the byte at this address so
pub record IsRace (w : World) (one other : Stand) (b : ℕ) : Type 0 where
  pub apart : one.cpu ≢ other.cpu
  pub first : Event
  pub second : Event
  pub next : HasNext w one first
  pub next_too : HasNext w other second
  pub writes : Bool
  pub writes_too : Bool
  pub atomic : Bool
  pub atomic_too : Bool
  pub touches : Touches first b writes atomic
  pub touches_too : Touches second b writes_too atomic_too
  pub one_writes : writes || writes_too ≡ true
  pub not_both : atomic && atomic_too ≡ false

-- a kept machine shows a world with the store of this one, and with this race
abbrev pub IsRaceKept : List MachineState → World → Stand → Stand → ℕ → Type 0
IsRaceKept kept z one other b =
    (v : World) × IsShown kept v × (v.store ≡ z.store) × IsRace v one other b

-- where a closed list shows a machine before its first turn, each race that a schedule leads to is
-- one in what a kept machine shows
abbrev pub RacesAreKept : Type 0
RacesAreKept =
    (kept : List MachineState) (w z : World) (schedule : List ℕ) → IsClosed kept → IsFresh w
    → IsShown kept w → RunsSchedule w schedule z → (one other : Stand) (b : ℕ)
    → IsRace z one other b → IsRaceKept kept z one other b
