-- The x86 machine: jobs on CPUs whose plain stores to values wait in store buffers. Its turns are
-- those of the plain machine, but for what its calls find and when its stores reach memory.
use Rattle.std.specs.Prelude.{◌≡◌, ℕ, zero, suc, List, [], ◌∷◌, ◌⊎◌, Option, Some, None, slice_get}
use Rattle.bpf_shared.specs.declared.events.Event.{Event}
use Rattle.bpf_shared.specs.declared.events.Event.TheVariants.{Begin}
use Rattle.bpf_loader.specs.Loaded.{Loaded}
use Rattle.bpf_cpu.specs.declared.cpu.Cpu.{Cpu}
use Rattle.bpf_cpu.specs.declared.input.Input.{Input}
use Rattle.bpf_cpu.specs.declared.outcome.Progress.{Progress}
use Rattle.bpf_cpu.specs.declared.outcome.Outcome.{Outcome}
use Rattle.bpf_cpu.specs.declared.outcome.Outcome.TheVariants.{OutOfBudget}
use Rattle.bpf_cpu.specs.State.{start}
use Rattle.bpf_cpu.specs.Step.{Step}
use Rattle.bpf_cpu.specs.Task.{Task, Waiting, InHand}
use Rattle.bpf_machine.specs.declared.machine.Turn.{Turn}
use Rattle.bpf_machine.specs.declared.machine.Turn.TheVariants as turn
use Rattle.bpf_machine.specs.Hands.{IsAt, IsFree, NoneWaitsBelow, NoneWaits}
use Rattle.bpf_machine.specs.Schedule.{World, outcome_after, Settles}
use Rattle.bpf_x86.specs.Buffers.{Buffered, Flushes, Drains, Calls, CallsAll}

-- a world whose store is memory, and the buffers
pub record X86 : Type 0 where
  pub world : World
  pub buffers : ℕ → List Event

abbrev pub buffered : X86 → Buffered
buffered x = record { memory = x.world.store; buffers = x.buffers }

abbrev pub with_buffered : X86 → Buffered → X86
with_buffered x b =
    record { world = record x.world { store = b.memory }; buffers = b.buffers }

-- a job in hand makes one step, if its budget has one left
abbrev pub Advances : Loaded → ℕ → Buffered → Cpu → ℕ → Option Outcome → Buffered → Cpu → ℕ → Type 0
Advances program c b old zero end t new left =
    (end ≡ Some (OutOfBudget old.pc)) × (t ≡ b) × (new ≡ old) × (left ≡ 0)
Advances program c b old (suc n) end t new left =
    (events : List Event) × (answer : Progress)
    × Step b.memory.shape program old events answer new × CallsAll b c events t
    × (end ≡ outcome_after answer n new) × (left ≡ n)

-- then it stays in hand; or it has an outcome, and its run ends once the buffer is drained
abbrev pub Settled : X86 → ℕ → ℕ → Task → Cpu → ℕ → Option Outcome → Turn → X86 → Type 0
Settled x c j task new left None answer z =
    Settles x.world c j task new left None answer z.world × (z.buffers ≡ x.buffers)
Settled x c j task new left (Some end) answer z =
    (d : Buffered) × Drains (buffered x) c d
    × Settles (with_buffered x d).world c j task new left (Some end) answer z.world
    × (z.buffers ≡ d.buffers)

-- the CPU goes on with a job, from this state and with this many steps left
abbrev pub GoesOn : X86 → ℕ → ℕ → Task → Cpu → ℕ → Turn → X86 → Type 0
GoesOn x c j task old left answer z =
    (program : Loaded) × (end : Option Outcome) × (b : Buffered) × (new : Cpu) × (rest : ℕ)
    × (slice_get x.world.programs task.program ≡ Some program)
    × Advances program c (buffered x) old left end b new rest
    × Settled (with_buffered x b) c j task new rest end answer z

-- A TURN: the CPU goes on with the job that it has in hand; or it begins its lowest waiting job, and
-- goes on with that; or it has no work, and nothing changes
abbrev pub TakesTurn : X86 → ℕ → Turn → X86 → Type 0
TakesTurn x c answer z =
    ((j : ℕ) × (task : Task) × (state : Cpu) × (left : ℕ)
    × IsAt x.world.jobs c j task (InHand state left) × GoesOn x c j task state left answer z)
    ⊎ (IsFree x.world.jobs c × ((j : ℕ) × (task : Task) × (input : Input) × (b : Buffered)
    × IsAt x.world.jobs c j task (Waiting input) × NoneWaitsBelow x.world.jobs c j
    × Calls (buffered x) c Begin b
    × GoesOn (with_buffered x b) c j task (start c input) task.budget answer z))
    ⊎ (IsFree x.world.jobs c × NoneWaits x.world.jobs c × (answer ≡ turn.Idle) × (z ≡ x))

-- what a schedule is made of: turns of CPUs, and flushes of their buffers
pub data Move : Type 0 where
  TurnOf : ℕ → Move
  FlushOf : ℕ → Move

abbrev pub Moves : X86 → Move → X86 → Type 0
Moves x (TurnOf c) z = (answer : Turn) × TakesTurn x c answer z
Moves x (FlushOf c) z = (b : Buffered) × Flushes (buffered x) c b × (z ≡ with_buffered x b)

-- THE RUN OF A SCHEDULE: its moves, in order
abbrev pub RunsMoves : X86 → List Move → X86 → Type 0
RunsMoves x [] z = z ≡ x
RunsMoves x (move ∷ moves) z = (y : X86) × Moves x move y × RunsMoves y moves z

-- nothing waits in any buffer
abbrev pub none_waits : ℕ → List Event
none_waits c = []

abbrev pub drained : World → X86
drained w = record { world = w; buffers = none_waits }
