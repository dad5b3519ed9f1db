-- What a CPU is to do, and what doing it changes.
use Rattle.std.specs.Prelude.{◌≡◌, ℕ, List}
use Rattle.bpf_shared.specs.declared.events.Event.TheVariants.{Begin}
use Rattle.bpf_shared.specs.Store.{Plain}
use Rattle.bpf_shared.specs.Choice.{PlainlyAllowed}
use Rattle.bpf_shared.specs.Sound.{IsSoundStore}
use Rattle.bpf_plain.specs.PlainStore as plain_store
use Rattle.bpf_cpu.specs.declared.cpu.Cpu.{Cpu}
use Rattle.bpf_cpu.specs.declared.input.Input.{Input}
use Rattle.bpf_machine.specs.declared.machine.Turn.{Turn}
use Rattle.bpf_machine.specs.declared.machine.Work.{Work}
use Rattle.bpf_machine.specs.declared.machine.Work.TheVariants as work
use Rattle.bpf_cpu.specs.State.{start}
use Rattle.bpf_cpu.specs.Task.{Task, Waiting, InHand}
use Rattle.bpf_machine.specs.Hands.{IsAt, IsFree, NoneWaitsBelow, NoneWaits, with_stage}
use Rattle.bpf_machine.specs.Schedule.{World, GoesOn}
use Rattle.bpf_machine.specs.Machine.{MachineState, Shows}

-- the CPU has this job in hand
abbrev pub HasInHand : List Task → ℕ → ℕ → Type 0
HasInHand jobs cpu j =
    (task : Task) × (state : Cpu) × (left : ℕ) × IsAt jobs cpu j task (InHand state left)

-- it has a job in hand, and is in this state
abbrev pub IsState : List Task → ℕ → Cpu → Type 0
IsState jobs cpu state =
    (j : ℕ) × (task : Task) × (left : ℕ) × IsAt jobs cpu j task (InHand state left)

-- the CPU has none in hand, and this is its lowest that waits
abbrev pub IsNext : List Task → ℕ → ℕ → Type 0
IsNext jobs cpu j =
    IsFree jobs cpu × ((task : Task) × (input : Input) × IsAt jobs cpu j task (Waiting input))
    × NoneWaitsBelow jobs cpu j

abbrev pub IsWork : List Task → ℕ → Work → Type 0
IsWork jobs cpu (work.InHand j) = HasInHand jobs cpu j
IsWork jobs cpu (work.Waiting j) = IsNext jobs cpu j
IsWork jobs cpu work.Nothing = IsFree jobs cpu × NoneWaits jobs cpu

-- the j-th job, which waits, is in hand, and its run has begun
abbrev pub BeginsJob : MachineState → ℕ → ℕ → MachineState → Type 0
BeginsJob old cpu j new =
    (task : Task) × (input : Input) × IsAt old.jobs cpu j task (Waiting input)
    × (new.programs ≡ old.programs)
    × (new.jobs ≡ with_stage old.jobs j task (InHand (start cpu input) task.budget))
    × ((s : Plain) → IsSoundStore s → plain_store.StandsFor old.store s → (t : Plain)
    × PlainlyAllowed s cpu Begin t × IsSoundStore t × plain_store.StandsFor new.store t)
    × (new.lists ≡ old.lists)

-- the CPU goes on with the j-th job, from this state and with this many steps left
abbrev pub Proceeds : MachineState → ℕ → ℕ → Turn → MachineState → Type 0
Proceeds old cpu j answer new =
    (task : Task) (state : Cpu) (left : ℕ) → IsAt old.jobs cpu j task (InHand state left)
    → (w : World) → Shows old w → (z : World) × GoesOn w cpu j task state left answer z
    × Shows new z
