-- What a recorder notes of a turn before it is made.
use Rattle.std.specs.Prelude.{◌≡◌, ℕ, ◌<◌, ◌≤◌, true, false, List, [], ◌∷◌, ◌++◌, Option, Some, None, length, map}
use Rattle.bpf_shared.specs.Shape.{Shape}
use Rattle.bpf_shared.specs.declared.events.Event.{Event}
use Rattle.bpf_shared.specs.declared.events.Event.TheVariants.{Begin}
use Rattle.bpf_shared.specs.Store.{Plain}
use Rattle.bpf_shared.specs.Sound.{IsSoundStore}
use Rattle.bpf_shared.specs.Choice.{PlainlyAllowed}
use Rattle.bpf_plain.specs.PlainStore.{StandsFor, held_spans, is_running}
use Rattle.bpf_helpers.specs.Held.{AreHeld}
use Rattle.bpf_loader.specs.Loaded.{Loaded}
use Rattle.bpf_cpu.specs.declared.input.Input.{Input}
use Rattle.bpf_cpu.specs.declared.cpu.Cpu.{Cpu}
use Rattle.bpf_cpu.specs.State.{start}
use Rattle.bpf_cpu.specs.declared.outcome.Progress.TheVariants.{On}
use Rattle.bpf_cpu.specs.Step.{IsReady, Step}
use Rattle.bpf_cpu.specs.Task.{Stage, Waiting, InHand, Ended}
use Rattle.bpf_machine.specs.declared.machine.Turn.{Turn}
use Rattle.bpf_machine.specs.Happenings.{Happening, happening, end_events, HasEvents, Happens}
use Rattle.bpf_machine.specs.Machine.{MachineState, Shows}
use Rattle.bpf_machine.specs.Schedule.{World}
use Rattle.bpf_events.specs.Private.Recording.{Recording}

-- the job's next step, if its budget has one left
abbrev pub NotesStep : Loaded → Cpu → ℕ → Recording → Recording → Type 0
NotesStep program old left x y = y.lost ≡ false → (x.lost ≡ false) × ((s : Plain)
    → IsSoundStore s → StandsFor x.store s → (events : List Event)
    × HasEvents program old.number s old left events × (y.events ≡ x.events ++ events))

-- the beginning of a run, and its first step
abbrev pub NotesBegin : Loaded → ℕ → Input → ℕ → Recording → Recording → Type 0
NotesBegin program c input budget x y = y.lost ≡ false → (x.lost ≡ false) × ((s : Plain)
    → IsSoundStore s → StandsFor x.store s → (t : Plain) × (events : List Event)
    × PlainlyAllowed s c Begin t × HasEvents program c t (start c input) budget events
    × (y.events ≡ x.events ++ Begin ∷ events))

-- the job of a CPU goes on from this stage; the pc at which the CPU is
abbrev pub NotesStage : Loaded → ℕ → Stage → ℕ → Recording → Recording → ℕ → Type 0
NotesStage program c (Waiting input) budget x y pc =
    (pc ≡ 0) × NotesBegin program c input budget x y
NotesStage program c (InHand state left) budget x y pc =
    (pc ≡ state.pc) × NotesStep program state left x y
NotesStage program c (Ended outcome) budget x y pc = ⊥

-- a CPU's job in this stage fits the store that the recorder has
abbrev pub FitsStage : Loaded → ℕ → Stage → Recording → Type 0
FitsStage program c (Waiting input) x = is_running x.store c ≡ false
FitsStage program c (InHand state left) x = (state.number ≡ c) × IsReady program state
    × AreHeld (held_spans x.store c) state.held × (is_running x.store c ≡ true)
FitsStage program c (Ended outcome) x = ⊥

-- a job in hand can make a step
abbrev pub CanStepAt : Loaded → Stage → Type 0
CanStepAt program (Waiting input) = Unit {0}
CanStepAt program (InHand state left) = IsReady program state
CanStepAt program (Ended outcome) = Unit {0}

-- a job in hand makes a step from this pc that no store sees
abbrev pub IsQuietAt : Loaded → Stage → ℕ → Type 0
IsQuietAt program (Waiting input) pc = ⊥
IsQuietAt program (InHand state left) pc = (pc ≡ state.pc) × (0 < left)
    × ((new : Cpu) × ((shape : Shape) → Step shape program state [] On new))
IsQuietAt program (Ended outcome) pc = ⊥

-- what happens in a turn with this result, where these events were noted of a job at a pc
abbrev pub noted : ℕ → Option (ℕ × ℕ) → List Event → Turn → List Happening
noted c None events answer = []
noted c (Some at) events answer = map (happening c at.0 at.1) (events ++ end_events answer)

-- whatever the CPU's next turn leads to, this happens in it
abbrev pub IsWatched : MachineState → ℕ → Option (ℕ × ℕ) → List Event → Type 0
IsWatched m c at events =
    (w : World) → Shows m w → (answer : Turn) → Happens w c answer (noted c at events answer)
