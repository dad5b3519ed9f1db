-- What a CPU does with its jobs, over any store: from one state of the store to another, in order.
use Rattle.std.specs.Prelude.{◌≡◌, ℕ, ◌<◌, ◌≤◌, List, [], ◌∷◌, ◌++◌, Some, length, slice_get}
use Rattle.bpf_shared.specs.declared.events.Event.{Event}
use Rattle.bpf_shared.specs.declared.shapes.MapShape.{MapShape}
use Rattle.bpf_shared.specs.Shape.{Shape}
use Rattle.bpf_shared.specs.KeyOrder.{Listed}
use Rattle.bpf_loader.specs.Loaded.{Loaded}
use Rattle.bpf_cpu.specs.declared.input.Input.{Input}
use Rattle.bpf_cpu.specs.declared.outcome.Outcome.{Outcome}
use Rattle.bpf_cpu.specs.declared.outcome.Outcome.TheVariants.{OutOfBudget}
use Rattle.bpf_cpu.specs.State.{start}
use Rattle.bpf_cpu.specs.Task.{Task}
use Rattle.bpf_cpu.specs.Step.{Explains}
use Rattle.bpf_sched.specs.declared.assignment.Assignment.{Assignment}
use Rattle.bpf_sched.specs.Explained.{keys_events, waiting_input}

-- what a job that waits needs to be run
abbrev pub assigned : Task → Assignment
assigned task = record {
  cpu = start task.cpu (waiting_input task.stage);
  program = task.program;
  budget = task.budget;
  outcome = OutOfBudget 0;
}

abbrev pub outcome_of : Assignment → Outcome
outcome_of a = a.outcome

-- a job of this CPU that wasn't run yet, of one of n programs
pub record IsNew (cpu programs : ℕ) (a : Assignment) : Type 0 where
  pub input : Input
  pub fresh : a.cpu ≡ start cpu input
  pub program : a.program < programs

-- a job is run from the state x to the state y with these events, which explain how it ended:
-- `moves` says what a way from state to state is, and `worn` where the CPU's next run can't begin
pub record Runs {T : Type 0} (moves : T → T → List Event → Type 0) (worn : T → Type 0)
    (shape : Shape) (programs : List Loaded) (x : T) (old new : Assignment)
    (events : List Event) (y : T) : Type 0 where
  pub program : Loaded
  pub listed : slice_get programs old.program ≡ Some program
  pub way : moves x y events
  pub explained : Explains (worn x) shape program old.budget old.cpu events new.outcome

-- so are these jobs, one after the other
abbrev pub RunsAll : {T : Type 0} → (T → T → List Event → Type 0) → (T → Type 0) → Shape
    → List Loaded → T → List Assignment → List Assignment → List Event → T → Type 0
RunsAll {T} moves worn shape programs x [] [] events y = (events ≡ []) × (y ≡ x)
RunsAll {T} moves worn shape programs x (old ∷ olds) (new ∷ news) events y =
    (z : T) × (mine : List Event) × (rest : List Event) × (events ≡ mine ++ rest)
    × Runs moves worn shape programs x old new mine z
    × RunsAll moves worn shape programs z olds news rest y
RunsAll {T} moves worn shape programs x _ _ events y = ⊥

-- and then all maps are listed that the CPU has lists for: these are the keys that are found
pub record RunsAndLists {T : Type 0} (moves : T → T → List Event → Type 0) (worn : T → Type 0)
    (shape : Shape) (programs : List Loaded) (x : T) (olds news : List Assignment)
    (lists : List (List (List ℕ))) (events : List Event) (y : T) : Type 0 where
  pub ran : List Event
  pub cut : events ≡ ran ++ keys_events 0 lists
  pub last : T
  pub runs : RunsAll moves worn shape programs x olds news ran last
  pub way : moves last y (keys_events 0 lists)

-- each list was made for the map of its number; they are few
pub record AreListsFor (shapes : List MapShape) (lists : List Listed) : Type 0 where
  pub few : length lists ≤ 16
  pub each : (m : ℕ) (list : Listed) → slice_get lists m ≡ Some list
      → slice_get shapes m ≡ Some list.shape
