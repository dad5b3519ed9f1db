-- Steps that make one call of the store at most, and ask for no change of a hash map.
use Rattle.std.specs.Prelude.{◌≡◌, ℕ, suc, Bool, true, false, List, [], ◌∷◌, Some, map, slice_get}
use Rattle.bpf_shared.specs.declared.events.Event.{Event}
use Rattle.bpf_shared.specs.declared.events.Event.TheVariants.{Lookup, Load, Store, Atomic}
use Rattle.bpf_shared.specs.Store.{Plain}
use Rattle.bpf_shared.specs.History.{PlainlyLegal, entry}
use Rattle.bpf_loader.specs.Loaded.{Loaded}
use Rattle.bpf_cpu.specs.declared.cpu.Cpu.{Cpu}
use Rattle.bpf_cpu.specs.declared.outcome.Progress.{Progress}
use Rattle.bpf_cpu.specs.Step.{Step}
use Rattle.bpf_cpu.specs.Task.{Task}
use Rattle.bpf_machine.specs.Schedule.{World, RunsSchedule}
use Rattle.bpf_agreement.specs.Steps.{IsNextStep}

-- a lookup, or an access to a value
abbrev pub leaves_maps : Event → Bool
leaves_maps (Lookup m key found) = true
leaves_maps (Load a size found) = true
leaves_maps (Store a size x) = true
leaves_maps (Atomic a size op operand expected found) = true
leaves_maps _ = false

-- no event, or one such
abbrev pub IsCalm : List Event → Type 0
IsCalm [] = Unit {0}
IsCalm (e ∷ []) = leaves_maps e ≡ true
IsCalm (e ∷ next ∷ more) = ⊥

-- a step from this state can be made over this store, and its events are such
pub record IsCalmStep (w : World) (c : ℕ) (task : Task) (state : Cpu) (s : Plain) : Type 0 where
  pub program : Loaded
  pub loaded : slice_get w.programs task.program ≡ Some program
  pub events : List Event
  pub answer : Progress
  pub new : Cpu
  pub step : Step s.shape program state events answer new
  pub store : Plain
  pub legal : PlainlyLegal s (map (entry c) events) store
  pub calm : IsCalm events

-- so is each step that a CPU is about to make in a machine that a schedule leads to
abbrev pub StepsAreCalm : World → Type 0
StepsAreCalm w = (schedule : List ℕ) (z : World) → RunsSchedule w schedule z
    → (c j : ℕ) (task : Task) (state : Cpu) (left : ℕ) (s : Plain)
    → IsNextStep z c j task state (suc left) s → IsCalmStep z c task state s
