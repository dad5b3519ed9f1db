-- What follows from the definitions of steps and runs: what a store replies determines a run, and
-- on one thread a run has one outcome; and from those of what is saved.
use Rattle.std.specs.Prelude.{◌≡◌, ℕ, List, [], ◌∷◌, ◌++◌, map}
use Rattle.bpf_shared.specs.declared.events.Event.{Event}
use Rattle.bpf_shared.specs.declared.events.Event.TheVariants.{Begin, End}
use Rattle.bpf_shared.specs.Shape.{Shape, without_arrays}
use Rattle.bpf_shared.specs.Store.{Plain}
use Rattle.bpf_shared.specs.History.{PlainlyLegal, entry}
use Rattle.bpf_shared.specs.Sound.{IsSoundStore}
use Rattle.bpf_helpers.specs.Laws.{AreAskedAlike}
use Rattle.bpf_loader.specs.Loaded.{Loaded}
use Rattle.bpf_mem.specs.Laws.{IsMemory}
use Rattle.bpf_cpu.specs.Input.{IsShort}
use Rattle.bpf_cpu.specs.declared.cpu.Cpu.{Cpu}
use Rattle.bpf_cpu.specs.declared.input.Input.{Input}
use Rattle.bpf_cpu.specs.declared.outcome.Progress.{Progress}
use Rattle.bpf_cpu.specs.declared.outcome.Outcome.{Outcome}
use Rattle.bpf_cpu.specs.Saved.{IsOfOneJob, IsSavableOutcome, IsSavableState, cpu_saved, outcome_saved}
use Rattle.bpf_cpu.specs.State.{start}
use Rattle.bpf_cpu.specs.Step.{Step, MakesSteps, Explains}

-- a step asks the store what the replies before it determine, and leaves the state that all of them
-- determine
abbrev pub StepsAreDetermined : Type 0
StepsAreDetermined =
    (shape : Shape) (program : Loaded) (old new other : Cpu) (events others : List Event)
    (progress end : Progress) → IsMemory old.memory
    → Step shape program old events progress new → Step shape program old others end other
    → AreAskedAlike events others × (events ≡ others → (progress ≡ end) × (new ≡ other))

-- the same events explain one outcome, whether or not the run counter may be worn
abbrev pub OutcomesAreDetermined : Type 0
OutcomesAreDetermined =
    (shape : Shape) (program : Loaded) (budget number : ℕ) (input : Input)
    (events : List Event) (end other : Outcome) → IsShort input
    → Explains (Unit {0}) shape program budget (start number input) events end
    → Explains (Unit {0}) shape program budget (start number input) events other
    → end ≡ other

-- where there is no map and no array, a job's run that is not worn out has no events but its begin and its end
abbrev pub NoMapsNoEvents : Type 0
NoMapsNoEvents =
    (cpus : ℕ) (program : Loaded) (budget number : ℕ) (input : Input) (events : List Event)
    (end : Outcome) → Explains ⊥ (without_arrays cpus []) program budget (start number input) events end → events ≡ Begin ∷ End ∷ []

-- over a plain store, which no other CPU changes meanwhile, the steps of a run have one course
abbrev pub PlainStepsAreDetermined : Type 0
PlainStepsAreDetermined =
    (shape : Shape) (program : Loaded) (budget c : ℕ) (s t u : Plain) (old new other : Cpu)
    (events others : List Event) (end last : Outcome) → IsSoundStore s → IsMemory old.memory
    → MakesSteps shape program budget old events end new → PlainlyLegal s (map (entry c) events) t
    → MakesSteps shape program budget old others last other
    → PlainlyLegal s (map (entry c) others) u
    → (events ≡ others) × (end ≡ last) × (new ≡ other) × (t ≡ u)

-- what a state is saved as determines it, among those that may be of one job, and where it ends
abbrev pub SavedTellsStates : Type 0
SavedTellsStates =
    (cpu other : Cpu) (rest more : List ℕ) → IsSavableState cpu → IsSavableState other
    → IsOfOneJob other cpu → cpu_saved cpu ++ rest ≡ cpu_saved other ++ more
    → (cpu ≡ other) × (rest ≡ more)

-- what an outcome is saved as determines it, and where it ends
abbrev pub SavedTellsOutcomes : Type 0
SavedTellsOutcomes =
    (outcome other : Outcome) (rest more : List ℕ)
    → IsSavableOutcome outcome → IsSavableOutcome other
    → outcome_saved outcome ++ rest ≡ outcome_saved other ++ more
    → (outcome ≡ other) × (rest ≡ more)
