-- What happens in the turns of a schedule: the events of the CPUs at the store, in their order.
use Rattle.std.specs.Prelude.{◌≡◌, ℕ, zero, suc, List, [], ◌∷◌, ◌++◌, ◌⊎◌, Some, map, slice_get}
use Rattle.bpf_shared.specs.declared.events.Event.{Event}
use Rattle.bpf_shared.specs.declared.events.Event.TheVariants.{Begin, End}
use Rattle.bpf_shared.specs.Store.{Plain}
use Rattle.bpf_shared.specs.Choice.{PlainlyAllowed}
use Rattle.bpf_shared.specs.History.{PlainlyLegal, entry}
use Rattle.bpf_loader.specs.Loaded.{Loaded}
use Rattle.bpf_cpu.specs.declared.cpu.Cpu.{Cpu}
use Rattle.bpf_cpu.specs.declared.input.Input.{Input}
use Rattle.bpf_cpu.specs.declared.outcome.Progress.{Progress}
use Rattle.bpf_cpu.specs.State.{start}
use Rattle.bpf_cpu.specs.Step.{Step}
use Rattle.bpf_cpu.specs.Task.{Task, Waiting, InHand}
use Rattle.bpf_machine.specs.declared.machine.Turn.{Turn}
use Rattle.bpf_machine.specs.declared.machine.Turn.TheVariants as turn
use Rattle.bpf_machine.specs.Hands.{IsAt, IsFree, NoneWaitsBelow, NoneWaits}
use Rattle.bpf_machine.specs.Schedule.{World, TakesTurn}
use Rattle.bpf_machine.specs.Rounds.{below, HaveEnded, RunsBy}

-- an event of a CPU: of which job it is, and at which pc the CPU stood
pub record Happening : Type 0 where
  pub cpu : ℕ
  pub job : ℕ
  pub pc : ℕ
  pub event : Event

abbrev pub happening : ℕ → ℕ → ℕ → Event → Happening
happening c j pc e = record { cpu = c; job = j; pc = pc; event = e }

-- the events of a job's next step, if its budget has one left
abbrev pub HasEvents : Loaded → ℕ → Plain → Cpu → ℕ → List Event → Type 0
HasEvents program c s old zero events = events ≡ []
HasEvents program c s old (suc n) events =
    (answer : Progress) × (new : Cpu) × (t : Plain) × Step s.shape program old events answer new
    × PlainlyLegal s (map (entry c) events) t

-- a job that ends leaves its run
abbrev pub end_events : Turn → List Event
end_events turn.Ran = []
end_events (turn.Ended j end) = End ∷ []
end_events turn.Idle = []

-- what happens where the CPU goes on with a job after these events, and its turn leads to this
abbrev pub HappensOn : World → ℕ → ℕ → Task → Cpu → ℕ → Turn → List Event → List Happening → Type 0
HappensOn w c j task old left answer before log =
    (program : Loaded) × (events : List Event) × (slice_get w.programs task.program ≡ Some program)
    × HasEvents program c w.store old left events
    × (log ≡ map (happening c j old.pc) (before ++ (events ++ end_events answer)))

-- WHAT HAPPENS IN A TURN that leads to this: the job in hand goes on; or the lowest that waits
-- enters its run, and goes on; or nothing happens
abbrev pub Happens : World → ℕ → Turn → List Happening → Type 0
Happens w c answer log =
    ((j : ℕ) × (task : Task) × (state : Cpu) × (left : ℕ) × IsAt w.jobs c j task (InHand state left)
    × HappensOn w c j task state left answer [] log)
    ⊎ (IsFree w.jobs c × ((j : ℕ) × (task : Task) × (input : Input) × (s : Plain)
    × IsAt w.jobs c j task (Waiting input) × NoneWaitsBelow w.jobs c j
    × PlainlyAllowed w.store c Begin s
    × HappensOn (record w { store = s }) c j task (start c input) task.budget answer (Begin ∷ [])
    log))
    ⊎ (IsFree w.jobs c × NoneWaits w.jobs c × (log ≡ []))

-- the run of a schedule, with all that happens in it
abbrev pub RunsWith : World → List ℕ → List Happening → World → Type 0
RunsWith w [] log z = (z ≡ w) × (log ≡ [])
RunsWith w (c ∷ cs) log z =
    (answer : Turn) × (m : World) × (first : List Happening) × (rest : List Happening)
    × TakesTurn w c answer m × Happens w c answer first × RunsWith m cs rest z
    × (log ≡ first ++ rest)

-- this many rounds
abbrev pub RunsRoundsWith : ℕ → World → List Happening → World → Type 0
RunsRoundsWith zero w log z = (z ≡ w) × (log ≡ [])
RunsRoundsWith (suc n) w log z =
    (m : World) × (before : List Happening) × (last : List Happening) × RunsRoundsWith n w before m
    × RunsWith m (below m.store.shape.cpus) last z × (log ≡ before ++ last)

-- the turns of a schedule, and after them rounds until no CPU has work
abbrev pub RunsByWith : World → List ℕ → List Happening → World → Type 0
RunsByWith w schedule log z =
    (y : World) × (first : List Happening) × (n : ℕ) × (rest : List Happening)
    × RunsWith w schedule first y × RunsRoundsWith n y rest z × HaveEnded z.jobs
    × (log ≡ first ++ rest)

-- a run with what happens in it is a run
abbrev pub HappeningsAreOfRuns : Type 0
HappeningsAreOfRuns =
    (w z : World) (schedule : List ℕ) (log : List Happening)
    → RunsByWith w schedule log z → RunsBy w schedule z
