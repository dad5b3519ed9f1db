-- Schedules: lists of CPU numbers, each a turn of that CPU over a plain store.
use Rattle.std.specs.Prelude.{◌≡◌, ℕ, zero, suc, List, [], ◌∷◌, ◌++◌, ◌⊎◌, Option, Some, None, map, replicate, slice_get}
use Rattle.bpf_shared.specs.declared.events.Event.{Event}
use Rattle.bpf_shared.specs.declared.events.Event.TheVariants.{Begin, End}
use Rattle.bpf_shared.specs.Store.{Plain, put}
use Rattle.bpf_shared.specs.Choice.{PlainlyAllowed}
use Rattle.bpf_shared.specs.History.{PlainlyLegal, entry}
use Rattle.bpf_loader.specs.Loaded.{Loaded}
use Rattle.bpf_cpu.specs.declared.cpu.Cpu.{Cpu}
use Rattle.bpf_cpu.specs.declared.input.Input.{Input}
use Rattle.bpf_cpu.specs.declared.outcome.Progress.{Progress}
use Rattle.bpf_cpu.specs.declared.outcome.Progress.TheVariants as progress
use Rattle.bpf_cpu.specs.declared.outcome.Outcome.{Outcome}
use Rattle.bpf_cpu.specs.declared.outcome.Outcome.TheVariants.{OutOfBudget}
use Rattle.bpf_machine.specs.declared.machine.Turn.{Turn}
use Rattle.bpf_machine.specs.declared.machine.Turn.TheVariants as turn
use Rattle.bpf_cpu.specs.State.{start}
use Rattle.bpf_cpu.specs.Step.{Step}
use Rattle.bpf_cpu.specs.Task.{Task, Waiting, InHand, Ended}
use Rattle.bpf_machine.specs.Hands.{IsAt, IsFree, NoneWaitsBelow, NoneWaits, SomeWaits, with_stage}
use Rattle.bpf_machine.specs.Listings.{Listing, listed_now}

pub record World : Type 0 where
  pub store : Plain
  pub programs : List Loaded
  pub jobs : List Task
  -- by CPU
  pub lists : ℕ → Listing

-- the outcome of a job, where it has one after a step that leaves this many
abbrev pub outcome_after : Progress → ℕ → Cpu → Option Outcome
outcome_after (progress.Done end) left new = Some end
outcome_after progress.On zero new = Some (OutOfBudget new.pc)
outcome_after progress.On (suc left) new = None

-- a job in hand makes one step, if its budget has one left
abbrev pub Advances : Loaded → ℕ → Plain → Cpu → ℕ → Option Outcome → Plain → Cpu → ℕ → Type 0
Advances program c s old zero end t new left =
    (end ≡ Some (OutOfBudget old.pc)) × (t ≡ s) × (new ≡ old) × (left ≡ 0)
Advances program c s old (suc n) end t new left =
    (events : List Event) × (answer : Progress) × Step s.shape program old events answer new
    × PlainlyLegal s (map (entry c) events) t
    × (end ≡ outcome_after answer n new) × (left ≡ n)

-- the CPU lists the keys of the maps, if none of its jobs waits and it lists at all; the store stays
abbrev pub Lists : World → ℕ → World → Type 0
Lists w c z =
    (SomeWaits w.jobs c × (z ≡ w))
    ⊎ (NoneWaits w.jobs c
    × (z ≡ record w { lists = put w.lists c (listed_now w.store (w.lists c)) }))

-- then it stays in hand; or it has an outcome and ends, and with its last job the CPU lists
abbrev pub Settles : World → ℕ → ℕ → Task → Cpu → ℕ → Option Outcome → Turn → World → Type 0
Settles w c j task new left None answer z =
    (answer ≡ turn.Ran) × (z ≡ record w { jobs = with_stage w.jobs j task (InHand new left) })
Settles w c j task new left (Some end) answer z =
    (s : Plain) × PlainlyAllowed w.store c End s × (answer ≡ turn.Ended j end)
    × Lists (record w { store = s; jobs = with_stage w.jobs j task (Ended end) }) c z

-- the CPU goes on with a job, from this state and with this many steps left
abbrev pub GoesOn : World → ℕ → ℕ → Task → Cpu → ℕ → Turn → World → Type 0
GoesOn w c j task old left answer z =
    (program : Loaded) × (end : Option Outcome) × (s : Plain) × (new : Cpu) × (rest : ℕ)
    × (slice_get w.programs task.program ≡ Some program)
    × Advances program c w.store old left end s new rest
    × Settles (record w { store = s }) c j task new rest end answer z

-- one turn of a CPU: it goes on with the job that it has in hand; or it begins its lowest waiting
-- job, and goes on with that; or it has no work, and nothing changes
abbrev pub TakesTurn : World → ℕ → Turn → World → Type 0
TakesTurn w c answer z =
    ((j : ℕ) × (task : Task) × (state : Cpu) × (left : ℕ) × IsAt w.jobs c j task (InHand state left)
    × GoesOn w c j task state left answer z)
    ⊎ (IsFree w.jobs c × ((j : ℕ) × (task : Task) × (input : Input) × (s : Plain)
    × IsAt w.jobs c j task (Waiting input) × NoneWaitsBelow w.jobs c j
    × PlainlyAllowed w.store c Begin s
    × GoesOn (record w { store = s }) c j task (start c input) task.budget answer z))
    ⊎ (IsFree w.jobs c × NoneWaits w.jobs c × (answer ≡ turn.Idle) × (z ≡ w))

-- the run of a schedule: its turns, in order
abbrev pub RunsSchedule : World → List ℕ → World → Type 0
RunsSchedule w [] z = z ≡ w
RunsSchedule w (c ∷ cs) z =
    (answer : Turn) × (m : World) × TakesTurn w c answer m × RunsSchedule m cs z

-- the schedule that is given by CPUs, each with how many turns it takes before the next
abbrev pub unrolled : List (ℕ × ℕ) → List ℕ
unrolled [] = []
unrolled (run ∷ runs) = replicate run.1 run.0 ++ unrolled runs
