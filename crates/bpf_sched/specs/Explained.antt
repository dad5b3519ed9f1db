-- What explains how all jobs of a store ended: one history of the store, after what its CPUs had
-- done before.
use Rattle.std.specs.Prelude.{◌≡◌, ℕ, suc, ◌+◌, ◌-◌, ◌<◌, ◌^◌, Bool, true, false, ◌==◌, if◌then◌else◌, List, [], ◌∷◌, ◌++◌, Some, filter, length, slice_get}
use Rattle.bpf_shared.specs.declared.events.Event.{Event}
use Rattle.bpf_shared.specs.declared.events.Event.TheVariants.{Keys}
use Rattle.bpf_shared.specs.declared.events.Entry.{Entry}
use Rattle.bpf_shared.specs.declared.shapes.MapShape.{MapShape}
use Rattle.bpf_shared.specs.Shape.{Shape}
use Rattle.bpf_shared.specs.Store.{Plain, as_made}
use Rattle.bpf_shared.specs.History.{IsLegal, Legal, events_of}
use Rattle.hop_words.specs.Shortage.{HaveCauses}
use Rattle.bpf_shared.specs.Own.{turns_of}
use Rattle.bpf_loader.specs.Loaded.{Loaded}
use Rattle.bpf_cpu.specs.declared.input.Input.{Input}
use Rattle.bpf_cpu.specs.declared.outcome.Outcome.{Outcome}
use Rattle.bpf_cpu.specs.Input.{no_input}
use Rattle.bpf_cpu.specs.State.{start}
use Rattle.bpf_cpu.specs.Step.{Explains}
use Rattle.bpf_cpu.specs.Task.{Task, Stage, Waiting, InHand, Ended}

-- ---- one job

-- what a job that waits is given
abbrev pub waiting_input : Stage → Input
waiting_input (Waiting input) = input
waiting_input (InHand state left) = no_input
waiting_input (Ended outcome) = no_input

-- a run counter that began with this count can't count another run: it has its last value but one
abbrev pub IsWorn : ℕ → List Event → Type 0
IsWorn count before = count + turns_of before ≡ 2 ^ 64 - 2

-- these events of the job's CPU, after those that it had before, explain how the job ended
pub record ExplainsJob (shape : Shape) (count : ℕ) (programs : List Loaded) (task : Task)
    (end : Outcome) (before events : List Event) : Type 0 where
  pub program : Loaded
  pub listed : slice_get programs task.program ≡ Some program
  pub explained : Explains (IsWorn count before) shape program task.budget
      (start task.cpu (waiting_input task.stage)) events end

-- ---- lists of keys

-- listings of the maps from the m-th on, one after the other, which find these keys
abbrev pub keys_events : ℕ → List (List (List ℕ)) → List Event
keys_events m [] = []
keys_events m (found ∷ more) = Keys m found ∷ keys_events (suc m) more

-- the maps that a CPU with these jobs lists: all, where lists are asked for, if it has a job
abbrev pub listed_maps : Bool → List MapShape → List Task → List MapShape
listed_maps false maps tasks = []
listed_maps true maps [] = []
listed_maps true maps (task ∷ tasks) = maps

-- ---- the jobs of one CPU

abbrev pub jobs_of : ℕ → List Task → List Task
jobs_of c tasks = filter (λ task. task.cpu == c) tasks

-- of the second list, what is at the places where the first passes the test
abbrev pub picked : {A B : Type 0} → (A → Bool) → List A → List B → List B
picked test [] ys = []
picked test (x ∷ xs) [] = []
picked test (x ∷ xs) (y ∷ ys) = if test x then y ∷ picked test xs ys else picked test xs ys

-- how they ended, where `ends` says it of all jobs
abbrev pub ends_of : ℕ → List Task → List Outcome → List Outcome
ends_of c tasks ends = picked (λ task. task.cpu == c) tasks ends

-- the events are those of these jobs, in the jobs' order, and explain how each ended; and then
-- these last ones
abbrev pub ExplainsJobs : Shape → ℕ → List Loaded → List Event → List Task → List Outcome
    → List Event → List Event → Type 0
ExplainsJobs shape count programs before [] [] last events = events ≡ last
ExplainsJobs shape count programs before (task ∷ tasks) (end ∷ ends) last events =
    (mine : List Event) × (rest : List Event) × (events ≡ mine ++ rest)
    × ExplainsJob shape count programs task end before mine
    × ExplainsJobs shape count programs (before ++ mine) tasks ends last rest
ExplainsJobs shape count programs before _ _ last events = ⊥

-- ---- all jobs

-- of a store of this shape, whose run counters began with this count: the history is a legal one of
-- it, which begins with this first one; and after that it has of each CPU the events of that CPU's
-- jobs, in the jobs' order, which explain how each job ended; then, where lists are asked for and the
-- CPU has a job, one listing of each map, in the maps' order; and no others. `lists` says what each
-- CPU has listed, by map
pub record IsExplained (h : Shape) (count : ℕ) (first : List Entry) (programs : List Loaded)
    (tasks : List Task) (keys : Bool) (ends : List Outcome) (lists : ℕ → List (List (List ℕ)))
    (history : List Entry) : Type 0 where
  pub legal : IsLegal h history
  pub rest : List Entry
  pub begins : history ≡ first ++ rest
  pub each_ended : length ends ≡ length tasks
  pub each_has_cpu : (task : Task) (j : ℕ) → slice_get tasks j ≡ Some task → task.cpu < h.cpus
  pub each_listed : (c : ℕ) → c < h.cpus
      → length (lists c) ≡ length (listed_maps keys h.maps (jobs_of c tasks))
  pub explained : (c : ℕ) → c < h.cpus → ExplainsJobs h count programs (events_of c first)
      (jobs_of c tasks) (ends_of c tasks ends) (keys_events 0 (lists c)) (events_of c rest)

-- ---- the last store

-- the history leads from a store of this shape, whose segments' versions began with this one, to the
-- last; on the way there its answers of a shortage have their causes
pub record LeadsTo (h : Shape) (version : ℕ) (history : List Entry) (last : Plain) : Type 0 where
  pub legal : Legal (as_made h) history last
  pub causes : HaveCauses h version history last
