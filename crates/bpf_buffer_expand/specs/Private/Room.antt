-- What an expander reads states into.
use Rattle.std.specs.Prelude.{◌≡◌, ℕ, ◌++◌, false, List, None, Some, length, map, slice_get}
use Rattle.std.specs.List.{AllByRecursion}
use Rattle.bpf_shared.specs.Shape.{Shape}
use Rattle.bpf_plain.specs.PlainStore.{Contents, IsSavedAs}
use Rattle.bpf_loader.specs.Loaded.{Loaded}
use Rattle.bpf_cpu.specs.Task.{Task}
use Rattle.bpf_machine.specs.Parts.{CanStand}
use Rattle.bpf_machine.specs.Saved.{jobs_saved, AreLater, ComesFrom}
use Rattle.bpf_buffering.specs.declared.waiting.Stored.{Stored}
use Rattle.bpf_explore.specs.Stores.{IsOfShape}
use Rattle.bpf_expand.specs.State.{Host}
use Rattle.bpf_expand.specs.Private.Home.{CountUp}
use Rattle.bpf_buffer_expand.specs.Saved.{buffers_saved, AreSavable}
use Rattle.bpf_buffer_expand.specs.State.{AreBuffers}
use Rattle.bpf_buffer_expand.specs.declared.room.Room.{Room}

-- each of the jobs is one that was the first of its number
pub record AreFrom (first jobs : List Task) : Type 0 where
  pub count : length jobs ≡ length first
  pub each : (j : ℕ) (one task : Task) → slice_get first j ≡ Some one → slice_get jobs j ≡ Some task
      → ComesFrom one task

-- a store of the shape; as many jobs as there are, their CPUs, and a number for each
pub record IsRoom (h : Shape) (r : Room) : Type 0 where
  pub shape : IsOfShape h r.store
  pub numbered : CountUp r.numbers.items (length r.first.items)
  pub count : length r.jobs.items ≡ length r.first.items
  pub cpus : r.cpus.items ≡ map (λ task. task.cpu) r.first.items

-- the host of these first jobs and programs
abbrev pub host_with : Shape → List Loaded → List Task → Host
host_with h programs first = record { shape = h; programs = programs; jobs = first; patient = false }

-- jobs that are read, what waits, and a store
pub record AreRead (h : Shape) (first jobs : List Task) (waiting : List (List Stored)) (store : Contents)
    (bytes : List ℕ) : Type 0 where
  pub later : AreLater first jobs
  pub count : length waiting ≡ h.cpus
  pub savable : AllByRecursion AreSavable waiting
  pub shape : IsOfShape h store
  pub saved : (rest : List ℕ) × IsSavedAs store rest
      × (bytes ≡ jobs_saved jobs ++ (buffers_saved waiting ++ rest))

-- they are those of a state
pub record IsRead (h : Shape) (programs : List Loaded) (first jobs : List Task)
    (waiting : List (List Stored)) (store : Contents) (bytes : List ℕ) : Type 0 where
  pub are : AreRead h first jobs waiting store bytes
  pub stands : CanStand (record { store = store; programs = programs; jobs = jobs; lists = None })
  pub fit : AreBuffers h jobs waiting
