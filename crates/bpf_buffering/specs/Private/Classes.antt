-- Kept states that count as one with others: those that differ only in dead registers.
use Rattle.std.specs.Prelude.{◌≡◌, ℕ, List, Some, slice_get, slice_index_or}
use Rattle.bpf_loader.specs.Loaded.{Loaded}
use Rattle.bpf_cpu.specs.Task.{Task}
use Rattle.bpf_live.specs.Live.{Table}
use Rattle.bpf_alike.specs.Worlds.{AllAlike, AreLiveTables, IsAlike, table_at}
use Rattle.bpf_machine.specs.Parts.{chosen, no_task}
use Rattle.bpf_buffering.specs.Private.Kept.{Numbers}

-- the program of each of the jobs is there
abbrev pub AreLoaded : List Loaded → List Task → Type 0
AreLoaded programs jobs = (j : ℕ) (task : Task) → slice_get jobs j ≡ Some task
    → (program : Loaded) × (slice_get programs task.program ≡ Some program)

-- the one job is alike the other, where the tables are right for the programs, and its own is there
abbrev pub IsLikeJob : List Table → Task → Task → Type 0
IsLikeJob tables job other = (programs : List Loaded) (program : Loaded)
    → AreLiveTables programs (table_at tables) → slice_get programs job.program ≡ Some program
    → IsAlike programs job other

-- the job of a number
abbrev pub job_at : List Task → ℕ → Task
job_at jobs n = slice_index_or jobs n no_task

-- the jobs of the ones of these numbers are alike those of the others, where the tables are right for
-- their programs
abbrev pub AreLikeJobs : List Table → List Task → List ℕ → List ℕ → Type 0
AreLikeJobs tables jobs numbers others = (programs : List Loaded)
    → AreLiveTables programs (table_at tables) → AreLoaded programs (chosen jobs numbers)
    → AllAlike programs (chosen jobs numbers) (chosen jobs others)

-- the states of these numbers have the same store and buffers, and jobs that are alike
pub record IsLikeState (tables : List Table) (jobs : List Task) (one other : Numbers) : Type 0 where
  pub store : other.store ≡ one.store
  pub buffers : other.buffers ≡ one.buffers
  pub alike : AreLikeJobs tables jobs one.jobs other.jobs

-- so has the n-th of these
abbrev pub IsLikeAt : List Table → List Task → List Numbers → Numbers → ℕ → Type 0
IsLikeAt tables jobs kept one n =
    (other : Numbers) × (slice_get kept n ≡ Some other) × IsLikeState tables jobs one other
