-- CPUs that are equal before the first turn.
use Rattle.std.specs.Prelude.{◌≡◌, ℕ, ◌<◌, ◌⊎◌, List, Some, None, map, slice_get}
use Rattle.bpf_shared.specs.Store.{Plain}
use Rattle.bpf_cpu.specs.Task.{Task, outcome_at}
use Rattle.bpf_machine.specs.Schedule.{RunsSchedule, World}
use Rattle.bpf_equal.specs.Permutations.{Exchanges, Permutation, exchanged}
use Rattle.bpf_equal.specs.Worlds.{AreOneStage, IsBlind, IsPermuted, KeepsOrder}

-- both CPUs are in runs, hold values and have them kept, or neither does
pub record AreEqualIn (s : Plain) (c d : ℕ) : Type 0 where
  pub inside : (c < s.shape.cpus) × (d < s.shape.cpus)
  pub running : s.running c ≡ s.running d
  pub held : s.held c ≡ s.held d
  pub kept : s.kept c ≡ s.kept d

-- a job of one of two CPUs, and the same job of the other
pub record IsCounterpart (c d : ℕ) (old new : Task) : Type 0 where
  pub cpu : new.cpu ≡ exchanged c d old.cpu
  pub program : new.program ≡ old.program
  pub budget : new.budget ≡ old.budget
  pub stage : AreOneStage old.stage new.stage

-- the jobs of the two change places so: each is of a blind program, and goes where its counterpart is;
-- those of other CPUs stay
pub record AreEqual (w : World) (c d : ℕ) (jobs : Permutation) : Type 0 where
  pub store : AreEqualIn w.store c d
  pub lists : w.lists c ≡ w.lists d
  pub count : (j : ℕ) → slice_get w.jobs j ≡ None → slice_get w.jobs (jobs.to j) ≡ None
  pub others : (j : ℕ) (task : Task) → slice_get w.jobs j ≡ Some task
      → exchanged c d task.cpu ≡ task.cpu → jobs.to j ≡ j
  pub moved : (j : ℕ) (task : Task) → slice_get w.jobs j ≡ Some task
      → (task.cpu ≡ c) ⊎ (task.cpu ≡ d)
      → IsBlind w.store.shape w.programs task.program
      × ((other : Task) × (slice_get w.jobs (jobs.to j) ≡ Some other) × IsCounterpart c d task other)
  pub order : KeepsOrder w.jobs jobs

-- ---- laws
-- two equal CPUs may be exchanged
abbrev pub EqualCpusAreExchanged : Type 0
EqualCpusAreExchanged =
    (w : World) (c d : ℕ) (jobs : Permutation) → AreEqual w c d jobs
    → (cpus : Permutation) × Exchanges cpus c d × IsPermuted cpus jobs w w

-- so what a schedule leads to, the schedule with both exchanged leads to, and each job ends there as
-- its partner does
abbrev pub OutcomesAreExchanged : Type 0
OutcomesAreExchanged =
    (w z : World) (c d : ℕ) (jobs : Permutation) (schedule : List ℕ) → AreEqual w c d jobs
    → RunsSchedule w schedule z
    → (y : World) × RunsSchedule w (map (exchanged c d) schedule) y
    × ((j : ℕ) → outcome_at y.jobs (jobs.to j) ≡ outcome_at z.jobs j)
