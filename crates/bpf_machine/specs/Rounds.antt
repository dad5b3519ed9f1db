-- Rounds: the schedule in which each CPU with work makes one turn, in rising order, until none has
-- work.
use Rattle.std.specs.Prelude.{◌≡◌, ℕ, zero, suc, List, [], ◌∷◌, ◌++◌, Some, slice_get}
use Rattle.bpf_cpu.specs.declared.outcome.Outcome.{Outcome}
use Rattle.bpf_cpu.specs.Task.{Task, Ended}
use Rattle.bpf_machine.specs.Schedule.{World, RunsSchedule}

-- the numbers below n, in rising order
abbrev pub below : ℕ → List ℕ
below zero = []
below (suc n) = below n ++ n ∷ []

-- a round: one turn of each CPU of the store, in rising order; that of a CPU without work changes
-- nothing
abbrev pub RunsRound : World → World → Type 0
RunsRound w z = RunsSchedule w (below w.store.shape.cpus) z

-- this many rounds, one after the other
abbrev pub RunsRounds : ℕ → World → World → Type 0
RunsRounds zero w z = z ≡ w
RunsRounds (suc n) w z = (m : World) × RunsRounds n w m × RunsRound m z

-- each job has an outcome
abbrev pub HaveEnded : List Task → Type 0
HaveEnded jobs = (j : ℕ) (task : Task) → slice_get jobs j ≡ Some task
    → (outcome : Outcome) × (task.stage ≡ Ended outcome)

-- rounds until no CPU has work
abbrev pub RunsToEnd : World → World → Type 0
RunsToEnd w z = (n : ℕ) × RunsRounds n w z × HaveEnded z.jobs

-- the turns of a schedule, and after them rounds, from CPU 0 on
abbrev pub RunsBy : World → List ℕ → World → Type 0
RunsBy w schedule z = (y : World) × RunsSchedule w schedule y × RunsToEnd y z
