-- Both kinds of runs stay and join, leave of jobs what turns leave, and are permuted.
use Rattle.std.proofs.Common.{◌≡◌, ℕ, zero, suc, List, [], ◌∷◌, ◌++◌, Some, inl, inr, length, refl, sym, ap, subst}
use Rattle.std.specs.Prelude.{slice_get}
use Rattle.bpf_cpu.specs.Task.{Stage, Task}
use Rattle.bpf_machine.specs.Ends.{RunsFreely}
use Rattle.bpf_machine.specs.Headways.{with_jobs}
use Rattle.bpf_machine.specs.Patient.{AsRich, IsRicher}
use Rattle.bpf_machine.specs.Schedule.{RunsSchedule, World}
use Rattle.bpf_equal.proofs.Freely.{free_runs_are_permuted}
use Rattle.bpf_equal.proofs.Turns.{schedules_are_permuted}
use Rattle.bpf_explore.specs.Private.Peers.{AreStill}
use Rattle.bpf_explore.specs.Private.Spread.{AreRuns}
use Rattle.bpf_explore.proofs.PeerLaws.{runs_still, still_on, turned_still}
use Rattle.bpf_explore.proofs.TrailLaws.{free_runs_join, schedules_join}

pub strict_runs : AreRuns RunsSchedule
strict_runs = record {
  join = schedules_join;
  still = runs_still;
  permuted = λ cpus jobs w v z schedule p runs. schedules_are_permuted cpus jobs w v z schedule p runs;
}

-- a richer job has the same CPU, program and budget
richer_still : (task new : Task) → IsRicher task new → (new.cpu ≡ task.cpu) × (new.program ≡ task.program) × (new.budget ≡ task.budget)
richer_still task new (inl same) = (ap (λ (t : Task). t.cpu) same, ap (λ (t : Task). t.program) same, ap (λ (t : Task). t.budget) same)
richer_still task new (inr (state, left, more, at, is)) =
    (ap (λ (t : Task). t.cpu) is, ap (λ (t : Task). t.program) is, ap (λ (t : Task). t.budget) is)

rich_many : (old new : List Task) → AsRich old new → length new ≡ length old
rich_many [] [] rich = refl
rich_many [] (y ∷ ys) rich = absurd rich
rich_many (x ∷ xs) [] rich = absurd rich
rich_many (x ∷ xs) (y ∷ ys) rich = ap suc (rich_many xs ys rich.1)

rich_each : (old new : List Task) → AsRich old new → (i : ℕ) (task : Task) → slice_get new i ≡ Some task → (was : Task) × (slice_get old i ≡ Some was)
    × (task.cpu ≡ was.cpu) × (task.program ≡ was.program) × (task.budget ≡ was.budget)
rich_each [] [] rich i task at = cc
rich_each [] (y ∷ ys) rich i task at = absurd rich
rich_each (x ∷ xs) [] rich i task at = cc
rich_each (x ∷ xs) (y ∷ ys) rich zero task at =
    let same : y ≡ task = cc in
    let r = richer_still x task (subst (IsRicher x) same rich.0) in
    (x, refl, r.0, r.1, r.2)
rich_each (x ∷ xs) (y ∷ ys) rich (suc i) task at = rich_each xs ys rich.1 i task at

rich_still : (old new : List Task) → AsRich old new → AreStill old new
rich_still old new rich = record { many = rich_many old new rich; each = rich_each old new rich }

free_still : (cs : List ℕ) (w z : World) → RunsFreely w cs z → AreStill w.jobs z.jobs
free_still [] w z (jobs, rich, same) = subst (λ (x : World). AreStill w.jobs x.jobs) (sym same) (rich_still w.jobs jobs rich)
free_still (c ∷ cs) w z (jobs, answer, m, rich, taken, rest) =
    still_on w.jobs jobs z.jobs (rich_still w.jobs jobs rich)
    (still_on jobs m.jobs z.jobs (turned_still (with_jobs w jobs) m c answer taken) (free_still cs m z rest))

pub free_runs : AreRuns RunsFreely
free_runs = record {
  join = free_runs_join;
  still = free_still;
  permuted = λ cpus jobs w v z schedule p runs. free_runs_are_permuted cpus jobs w v z schedule p runs;
}
