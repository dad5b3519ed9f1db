-- Jobs that are compared in any order of those that are equal.
use Rattle.std.specs.Prelude.{◌≡◌, ℕ, ◌⊎◌, List, Some, slice_get}
use Rattle.bpf_loader.specs.Loaded.{Loaded}
use Rattle.bpf_cpu.specs.declared.cpu.Cpu.{Cpu}
use Rattle.bpf_cpu.specs.Task.{Stage, Task, InHand}
use Rattle.bpf_live.specs.Alike.{AreAlike}
use Rattle.bpf_live.specs.Live.{Table}
use Rattle.bpf_machine.specs.Headways.{with_jobs}
use Rattle.bpf_machine.specs.Schedule.{World}
use Rattle.bpf_alike.specs.Worlds.{AllAlike, AreLiveTables, table_at}
use Rattle.bpf_equal.specs.Groups.{IsOfPeers}
use Rattle.bpf_equal.specs.Peers.{Peer}
use Rattle.bpf_equal.specs.Worlds.{AreOneStage, ArePermuted}

-- the stages are the same, or in hand with as many steps left, in states that are alike by a table
abbrev pub IsLikeStage : Table → Stage → Stage → Type 0
IsLikeStage table old new = (new ≡ old)
    ⊎ ((state : Cpu) × (left : ℕ) × (other : Cpu) × (old ≡ InHand state left)
    × (new ≡ InHand other left) × ((program : Loaded) → AreAlike program table state other))

-- so they are where the one gets other marks
abbrev pub IsLikeUnmarked : Table → Stage → Stage → Type 0
IsLikeUnmarked table old new =
    (mid : Stage) × AreOneStage old mid × IsLikeStage table mid new

-- the program of each of the jobs is there
abbrev pub AreLoaded : List Loaded → List Task → Type 0
AreLoaded programs jobs = (j : ℕ) (task : Task) → slice_get jobs j ≡ Some task
    → (program : Loaded) × (slice_get programs task.program ≡ Some program)

-- where tables are right for the programs, a world of the ones of these jobs leads to one whose jobs are
-- alike the others, by exchanges of equal CPUs
abbrev pub AreAlikeElsewhere : List Peer → List Table → List Task → List Task → Type 0
AreAlikeElsewhere peers tables old new =
    (w : World) → w.jobs ≡ old → IsOfPeers peers w → AreLiveTables w.programs (table_at tables)
    → AreLoaded w.programs old
    → (jobs : List Task) × ArePermuted peers w (with_jobs w jobs) × AllAlike w.programs jobs new
