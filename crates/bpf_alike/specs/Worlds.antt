-- Jobs that are the same but for registers that are written before they are read.
use Rattle.std.specs.Prelude.{◌≡◌, ◌⊎◌, ℕ, zero, suc, List, [], ◌∷◌, Some, slice_get, slice_index_or}
use Rattle.bpf_loader.specs.Loaded.{Loaded}
use Rattle.bpf_cpu.specs.declared.cpu.Cpu.{Cpu}
use Rattle.bpf_cpu.specs.Task.{Task, InHand}
use Rattle.bpf_live.specs.Alike.{AreAlike}
use Rattle.bpf_live.specs.Live.{IsLiveTable, Table}
use Rattle.bpf_machine.specs.Headways.{with_jobs}
use Rattle.bpf_machine.specs.Schedule.{World}

-- which registers are live, by the number of a program: all, where there is no table
abbrev pub table_at : List Table → ℕ → Table
table_at tables n = slice_index_or tables n []

-- each table is right for its program
abbrev pub AreLiveTables : List Loaded → (ℕ → Table) → Type 0
AreLiveTables programs tables = (n : ℕ) (program : Loaded) → slice_get programs n ≡ Some program
    → IsLiveTable program.instructions (tables n)

-- the states are alike by this many tables that are right for the program, one after the other
abbrev pub AreAlikeIn : Loaded → ℕ → Cpu → Cpu → Type 0
AreAlikeIn program zero a b = b ≡ a
AreAlikeIn program (suc n) a b =
    (table : Table) × (mid : Cpu) × IsLiveTable program.instructions table
    × AreAlike program table a mid × AreAlikeIn program n mid b

-- by some
abbrev pub AreLike : Loaded → Cpu → Cpu → Type 0
AreLike program a b = (n : ℕ) × AreAlikeIn program n a b

-- the same job, or one in hand whose state is alike
abbrev pub IsAlike : List Loaded → Task → Task → Type 0
IsAlike programs old new =
    (new ≡ old)
    ⊎ ((program : Loaded) × (state : Cpu) × (left : ℕ) × (other : Cpu)
    × (slice_get programs old.program ≡ Some program) × (old.stage ≡ InHand state left)
    × (new ≡ record old { stage = InHand other left }) × AreLike program state other)

-- each of the jobs is
abbrev pub AllAlike : List Loaded → List Task → List Task → Type 0
AllAlike programs [] [] = Unit {0}
AllAlike programs [] (new ∷ news) = ⊥
AllAlike programs (old ∷ olds) [] = ⊥
AllAlike programs (old ∷ olds) (new ∷ news) =
    IsAlike programs old new × AllAlike programs olds news

-- this is so of a world, but for dead registers
abbrev pub ButForDead : (World → Type 0) → World → Type 0
ButForDead P w =
    (jobs : List Task) × AllAlike w.programs w.jobs jobs × P (with_jobs w jobs)
