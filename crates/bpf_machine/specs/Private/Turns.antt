-- Turns of the one CPU that has work.
use Rattle.std.specs.Prelude.{◌≡◌, ◌≢◌, ℕ, zero, suc, List, ◌⊎◌, Some, None}
use Rattle.bpf_shared.specs.Store.{Plain}
use Rattle.bpf_loader.specs.Loaded.{Loaded}
use Rattle.bpf_cpu.specs.declared.cpu.Cpu.{Cpu}
use Rattle.bpf_cpu.specs.declared.outcome.Outcome.{Outcome}
use Rattle.bpf_machine.specs.declared.machine.rounds.Worked.{Worked}
use Rattle.bpf_machine.specs.declared.machine.rounds.Worked.TheVariants.{Nobody, One, More}
use Rattle.bpf_cpu.specs.Saved.{IsOfOneJob}
use Rattle.bpf_cpu.specs.Task.{Task, InHand, Ended}
use Rattle.bpf_machine.specs.Hands.{IsAt, IsFree, NoneWaits, with_stage}
use Rattle.bpf_machine.specs.Schedule.{Advances}

-- no other CPU has work
abbrev pub IsAlone : List Task → ℕ → Type 0
IsAlone jobs cpu = (d : ℕ) → d ≢ cpu → IsFree jobs d × NoneWaits jobs d

-- who had work, where this CPU has had some, too
abbrev pub with_worked : Worked → ℕ → Worked
with_worked Nobody cpu = One cpu
with_worked (One other) cpu = More
with_worked More cpu = More

-- a job in hand goes on for this many turns, and with the next one it ends so
abbrev pub Lasts : Loaded → ℕ → ℕ → Plain → Cpu → ℕ → Outcome → Plain → Type 0
Lasts program c zero s old left end t =
    (new : Cpu) × (rest : ℕ) × Advances program c s old left (Some end) t new rest
Lasts program c (suc n) s old left end t =
    (m : Plain) × (mid : Cpu) × (rest : ℕ) × Advances program c s old left None m mid rest
    × Lasts program c n m mid rest end t

-- the job in the CPU's hand stays there, or has ended
abbrev pub StaysOrEnds : List Task → ℕ → ℕ → List Task → Type 0
StaysOrEnds old c j new =
    (task : Task) × (state : Cpu) × (left : ℕ) × IsAt old c j task (InHand state left)
    × (((later : Cpu) × (rest : ℕ) × IsOfOneJob state later
    × (new ≡ with_stage old j task (InHand later rest)))
    ⊎ ((end : Outcome) × (new ≡ with_stage old j task (Ended end))))
