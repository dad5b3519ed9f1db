-- Turns of one CPU, one after the other, and those of a schedule (our own choice).
use Rattle.std.specs.Prelude.{◌≡◌, ℕ, zero, suc, ◌-◌, List, [], ◌∷◌, ◌++◌, length, slice_index_or}
use Rattle.bpf_machine.specs.declared.machine.Turn.{Turn}
use Rattle.bpf_machine.specs.Schedule.{World, TakesTurn}
use Rattle.bpf_debug.specs.Answer.{ended_text}

-- this many turns of the CPU, with the lines of the jobs that end in them
abbrev pub MakesTurns : World → ℕ → ℕ → List ℕ → World → Type 0
MakesTurns w c zero text z = (text ≡ []) × (z ≡ w)
MakesTurns w c (suc n) text z = (m : World) × (before : List ℕ) × (answer : Turn)
    × MakesTurns w c n before m × TakesTurn m c answer z × (text ≡ before ++ ended_text c answer)

-- the turns of a schedule, CPUs each with how many turns it makes before the next, with the lines
-- of the jobs that end in them
abbrev pub MakesRuns : World → List (ℕ × ℕ) → List ℕ → World → Type 0
MakesRuns w [] text z = (text ≡ []) × (z ≡ w)
MakesRuns w (run ∷ runs) text z = (m : World) × (before : List ℕ) × (more : List ℕ)
    × MakesTurns w run.0 run.1 before m × MakesRuns m runs more z × (text ≡ before ++ more)

-- the CPU of a schedule's last run
abbrev pub last_cpu : List (ℕ × ℕ) → ℕ
last_cpu runs = (slice_index_or runs (length runs - 1) (0, 0)).0
