-- Turns that are made and printed.
use Rattle.std.specs.Prelude.{◌≡◌, ℕ, List, ◌++◌}
use Rattle.bpf_machine.specs.declared.machine.Turn.{Turn}
use Rattle.bpf_machine.specs.Happenings.{Happening, Happens, RunsWith, RunsRoundsWith}
use Rattle.bpf_machine.specs.Rounds.{below}
use Rattle.bpf_machine.specs.Machine.{MachineState, Shows}
use Rattle.bpf_machine.specs.Schedule.{World, TakesTurn}
use Rattle.bpf_events.specs.Lines.{history_lines}

-- what leads from the worlds that the first machine shows to those of the second, and happens
-- meanwhile, is printed after the first text
abbrev pub AreTold : (World → List Happening → World → Type 0) → List (List ℕ) → MachineState
    → List ℕ → MachineState → List ℕ → Type 0
AreTold leads names old text new later = (w : World) → Shows old w → (z : World)
    × (log : List Happening) × leads w log z × Shows new z
    × (later ≡ text ++ history_lines names log)

-- one turn of a CPU
abbrev pub OneTurn : ℕ → Turn → World → List Happening → World → Type 0
OneTurn c answer w log z = TakesTurn w c answer z × Happens w c answer log

-- the turns of a schedule
abbrev pub Turns : List ℕ → World → List Happening → World → Type 0
Turns schedule w log z = RunsWith w schedule log z

-- a round
abbrev pub ARound : World → List Happening → World → Type 0
ARound w log z = RunsWith w (below w.store.shape.cpus) log z

-- rounds
abbrev pub SomeRounds : World → List Happening → World → Type 0
SomeRounds w log z = (n : ℕ) × RunsRoundsWith n w log z
