-- The turns that a session has made: its course, as it is printed and kept (our own choice).
use Rattle.std.specs.Prelude.{◌≡◌, ℕ, ◌+◌, ◌-◌, ◌<◌, ◌==◌, ◌&&◌, nat_lt, if◌then◌else◌, List, [], ◌∷◌, ◌++◌, Option, Some, None, codes}
use Rattle.std.specs.Prelude.{length, option_map, slice_index_or, take}
use Rattle.bpf_schedule.specs.Spelling.{runs_text}
use Rattle.bpf_machine.specs.Schedule.{unrolled}
use Rattle.bpf_debug.specs.Command.{most_turns}

-- one turn more: of the last run, where that is of the CPU and may have one more, or else a run of
-- its own
abbrev pub with_turn : List (ℕ × ℕ) → ℕ → List (ℕ × ℕ)
with_turn [] c = (c, 1) ∷ []
with_turn (run ∷ []) c =
    if (run.0 == c) && nat_lt run.1 most_turns then (c, run.1 + 1) ∷ [] else run ∷ (c, 1) ∷ []
with_turn (run ∷ next ∷ runs) c = run ∷ with_turn (next ∷ runs) c

-- some turns more, in their order
abbrev pub with_turns : List (ℕ × ℕ) → List ℕ → List (ℕ × ℕ)
with_turns runs [] = runs
with_turns runs (c ∷ turns) = with_turns (with_turn runs c) turns

-- THE RUN LENGTHS OF TURNS
abbrev pub runs_of : List ℕ → List (ℕ × ℕ)
runs_of turns = with_turns [] turns

-- they are reported as the command that makes them
abbrev pub course_line : List ℕ → List ℕ
course_line turns =
    codes "steps" ++ runs_text (length (runs_of turns)) (runs_of turns) ++ codes "\n"

-- ---- what is kept of turns: their run lengths, as long as there is room

abbrev pub IsKept : Option (List (ℕ × ℕ)) → List ℕ → Type 0
IsKept None turns = Unit {0}
IsKept (Some runs) turns = runs ≡ runs_of turns

-- whatever turns were kept, these after them are kept then
abbrev pub KeepsOn : Option (List (ℕ × ℕ)) → List ℕ → Option (List (ℕ × ℕ)) → Type 0
KeepsOn old more new = (turns : List ℕ) → IsKept old turns → IsKept new (turns ++ more)

-- ---- turns undone

-- these turns without the last n
abbrev pub turns_before : List ℕ → ℕ → List ℕ
turns_before turns n = take (length turns - n) turns

-- whose turn the first of the last n is
abbrev pub cpu_before : List ℕ → ℕ → ℕ
cpu_before turns n = slice_index_or turns (length turns - n) 0

-- each run has a turn
abbrev pub HaveTurns : List (ℕ × ℕ) → Type 0
HaveTurns [] = Unit {0}
HaveTurns (run ∷ runs) = (0 < run.1) × HaveTurns runs

-- one turn less of runs that have turns: the last, and this is the CPU whose it was
abbrev pub DropsTurn : List (ℕ × ℕ) → List (ℕ × ℕ) → ℕ → Type 0
DropsTurn old new c =
    (runs : List (ℕ × ℕ)) (d : ℕ) → HaveTurns runs → old ≡ with_turn runs d
    → (new ≡ runs) × (c ≡ d)

-- of all turns that were kept so, the last n are kept no more, and this CPU is that of the first of
-- them
abbrev pub TakesBack : List (ℕ × ℕ) → ℕ → List (ℕ × ℕ) → ℕ → Type 0
TakesBack old n new c =
    (turns more : List ℕ) → length more ≡ n → old ≡ runs_of (turns ++ more)
    → (new ≡ runs_of turns) × (c ≡ slice_index_or more 0 0)

-- how many turns are kept, where they are
abbrev pub count_of : Option (List (ℕ × ℕ)) → Option ℕ
count_of = option_map (λ runs. length (unrolled runs))

-- fewer than n turns are kept
abbrev pub AreFewer : Option ℕ → ℕ → Type 0
AreFewer None n = ⊥
AreFewer (Some count) n = count < n
