-- How schedules are spelled: CPUs, each with how many turns it makes before the next. Our own
-- choice.
use Rattle.std.specs.Prelude.{◌≡◌, ℕ, zero, suc, ◌^◌, ◌<◌, ◌==◌, ◌++◌, Bool, nat_lt, if◌then◌else◌, List, [], All, Any, Option, Some, None}
use Rattle.std.specs.Prelude.{option_map, option_and_then, codes, length, map, slice_index_or}
use Rattle.std.specs.Fmt.{decimal}
use Rattle.std.specs.List.{before_first, after_first}
use Rattle.bpf_lines.specs.Lines.{fields_of}
use Rattle.bpf_lines.specs.Words.{written_number}

-- this many turns of a CPU
abbrev pub run_text : ℕ × ℕ → List ℕ
run_text run = codes " " ++ decimal run.0 ++ codes "*" ++ decimal run.1

-- the first n of a schedule
abbrev pub runs_text : ℕ → List (ℕ × ℕ) → List ℕ
runs_text zero runs = []
runs_text (suc n) runs = runs_text n runs ++ run_text (slice_index_or runs n (0, 0))

-- ---- what is read of it

-- a word is a number, below the limit
abbrev pub number_below : ℕ → List ℕ → Option ℕ
number_below limit word =
    option_and_then (λ n. if nat_lt n limit then Some n else None) (written_number word)

abbrev pub is_star : ℕ → Bool
is_star b = b == 42

-- how often: what follows the first `*`, or once where there is none
abbrev pub count_in : List ℕ → Option ℕ
count_in word =
    if nat_lt (length (before_first is_star word)) (length word)
    then number_below (2 ^ 64) (after_first is_star word)
    else Some 1

-- THE RUN THAT A WORD SPELLS, if it does: a CPU's number, and how many turns
abbrev pub run_in : List ℕ → Option (ℕ × ℕ)
run_in word = option_and_then (λ c. option_map (λ n. (c, n)) (count_in word))
    (number_below (2 ^ 8) (before_first is_star word))

-- each word spells the run of its place
abbrev pub SpellRuns : List (List ℕ) → List (ℕ × ℕ) → Type 0
SpellRuns words runs = map run_in words ≡ map (λ run. Some run) runs

-- some word spells none
abbrev pub SpellNone : List (List ℕ) → Type 0
SpellNone words = Any (λ word. run_in word ≡ None) words

-- ---- what is printed is read back

abbrev pub IsRun : ℕ × ℕ → Type 0
IsRun run = (run.0 < 2 ^ 8) × (run.1 < 2 ^ 64)

abbrev pub PrintedIsReadBack : Type 0
PrintedIsReadBack =
    (runs : List (ℕ × ℕ)) → All IsRun runs → SpellRuns (fields_of (runs_text (length runs) runs)) runs
