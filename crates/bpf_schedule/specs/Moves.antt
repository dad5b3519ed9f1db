-- How schedules of moves are spelled: turns of CPUs, and flushes of their buffers, each with how often.
-- Our own choice. A number below 128 is a CPU's turn; 128 more is a flush of its buffer.
use Rattle.std.specs.Prelude.{◌≡◌, ℕ, zero, suc, ◌+◌, ◌-◌, ◌^◌, ◌<◌, ◌==◌, ◌++◌, Bool, nat_lt, if◌then◌else◌, List, [], All, Any, Option}
use Rattle.std.specs.Prelude.{Some, None, option_map, option_and_then, codes, length, map, slice_index_or}
use Rattle.std.specs.Fmt.{decimal}
use Rattle.std.specs.List.{before_first}
use Rattle.bpf_lines.specs.Lines.{fields_of}
use Rattle.bpf_schedule.specs.Spelling.{is_star, number_below, count_in}

-- a CPU's turn, or the flush of its buffer
abbrev pub mover_text : ℕ → List ℕ
mover_text move = if nat_lt move 128 then decimal move else decimal (move - 128) ++ codes "!"

-- so often
abbrev pub moves_text : ℕ × ℕ → List ℕ
moves_text run = codes " " ++ mover_text run.0 ++ codes "*" ++ decimal run.1

-- the first n of a schedule
abbrev pub all_moves_text : ℕ → List (ℕ × ℕ) → List ℕ
all_moves_text zero runs = []
all_moves_text (suc n) runs = all_moves_text n runs ++ moves_text (slice_index_or runs n (0, 0))

-- ---- what is read of it

abbrev pub is_mark : ℕ → Bool
is_mark b = b == 33

-- with so many bytes from the first mark on
abbrev pub marked : ℕ → ℕ → Option ℕ
marked c n = if n == 0 then Some c else if n == 1 then Some (128 + c) else None

-- a CPU's number below 128 is its turn, and with a mark after it the flush of its buffer
abbrev pub mover_in : List ℕ → Option ℕ
mover_in word =
    option_and_then (λ c. marked c (length word - length (before_first is_mark word)))
    (number_below 128 (before_first is_mark word))

-- THE MOVES THAT A WORD SPELLS, if it does: which, and how often
abbrev pub moves_in : List ℕ → Option (ℕ × ℕ)
moves_in word =
    option_and_then (λ m. option_map (λ n. (m, n)) (count_in word)) (mover_in (before_first is_star word))

-- each word spells the moves of its place
abbrev pub SpellMoves : List (List ℕ) → List (ℕ × ℕ) → Type 0
SpellMoves words runs = map moves_in words ≡ map (λ run. Some run) runs

-- some word spells none
abbrev pub SpellNoMoves : List (List ℕ) → Type 0
SpellNoMoves words = Any (λ word. moves_in word ≡ None) words

-- ---- what is printed is read back

abbrev pub IsMoves : ℕ × ℕ → Type 0
IsMoves run = (run.0 < 2 ^ 8) × (run.1 < 2 ^ 64)

abbrev pub MovesAreReadBack : Type 0
MovesAreReadBack =
    (runs : List (ℕ × ℕ)) → All IsMoves runs → SpellMoves (fields_of (all_moves_text (length runs) runs)) runs
