-- What a script, lines one after the other, is answered (our own choice).
use Rattle.std.specs.Prelude.{◌≡◌, ℕ, List, [], ◌∷◌, ◌++◌, Result, Ok, Err, string_bytes, String}
use Rattle.std.specs.declared.alloc.Global.{Global}
use Rattle.bpf_lines.specs.Lines.{fields_of}
use Rattle.bpf_debug.specs.declared.error.DebugError.{DebugError}
use Rattle.bpf_debug.specs.Codes.{refusal_line}
use Rattle.bpf_debug.specs.Session.{Scene, Obeys, IsLineRefused}

-- a line's answer: its text, or why the line is refused
abbrev pub Answer : Type 0
Answer = Result (List ℕ) DebugError

-- what a line is answered, and what is there after it: what it says is done, or it is refused and
-- changes nothing
abbrev pub AnswersLine : Scene → List ℕ → Answer → Scene → Type 0
AnswersLine x line (Ok text) y = Obeys x (fields_of line) text y
AnswersLine x line (Err e) y = IsLineRefused x (fields_of line) e × (y ≡ x)

-- an answer for each line, in their order
abbrev pub RunsScript : Scene → List (List ℕ) → List Answer → Scene → Type 0
RunsScript x [] [] y = y ≡ x
RunsScript x (line ∷ lines) (answer ∷ answers) y =
    (m : Scene) × AnswersLine x line answer m × RunsScript m lines answers y
RunsScript x [] (answer ∷ answers) y = ⊥
RunsScript x (line ∷ lines) [] y = ⊥

-- ---- what is printed

abbrev pub answer_text : Answer → List ℕ
answer_text (Ok text) = text
answer_text (Err e) = refusal_line e

-- the texts of some answers, one after the other
abbrev pub answers_text : List Answer → List ℕ
answers_text [] = []
answers_text (answer ∷ answers) = answer_text answer ++ answers_text answers

-- ---- what a session answers

abbrev pub answer_of : Result (String Global) DebugError → Answer
answer_of (Ok text) = Ok (string_bytes text)
answer_of (Err e) = Err e
