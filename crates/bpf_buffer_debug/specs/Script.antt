-- What a script, lines one after the other, is answered (our own choice).
use Rattle.std.specs.Prelude.{◌≡◌, ℕ, ◌⊎◌, true, List, [], ◌∷◌, Option, Some, None, Ok, Err}
use Rattle.bpf_lines.specs.Lines.{fields_of}
use Rattle.bpf_debug.specs.declared.error.DebugError.TheVariants as error
use Rattle.bpf_debug.specs.Script.{Answer}
use Rattle.bpf_buffer_debug.specs.Session.{Scene, SessionState, IsShown, Obeys, IsLineRefused}

-- what a line is answered, and what is there after it: what it says is done; or it is refused, and
-- changes nothing, unless memory ran out in the middle of a move: then there is no scene any more, and
-- each line that says something is refused
abbrev pub AnswersLine : Option Scene → List ℕ → Answer → Option Scene → Type 0
AnswersLine None line (Ok text) y = (fields_of line ≡ []) × (text ≡ []) × (y ≡ None)
AnswersLine None line (Err e) y = (line ≡ [] → ⊥) × (e ≡ error.OutOfMemory) × (y ≡ None)
AnswersLine (Some x) line (Ok text) y =
    (z : Scene) × Obeys x (fields_of line) text z × (y ≡ Some z)
AnswersLine (Some x) line (Err e) y =
    IsLineRefused x (fields_of line) e
    × ((y ≡ Some x) ⊎ ((e ≡ error.OutOfMemory) × (y ≡ None)))

-- an answer for each line, in their order
abbrev pub RunsScript : Option Scene → List (List ℕ) → List Answer → Option Scene → Type 0
RunsScript x [] [] y = y ≡ x
RunsScript x (line ∷ lines) (answer ∷ answers) y =
    (m : Option Scene) × AnswersLine x line answer m × RunsScript m lines answers y
RunsScript x [] (answer ∷ answers) y = ⊥
RunsScript x (line ∷ lines) [] y = ⊥

-- ---- what a session shows: a scene, or none any more
abbrev pub ShowsScene : SessionState → Option Scene → Type 0
ShowsScene s None = s.lost ≡ true
ShowsScene s (Some x) = IsShown s x
