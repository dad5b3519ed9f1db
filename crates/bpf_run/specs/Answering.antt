-- What the debugger answers lines, as a conversation asks it.
use Rattle.std.specs.Prelude.{◌≡◌, ℕ, Bool, List, Option, is_err}
use Rattle.bpf_debug.specs.Session.{Scene, SessionState, IsShown}
use Rattle.bpf_debug.specs.Script.{Answer, AnswersLine, answer_text}
use Rattle.bpf_buffer_debug.specs.Session as buffers
use Rattle.bpf_buffer_debug.specs.Script as buffer_script
use Rattle.bpf_buffer_debug.specs.Script.{ShowsScene}

-- a line's answer, with what is printed of it and whether it is a refusal, leads from one scene to
-- another
abbrev pub AnswersText : Scene → Scene → (line text : List ℕ) → (refused : Bool) → Type 0
AnswersText x y line text refused = (answer : Answer) × AnswersLine x line answer y
    × (text ≡ answer_text answer) × (refused ≡ is_err answer)

-- so it is of whatever scene a session shows
abbrev pub SessionAnswers : SessionState → SessionState → (line text : List ℕ) → (refused : Bool)
    → Type 0
SessionAnswers old new line text refused = (x : Scene) → IsShown old x
    → (y : Scene) × AnswersText x y line text refused × IsShown new y

-- ---- with store buffers

abbrev pub AnswersBufferText : Option buffers.Scene → Option buffers.Scene → (line text : List ℕ)
    → (refused : Bool) → Type 0
AnswersBufferText x y line text refused = (answer : Answer) × buffer_script.AnswersLine x line answer y
    × (text ≡ answer_text answer) × (refused ≡ is_err answer)

abbrev pub BufferSessionAnswers : buffers.SessionState → buffers.SessionState
    → (line text : List ℕ) → (refused : Bool) → Type 0
BufferSessionAnswers old new line text refused = (x : Option buffers.Scene) → ShowsScene old x
    → (y : Option buffers.Scene) × AnswersBufferText x y line text refused × ShowsScene new y
