-- A conversation: lines that are read, answered and flushed, one after the other.
use Rattle.std.specs.Prelude.{◌≡◌, ◌⊎◌, ◌<◌, ◌≤◌, ◌+◌, ◌^◌, ◌||◌, ℕ, Bool, true, false, All, IsUtf8, List, [], ◌∷◌, ◌++◌, Result, Ok, Err, codes, length, take}
use Rattle.bpf_lines.specs.Lines.{lines_of}
use Rattle.bpf_talk.specs.Terminal.{Call, bytes_read, bytes_written, before_reads, is_ended, is_flushed, IsPut, IsSaid}
use Rattle.bpf_talk.specs.declared.talking.TheConstants.{MAX_LINE}
use Rattle.bpf_talk.specs.declared.talking.Stop.{Stop}
use Rattle.bpf_talk.specs.declared.talking.Stop.TheVariants as stop
use Rattle.bpf_talk.specs.declared.talking.Talked.{Talked}
use Rattle.bpf_talk.specs.declared.talking.Talked.TheVariants as talked

-- what a line is answered: a text, and whether the line is refused
abbrev pub Told : Type 0
Told = List ℕ × Bool

abbrev pub any_refused : List Told → Bool
any_refused [] = false
any_refused ((text, refused) ∷ tolds) = refused || any_refused tolds

-- which answers to lines lead from one state to another
abbrev pub Answering : Type 0 → Type 1
Answering S = S → S → (line text : List ℕ) → (refused : Bool) → Type 0

-- an answer for each line, in their order
abbrev pub AnswersLines : {S : Type 0} → Answering S → S → List (List ℕ) → List Told → S → Type 0
AnswersLines answers x [] [] y = y ≡ x
AnswersLines answers x (line ∷ lines) ((text, refused) ∷ tolds) y = (m : _)
    × answers x m line text refused × AnswersLines answers m lines tolds y
AnswersLines answers x [] (told ∷ tolds) y = ⊥
AnswersLines answers x (line ∷ lines) [] y = ⊥

-- what is written of a line and its answer; with `--echo` a line that isn't empty is shown
abbrev pub line_text : (echo : Bool) → (line text : List ℕ) → List ℕ
line_text false line text = text
line_text true [] text = text
line_text true (b ∷ bs) text = codes "> " ++ (b ∷ bs) ++ codes "\n" ++ text

-- and of some lines
abbrev pub said : (echo : Bool) → (lines : List (List ℕ)) → List Told → List ℕ
said echo [] tolds = []
said echo (line ∷ lines) [] = []
said echo (line ∷ lines) ((text, refused) ∷ tolds) = line_text echo line text ++ said echo lines tolds

-- these lines, which are text, are answered from the first state on
abbrev pub AreAnswered : {S : Type 0} → Answering S → S → (lines : List (List ℕ)) → List Told → S
    → Type 0
AreAnswered answers x lines tolds y = AnswersLines answers x lines tolds y × All IsUtf8 lines

-- and the answers are written and flushed
abbrev pub AreTold : {S : Type 0} → Answering S → (echo : Bool) → S → (lines : List (List ℕ))
    → List Told → S → List Call → Type 0
AreTold answers echo x lines tolds y calls = AreAnswered answers x lines tolds y
    × (bytes_written calls ≡ said echo lines tolds) × (is_flushed calls ≡ true)

-- every line of which the end was read is answered, in writing that is flushed
abbrev pub IsCaughtUp : {S : Type 0} → Answering S → (echo : Bool) → S → List Call → Type 0
IsCaughtUp answers echo x calls = (lines : List (List ℕ)) × (begun : List ℕ) × (tolds : List Told)
    × (y : _) × (lines_of (bytes_read calls) ≡ lines ++ begun ∷ [])
    × AreTold answers echo x lines tolds y calls

-- so it is wherever more is read
abbrev pub IsInTurn : {S : Type 0} → Answering S → (echo : Bool) → S → List Call → Type 0
IsInTurn answers echo x calls = All (IsCaughtUp answers echo x) (before_reads calls)

-- ---- within a conversation

-- such calls were made that some of what was read is answered, and that these lines are left of it;
-- this many bytes were read, the last read found no more or did, and some command is refused or none
abbrev pub IsAt : {S : Type 0} → Answering S → (Reached : List Call → Type 0) → (echo : Bool)
    → (first now : S) → (left : List (List ℕ)) → (size : ℕ) → (ended refused : Bool) → Type 0
IsAt answers Reached echo first now left size ended refused = (calls : List Call)
    × (lines : List (List ℕ)) × (tolds : List Told) × Reached calls
    × (lines_of (bytes_read calls) ≡ lines ++ left)
    × AreTold answers echo first lines tolds now calls × IsInTurn answers echo first calls
    × (length (bytes_read calls) ≡ size) × (is_ended calls ≡ ended)
    × (any_refused tolds ≡ refused)

-- why it ends before what is read does; of the lines that are left
abbrev pub EndsEarly : Stop → (left : List (List ℕ)) → List Call → Type 0
EndsEarly stop.Unread left calls = Unit {0}
EndsEarly stop.TooLong [] calls = ⊥
EndsEarly stop.TooLong (line ∷ left) calls =
    (MAX_LINE < length line) ⊎ (2 ^ 64 ≤ length (bytes_read calls) + 1)
EndsEarly stop.NotText [] calls = ⊥
EndsEarly stop.NotText (line ∷ left) calls = ¬ IsUtf8 line
EndsEarly stop.OutOfMemory left calls = Unit {0}
EndsEarly stop.Unwritten left calls = ⊥

-- such calls were made that some lines are answered, and no more; or that a beginning of their
-- answers was written, and no more could be
abbrev pub IsStopped : {S : Type 0} → Answering S → (Reached : List Call → Type 0) → (echo : Bool)
    → (first : S) → Stop → Type 0
IsStopped answers Reached echo first stop.Unwritten = (calls : List Call) × (y : _)
    × (lines left : List (List ℕ)) × (tolds : List Told) × (k : ℕ) × Reached calls
    × (lines_of (bytes_read calls) ≡ lines ++ left) × AreAnswered answers first lines tolds y
    × (bytes_written calls ≡ take k (said echo lines tolds)) × IsInTurn answers echo first calls
IsStopped answers Reached echo first why = (calls : List Call) × (y : _)
    × (lines left : List (List ℕ)) × (tolds : List Told) × Reached calls
    × (lines_of (bytes_read calls) ≡ lines ++ left)
    × AreTold answers echo first lines tolds y calls
    × EndsEarly why left calls × IsInTurn answers echo first calls

-- ---- a whole conversation

abbrev pub stop_line : Stop → List ℕ
stop_line stop.Unread = codes "refused L7\n"
stop_line stop.TooLong = codes "refused L10\n"
stop_line stop.NotText = codes "refused L8\n"
stop_line stop.OutOfMemory = codes "refused L9\n"
stop_line stop.Unwritten = []

abbrev pub is_unread : Stop → Bool
is_unread stop.Unread = true
is_unread stop.TooLong = false
is_unread stop.NotText = false
is_unread stop.OutOfMemory = false
is_unread stop.Unwritten = false

abbrev pub is_unwritten : Stop → Bool
is_unwritten stop.Unread = false
is_unwritten stop.TooLong = false
is_unwritten stop.NotText = false
is_unwritten stop.OutOfMemory = false
is_unwritten stop.Unwritten = true

-- a part of a conversation was stopped so
abbrev pub was_unread : {A : Type 0} → Result A Stop → Bool
was_unread (Ok x) = false
was_unread (Err why) = is_unread why

abbrev pub was_unwritten : {A : Type 0} → Result A Stop → Bool
was_unwritten (Ok x) = false
was_unwritten (Err why) = is_unwritten why

-- it is said why no more is answered; or a beginning of that is, and no more could be
abbrev pub IsSaidWhy : (Reached : List Call → Type 0) → Stop → (unwritten : Bool) → Talked → Type 0
IsSaidWhy Reached why unwritten told =
    ((calls : List Call) × Reached calls × IsSaid (stop_line why) calls
    × (is_unwritten why ≡ false) × (unwritten ≡ false) × (told ≡ talked.Refused why))
    ⊎ ((k : ℕ) × (calls : List Call) × Reached calls × IsPut (take k (stop_line why)) calls
    × (unwritten ≡ true) × (told ≡ talked.CutOff))

-- there is no more to read, and each line is answered; whether a line is refused
abbrev pub IsOver : {S : Type 0} → Answering S → (echo : Bool) → (first last : S) → List Call
    → (refused : Bool) → Type 0
IsOver answers echo first last calls refused = (tolds : List Told) × (is_ended calls ≡ true)
    × AreTold answers echo first (lines_of (bytes_read calls)) tolds last calls
    × (refused ≡ any_refused tolds)

-- some lines are answered, and then it is said why no more are
abbrev pub IsRefused : {S : Type 0} → Answering S → (echo : Bool) → (first : S) → List Call → Stop
    → Type 0
IsRefused answers echo first calls why = (y : _) × (lines left : List (List ℕ))
    × (tolds : List Told) × (lines_of (bytes_read calls) ≡ lines ++ left)
    × AreAnswered answers first lines tolds y
    × (bytes_written calls ≡ said echo lines tolds ++ stop_line why) × (is_flushed calls ≡ true)
    × EndsEarly why left calls

-- what was written is a beginning of that, or of the answers alone
abbrev pub IsCutOff : {S : Type 0} → Answering S → (echo : Bool) → (first : S) → List Call → Type 0
IsCutOff answers echo first calls = (why : Stop) × (y : _) × (lines left : List (List ℕ))
    × (tolds : List Told) × (k : ℕ) × (lines_of (bytes_read calls) ≡ lines ++ left)
    × AreAnswered answers first lines tolds y
    × (bytes_written calls ≡ take k (said echo lines tolds ++ stop_line why))

-- how it came to an end
abbrev pub Ends : {S : Type 0} → Answering S → (echo : Bool) → (first last : S) → List Call
    → (unread unwritten : Bool) → Talked → Type 0
Ends answers echo first last calls unread unwritten (talked.Over refused) =
    IsOver answers echo first last calls refused × (unread ≡ false) × (unwritten ≡ false)
Ends answers echo first last calls unread unwritten (talked.Refused why) =
    IsRefused answers echo first calls why × (unread ≡ is_unread why) × (unwritten ≡ false)
Ends answers echo first last calls unread unwritten talked.CutOff =
    IsCutOff answers echo first calls × (unwritten ≡ true)

-- each read comes once all is answered that was read before, up to the end of what there is to
-- read; or until there is a refusal, or a write fails
abbrev pub Talks : {S : Type 0} → Answering S → (echo : Bool) → (first last : S) → List Call
    → (unread unwritten : Bool) → Talked → Type 0
Talks answers echo first last calls unread unwritten told = IsInTurn answers echo first calls
    × Ends answers echo first last calls unread unwritten told
