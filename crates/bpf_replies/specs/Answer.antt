-- What is printed of a reply, and the exit status. Our own choice.
use Rattle.std.specs.Prelude.{◌≡◌, ℕ, ◌++◌, ◌⊎◌, List, [], ◌∷◌, Option, Result, MatchResult, Bool, true, false, codes, map, option_map, string_bytes, take}
use Rattle.std.specs.Io.KnownBytes.{Appends}
use Rattle.bpf_explain.specs.Page.{definition_text, page_text}
use Rattle.bpf_explain.specs.declared.definition.Definition.{Definition}
use Rattle.bpf_explain.specs.declared.page.Page.{Page}
use Rattle.bpf_explain.specs.declared.topic.Topic.{Topic}
use Rattle.bpf_explain.specs.declared.topic.Topic.TheVariants as topic
use Rattle.bpf_cpu.specs.declared.outcome.Outcome.{Outcome}
use Rattle.bpf_cpu.specs.declared.outcome.Outcome.TheVariants as outcome
use Rattle.bpf_cpu.specs.Lines.{outcome_text}
use Rattle.bpf_lines.specs.Lines.{lines_behind}
use Rattle.bpf_debug.specs.Script.{Answer, answer_of, answer_text}
use Rattle.bpf_replies.specs.declared.refusal.Refusal.{Refusal}
use Rattle.bpf_replies.specs.declared.reply.Reply.{Reply}
use Rattle.bpf_replies.specs.declared.reply.Reply.TheVariants as reply
use Rattle.bpf_replies.specs.declared.reply.Status.{Status}
use Rattle.bpf_replies.specs.declared.reply.Status.TheVariants as status
use Rattle.bpf_replies.specs.Diagnostic.{refusal_text}

-- what is replied is of this kind; so is a refusal, as a reply
abbrev pub Replies : (Reply → Type 0) → Result Reply Refusal → Type 0
Replies Kind replied = MatchResult replied Kind (λ r. Kind (reply.Refused r))

-- some texts, one after the other
abbrev pub all_of : List (List ℕ) → List ℕ
all_of [] = []
all_of (text ∷ texts) = text ++ all_of texts

-- a line of commands as it is shown before its answer; an empty one isn't shown
abbrev pub shown_line : List ℕ → List ℕ
shown_line [] = []
shown_line (b ∷ bs) = codes "> " ++ (b ∷ bs) ++ codes "\n"

-- what an answer prints, after the first of some lines where there is one
abbrev pub first_shown : (lines : List (List ℕ)) → Answer → List ℕ
first_shown [] answer = answer_text answer
first_shown (line ∷ lines) answer = shown_line line ++ answer_text answer

abbrev pub other_lines : List (List ℕ) → List (List ℕ)
other_lines [] = []
other_lines (line ∷ lines) = lines

-- what some answers print, each after its line where lines are shown
abbrev pub shown_text : (lines : List (List ℕ)) → List Answer → List ℕ
shown_text lines [] = []
shown_text lines (answer ∷ answers) =
    first_shown lines answer ++ shown_text (other_lines lines) answers

-- the text that a reply prints
abbrev pub reply_text : Reply → List ℕ
reply_text (reply.Ended outcome) = outcome_text outcome ++ codes "\n"
reply_text (reply.Text text) = string_bytes text
reply_text (reply.Jobs text stopped) = string_bytes text
reply_text (reply.Outcomes text stopped all) = string_bytes text
reply_text (reply.NoOutcome text all) = string_bytes text
reply_text (reply.Several text refused unmet told) = string_bytes text
reply_text (reply.Counted text stopped stats) = string_bytes text
reply_text (reply.Script answers lines stopped refused) =
    shown_text (lines_behind (option_map (λ v. v.items) lines)) (map answer_of answers.items)
reply_text (reply.Refused refusal) = codes "refused " ++ refusal_text refusal ++ codes "\n"

-- how a program ends after it
abbrev pub ended_status : Outcome → Status
ended_status (outcome.Exit r0) = status.Done
ended_status (outcome.Fault fault pc) = status.Stopped
ended_status (outcome.OutOfBudget pc) = status.Stopped

-- of jobs: whether one of them ended in a fault or out of budget
abbrev pub jobs_status : Bool → Status
jobs_status true = status.Stopped
jobs_status false = status.Done

-- of a script: whether such a job is there, or a command is refused for which all are
abbrev pub script_status : (stopped refused : Bool) → Status
script_status stopped true = status.Refused
script_status stopped false = jobs_status stopped

-- of outcomes: whether one of them has such a job, and whether they are all
abbrev pub outcomes_status : (stopped all : Bool) → Status
outcomes_status stopped true = jobs_status stopped
outcomes_status stopped false = status.Incomplete

-- of several files: the worst of them, where 1 is worse than 4, 4 than 3, and 3 than 0
abbrev pub several_status : (refused unmet told : Bool) → Status
several_status true unmet told = status.Refused
several_status false unmet false = status.Incomplete
several_status false unmet true = jobs_status unmet

-- of an outcome that there isn't: whether those that were found are all
abbrev pub missing_status : (all : Bool) → Status
missing_status true = status.Refused
missing_status false = status.Incomplete

abbrev pub status_of : Reply → Status
status_of (reply.Ended outcome) = ended_status outcome
status_of (reply.Text text) = status.Done
status_of (reply.Jobs text stopped) = jobs_status stopped
status_of (reply.Counted text stopped stats) = jobs_status stopped
status_of (reply.Script answers lines stopped refused) = script_status stopped refused
status_of (reply.Outcomes text stopped all) = outcomes_status stopped all
status_of (reply.NoOutcome text all) = missing_status all
status_of (reply.Several text refused unmet told) = several_status refused unmet told
status_of (reply.Refused refusal) = status.Refused

-- what is printed beside it, on standard error
abbrev pub stats_of : Reply → List ℕ
stats_of (reply.Counted text stopped stats) = string_bytes stats
stats_of _ = []

abbrev pub exit_status : Status → ℕ
exit_status status.Done = 0
exit_status status.Refused = 1
exit_status status.Failed = 1
exit_status status.Stopped = 3
exit_status status.Incomplete = 4

-- the text is written, and this status answered; or a write failed, and what is written is a
-- beginning of the text
abbrev pub IsPrinted : (text : List ℕ) → (meant : Status) → (old new : Option (List ℕ))
    → (failed : Bool)
    → Status → Type 0
IsPrinted text meant old new failed answered =
    (Appends old new text × (failed ≡ false) × (answered ≡ meant))
    ⊎ ((k : ℕ) × Appends old new (take k text) × (failed ≡ true) × (answered ≡ status.Failed))

-- the reply is written; or a refusal alone, where the one line of a reply found no memory
abbrev pub Prints : Reply → (old new : Option (List ℕ)) → (failed : Bool) → Status → Type 0
Prints (reply.Text text) old new failed answered =
    IsPrinted (string_bytes text) status.Done old new failed answered
Prints (reply.Jobs text stopped) old new failed answered =
    IsPrinted (string_bytes text) (jobs_status stopped) old new failed answered
Prints (reply.Outcomes text stopped all) old new failed answered =
    IsPrinted (string_bytes text) (outcomes_status stopped all) old new failed answered
Prints (reply.Several text refused unmet told) old new failed answered =
    IsPrinted (string_bytes text) (several_status refused unmet told) old new failed answered
Prints (reply.NoOutcome text all) old new failed answered =
    IsPrinted (string_bytes text) (missing_status all) old new failed answered
Prints (reply.Counted text stopped stats) old new failed answered =
    IsPrinted (string_bytes text) (jobs_status stopped) old new failed answered
Prints (reply.Script answers lines stopped refused) old new failed answered =
    IsPrinted
    (shown_text (lines_behind (option_map (λ v. v.items) lines)) (map answer_of answers.items))
    (script_status stopped refused) old new failed answered
Prints r old new failed answered = IsPrinted (reply_text r) (status_of r) old new failed answered
    ⊎ IsPrinted (codes "refused L9\n") status.Refused old new failed answered

-- a page is written; or a refusal alone, where its text found no memory
abbrev pub IsPage : (text : List ℕ) → (old new : Option (List ℕ)) → (failed : Bool) → Status → Type 0
IsPage text old new failed answered = IsPrinted text status.Done old new failed answered
    ⊎ IsPrinted (codes "refused L9\n") status.Refused old new failed answered

-- the page of a code, or of another name
abbrev pub PrintsPage : Topic → (old new : Option (List ℕ)) → (failed : Bool) → Status → Type 0
PrintsPage (topic.Code code) old new failed answered = (page : Page) × (page.code ≡ code)
    × IsPage (page_text page) old new failed answered
PrintsPage (topic.Term term) old new failed answered = (d : Definition) × (d.term ≡ term)
    × IsPage (definition_text d) old new failed answered
