-- What `explore` replies: every outcome of a run file's jobs, whatever the order of the CPUs' turns.
use Rattle.std.specs.Prelude.{◌≡◌, ◌<◌, ◌-◌, ◌++◌, ◌||◌, ◌==◌, ℕ, Bool, true, false, not, List, Ok, Some, codes, length, slice_get, string_bytes}
use Rattle.std.specs.Fmt.{decimal}
use Rattle.std.specs.List.{list_any}
use Rattle.bpf_explore.specs.declared.budgets.Budgets.{Budgets}
use Rattle.bpf_check.specs.Findings.{Findings}
use Rattle.bpf_explore.specs.Listing.{explored_text, last_line, patient_text}
use Rattle.bpf_explore.specs.Outcomes.{Found, IsExplored}
use Rattle.bpf_explore.specs.Patient.{IsSearchedPatiently}
use Rattle.bpf_threads.specs.declared.threads.Threads.{Threads}
use Rattle.bpf_file.specs.File.{File}
use Rattle.bpf_file.specs.Reading.{IsRunFile}
use Rattle.bpf_replies.specs.Running.{IsHistoryBy, RefusesFile}
use Rattle.bpf_replies.specs.Script.{first_world_of}
use Rattle.bpf_replies.specs.Threading.{AreThreadsOf}
use Rattle.bpf_replies.specs.declared.refusal.Refusal.TheVariants as refusal
use Rattle.bpf_replies.specs.declared.reply.Reply.{Reply}
use Rattle.bpf_replies.specs.declared.reply.Reply.TheVariants as reply

-- what an answer prints, and whether it has a job that ended in a fault or out of budget
abbrev pub told_of : Found → List ℕ × Bool
told_of found = (found.text, found.stopped)

-- whether some answer has such a job
abbrev pub any_stopped_of : List Found → Bool
any_stopped_of answers = list_any (λ found. found.stopped) answers

-- the answers of a search through all schedules of the jobs that the text says, over a new store of
-- its maps, of which the maps are printed too; whether they are all, by this limit or where memory was
-- refused to the search, and how many states were kept
abbrev pub AreAnswersTo : List ℕ → List Found → (all : Bool) → (limit states : ℕ) → Type 0
AreAnswersTo text answers all limit states = (f : File) × IsRunFile text (Ok f)
    × (refused : Bool) × IsExplored (first_world_of f) f.names true answers all refused limit states

-- those of a patient search, outcomes in which no budget is used up; besides, schedules to states that
-- are hung, and whether some schedule uses a budget up
abbrev pub ArePatientAnswersTo : List ℕ → List Found → (all : Bool) → (limit states : ℕ)
    → List (List (ℕ × ℕ)) → Budgets → Type 0
ArePatientAnswersTo text answers all limit states hung budgets = (f : File)
    × IsRunFile text (Ok f)
    × (refused : Bool)
    × IsSearchedPatiently (first_world_of f) f.names true answers all refused limit states hung budgets

-- the answers of either search
abbrev pub AreFoundBy : (patient : Bool) → List ℕ → List Found → (all : Bool)
    → (limit states : ℕ) → Type 0
AreFoundBy false text answers all limit states = AreAnswersTo text answers all limit states
AreFoundBy true text answers all limit states = (hung : List (List (ℕ × ℕ))) × (budgets : Budgets)
    × ArePatientAnswersTo text answers all limit states hung budgets

-- what tests rest on, of either search
abbrev pub AreFindingsBy : (patient : Bool) → (limit : ℕ) → List ℕ → Findings → Type 0
AreFindingsBy false limit text f = (f.patient ≡ false)
    × AreAnswersTo text f.answers f.all limit f.states
AreFindingsBy true limit text f = (f.patient ≡ true)
    × ((budgets : Budgets)
    × ArePatientAnswersTo text f.answers f.all limit f.states f.hung budgets)

-- whether some state is hung
abbrev pub is_any_hung : List (List (ℕ × ℕ)) → Bool
is_any_hung hung = not (length hung == 0)

-- what is printed of either search
abbrev pub IsFoundText : (patient : Bool) → (limit : ℕ) → (text printed : List ℕ)
    → (stopped all : Bool) → Type 0
IsFoundText false limit text printed stopped all =
    (answers : List Found) × (states : ℕ) × AreAnswersTo text answers all limit states
    × (threads : Threads) × AreThreadsOf text threads
    × (printed ≡ explored_text answers threads all states) × (stopped ≡ any_stopped_of answers)
IsFoundText true limit text printed stopped all =
    (answers : List Found) × (states : ℕ) × (hung : List (List (ℕ × ℕ))) × (budgets : Budgets)
    × ArePatientAnswersTo text answers all limit states hung budgets
    × (threads : Threads) × AreThreadsOf text threads
    × (printed ≡ patient_text answers hung budgets threads all states)
    × (stopped ≡ (any_stopped_of answers || is_any_hung hung))

-- `explore`: the answers, a schedule before each, of a patient search what is hung and whether budgets
-- suffice, in which ways threads may reach more, whether the answers are all, and after how many
-- states; or the file's first refusal
abbrev pub IsExploredFile : (patient : Bool) → (limit : ℕ) → List ℕ → Reply → Type 0
IsExploredFile patient limit text (reply.Outcomes printed stopped all) =
    IsFoundText patient limit text (string_bytes printed) stopped all
IsExploredFile patient limit text (reply.Refused r) = RefusesFile text r
IsExploredFile patient limit text _ = ⊥

-- that there is no outcome of this number, and how many there are
abbrev pub missing_text : ℕ → ℕ → List ℕ
missing_text number count =
    codes "no outcome "
    ++ (decimal number ++ (codes ": " ++ (decimal count ++ codes " were found\n")))

-- this is replied of it; or out of memory
abbrev pub IsMissing : (number count : ℕ) → (all : Bool) → Reply → Type 0
IsMissing number count all (reply.NoOutcome printed whole) =
    (string_bytes printed ≡ missing_text number count) × (whole ≡ all)
IsMissing number count all (reply.Refused refusal.OutOfMemory) = Unit {0}
IsMissing number count all _ = ⊥

-- all that happens, and what it amounts to; and where a search didn't find all, after it how many
-- outcomes it found after how many states, and that they aren't all
abbrev pub IsShownBy : (History : File → List ℕ → Bool → Type 0) → (all : Bool)
    → (outcomes states : ℕ) → List ℕ → Reply → Type 0
IsShownBy History all outcomes states text (reply.Jobs printed stopped) =
    (all ≡ true) × ((f : File) × IsRunFile text (Ok f) × History f (string_bytes printed) stopped)
IsShownBy History all outcomes states text (reply.Outcomes printed stopped whole) =
    (all ≡ false) × (whole ≡ false) × ((shown : List ℕ) × ((f : File) × IsRunFile text (Ok f)
    × History f shown stopped)
    × (string_bytes printed ≡ shown ++ last_line false outcomes states))
IsShownBy History all outcomes states text (reply.Refused r) = RefusesFile text r
IsShownBy History all outcomes states text _ = ⊥

-- that of the answer of this number, which counts from 1, among those of a search, by the answer's own
-- schedule; or that there are fewer; or the file's first refusal
abbrev pub IsShownOf : (Finds : List Found → (all : Bool) → (states : ℕ) → Type 0)
    → (History : List (ℕ × ℕ) → File → List ℕ → Bool → Type 0) → (number : ℕ) → List ℕ → Reply
    → Type 0
IsShownOf Finds History number text (reply.Jobs printed stopped) =
    (answers : List Found) × (all : Bool) × (states : ℕ) × (found : Found)
    × Finds answers all states × (slice_get answers (number - 1) ≡ Some found)
    × IsShownBy (History found.by) all (length answers) states text (reply.Jobs printed stopped)
IsShownOf Finds History number text (reply.Outcomes printed stopped whole) =
    (answers : List Found) × (all : Bool) × (states : ℕ) × (found : Found)
    × Finds answers all states × (slice_get answers (number - 1) ≡ Some found)
    × IsShownBy (History found.by) all (length answers) states text
    (reply.Outcomes printed stopped whole)
IsShownOf Finds History number text (reply.NoOutcome printed all) =
    (answers : List Found) × (states : ℕ) × Finds answers all states × (length answers < number)
    × (string_bytes printed ≡ missing_text number (length answers))
IsShownOf Finds History number text (reply.Refused r) = RefusesFile text r
IsShownOf Finds History number text _ = ⊥

-- `explore --show`: of a search through turns, and what happens by them
abbrev pub IsShownFile : (patient : Bool) → (limit number : ℕ) → List ℕ → Reply → Type 0
IsShownFile patient limit number text =
    IsShownOf (λ answers all states. AreFoundBy patient text answers all limit states)
    (λ by. IsHistoryBy by false true) number text
