-- What `explore --x86` replies: every outcome of a run file's jobs on CPUs with store buffers.
use Rattle.std.specs.Prelude.{◌≡◌, ◌||◌, ℕ, Bool, true, false, List, Ok, string_bytes}
use Rattle.bpf_check.specs.Findings.{Findings}
use Rattle.bpf_explore.specs.Listing.{explored_text, patient_text}
use Rattle.bpf_explore.specs.Outcomes.{Found}
use Rattle.bpf_explore.specs.declared.exploring.Explored.{Explored}
use Rattle.bpf_explore.specs.declared.exploring.ExploredPatiently.{ExploredPatiently}
use Rattle.bpf_file.specs.File.{File}
use Rattle.bpf_file.specs.Reading.{IsRunFile}
use Rattle.bpf_reorderings.specs.Outcomes.{IsExploredX86}
use Rattle.bpf_reorderings.specs.Patient.{IsExploredPatientlyX86}
use Rattle.bpf_threads.specs.declared.threads.Threads.{Threads}
use Rattle.bpf_replies.specs.Exploring.{AreFindingsBy, IsShownOf, any_stopped_of, is_any_hung}
use Rattle.bpf_replies.specs.Running.{IsBufferHistory, RefusesFile}
use Rattle.bpf_replies.specs.Script.{first_world_of}
use Rattle.bpf_replies.specs.Threading.{AreThreadsOf}
use Rattle.bpf_replies.specs.declared.reply.Reply.{Reply}
use Rattle.bpf_replies.specs.declared.reply.Reply.TheVariants as reply

-- what a search through all schedules of turns and flushes of the jobs that the text says finds by this
-- limit, of which the maps are printed too
abbrev pub AreAnswersOnX86 : List ℕ → (limit : ℕ) → Explored → Type 0
AreAnswersOnX86 text limit e = (f : File) × IsRunFile text (Ok f)
    × IsExploredX86 (first_world_of f) f.names true limit e

-- what a patient one finds: outcomes in which no job is out of budget
abbrev pub ArePatientAnswersOnX86 : List ℕ → (limit : ℕ) → ExploredPatiently → Type 0
ArePatientAnswersOnX86 text limit e = (f : File) × IsRunFile text (Ok f)
    × IsExploredPatientlyX86 (first_world_of f) f.names true limit e

-- the answers of either, whether they are all, and how many states were kept
abbrev pub AreFoundOnX86 : (patient : Bool) → List ℕ → (limit : ℕ) → List Found → (all : Bool)
    → (states : ℕ) → Type 0
AreFoundOnX86 false text limit answers all states = (e : Explored) × AreAnswersOnX86 text limit e
    × (answers ≡ e.answers.items) × (all ≡ e.all) × (states ≡ e.states)
AreFoundOnX86 true text limit answers all states = (e : ExploredPatiently)
    × ArePatientAnswersOnX86 text limit e
    × (answers ≡ e.answers.items) × (all ≡ e.all) × (states ≡ e.states)

-- what tests rest on, of either search through flushes
abbrev pub AreFindingsOnX86 : (patient : Bool) → (limit : ℕ) → List ℕ → Findings → Type 0
AreFindingsOnX86 false limit text f = (f.patient ≡ false)
    × AreFoundOnX86 false text limit f.answers f.all f.states
AreFindingsOnX86 true limit text f = (f.patient ≡ true)
    × ((e : ExploredPatiently) × ArePatientAnswersOnX86 text limit e
    × (f.answers ≡ e.answers.items) × (f.all ≡ e.all) × (f.states ≡ e.states) × (f.hung ≡ e.hung.items))

-- of a search through flushes too where CPUs have store buffers, or of one through turns alone
abbrev pub AreFindingsIn : (x86 patient : Bool) → (limit : ℕ) → List ℕ → Findings → Type 0
AreFindingsIn true patient limit text f = AreFindingsOnX86 patient limit text f
AreFindingsIn false patient limit text f = AreFindingsBy patient limit text f

-- what is printed of either search
abbrev pub IsFoundTextOnX86 : (patient : Bool) → (limit : ℕ) → (text printed : List ℕ)
    → (stopped all : Bool) → Type 0
IsFoundTextOnX86 false limit text printed stopped all =
    (e : Explored) × AreAnswersOnX86 text limit e
    × (threads : Threads) × AreThreadsOf text threads
    × (printed ≡ explored_text e.answers.items threads e.all e.states)
    × (stopped ≡ any_stopped_of e.answers.items) × (all ≡ e.all)
IsFoundTextOnX86 true limit text printed stopped all =
    (e : ExploredPatiently) × ArePatientAnswersOnX86 text limit e
    × (threads : Threads) × AreThreadsOf text threads
    × (printed ≡ patient_text e.answers.items e.hung.items e.budgets threads e.all e.states)
    × (stopped ≡ (any_stopped_of e.answers.items || is_any_hung e.hung.items)) × (all ≡ e.all)

-- `explore --x86`: the answers, a schedule of turns and flushes before each, of a patient search what is
-- hung and whether budgets can run out, in which ways threads may reach more, whether the answers are all,
-- and after how many states; or the file's first refusal
abbrev pub IsExploredFileOnX86 : (patient : Bool) → (limit : ℕ) → List ℕ → Reply → Type 0
IsExploredFileOnX86 patient limit text (reply.Outcomes printed stopped all) =
    IsFoundTextOnX86 patient limit text (string_bytes printed) stopped all
IsExploredFileOnX86 patient limit text (reply.Refused r) = RefusesFile text r
IsExploredFileOnX86 patient limit text _ = ⊥

-- `explore --x86 --show`: one of these answers, by its own schedule of turns and flushes
abbrev pub IsShownFileOnX86 : (patient : Bool) → (limit number : ℕ) → List ℕ → Reply → Type 0
IsShownFileOnX86 patient limit number text =
    IsShownOf (AreFoundOnX86 patient text limit) (λ by. IsBufferHistory by true) number text
