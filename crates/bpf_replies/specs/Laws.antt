-- What follows from the definitions: outcomes are determined, what is shown of them is seen again, and
-- listings are assembled again.
use Rattle.std.specs.Prelude.{◌≡◌, ◌↔◌, ℕ, ◌/◌, ◌++◌, false, true, Bool, List, [], Ok, Some, String, length, map, slice_get, string_bytes}
use Rattle.std.specs.declared.alloc.Global.{Global}
use Rattle.bpf_insn.specs.declared.error.InsnError.TheVariants as insn_error
use Rattle.bpf_loader.specs.declared.refusal.LoadError.TheVariants as load_error
use Rattle.bpf_lines.specs.HexText.{IsHexOf}
use Rattle.bpf_lines.specs.declared.hex_text.HexError.TheVariants as hex_error
use Rattle.bpf_text.specs.declared.error.TextError.TheVariants as text_error
use Rattle.bpf_names.specs.Names.{Names}
use Rattle.bpf_machine.specs.Schedule.{World}
use Rattle.bpf_explore.specs.Outcomes.{Found}
use Rattle.bpf_reorderings.specs.Outcomes.{AreOutcomesX86, EndsByX86, HaveAllX86, IsOutcomeX86}
use Rattle.bpf_reorderings.specs.Patient.{AreHungX86, ArePatientX86, EndsPatientlyX86, HangsByX86, HaveAllPatientX86, IsPatientOutcomeX86, NoneHangsX86}
use Rattle.bpf_check.specs.Expectation.{Expected, asks_of_races}
use Rattle.bpf_check.specs.Faults.{IsTrueFault, unexpected_fault}
use Rattle.bpf_check.specs.Findings.{Findings}
use Rattle.bpf_check.specs.Verdict.{AreTrueEndsOf, AreTrueRaces, IsTrueAsked, IsTrueOf, ends_verdict, verdict_of}
use Rattle.bpf_debug.specs.Laws.{HadMemory}
use Rattle.bpf_debug.specs.Script.{answer_of}
use Rattle.bpf_file.specs.File.{File}
use Rattle.bpf_file.specs.Reading.{IsRunFile}
use Rattle.bpf_replies.specs.Answer.{reply_text}
use Rattle.bpf_replies.specs.Programs.{IsAssembled, IsDisassembled}
use Rattle.bpf_replies.specs.Exploring.{AreAnswersTo, AreFoundBy, any_stopped_of, told_of}
use Rattle.bpf_replies.specs.Listing.{word_lines}
use Rattle.bpf_replies.specs.Reordering.{AreFindingsIn, AreFoundOnX86}
use Rattle.bpf_replies.specs.Script.{first_world_of}
use Rattle.bpf_replies.specs.Running.{IsBufferHistoryOfFile, IsHistoryOfFile, IsRunOfFile, IsRunWithBuffersOfFile}
use Rattle.bpf_replies.specs.declared.input.InputError.TheVariants as input_error
use Rattle.bpf_replies.specs.declared.refusal.Refusal.{Refusal}
use Rattle.bpf_replies.specs.declared.refusal.Refusal.TheVariants as refusal
use Rattle.bpf_replies.specs.declared.reply.Reply.{Reply}
use Rattle.bpf_replies.specs.declared.reply.Reply.TheVariants as reply

-- a refusal that any input may get: a read failed, or memory was refused
abbrev pub IsForAnyInput : Refusal → Type 0
IsForAnyInput (refusal.Input input_error.Unread) = Unit {0}
IsForAnyInput (refusal.Input input_error.OutOfMemory) = Unit {0}
IsForAnyInput (refusal.Hex hex_error.OutOfMemory) = Unit {0}
IsForAnyInput (refusal.Text text_error.OutOfMemory) = Unit {0}
IsForAnyInput (refusal.Insn insn_error.OutOfMemory) = Unit {0}
IsForAnyInput (refusal.Load load_error.OutOfMemory) = Unit {0}
IsForAnyInput refusal.JobsOutOfMemory = Unit {0}
IsForAnyInput refusal.OutOfMemory = Unit {0}
IsForAnyInput _ = ⊥

-- the reply is of the input: no read failed, and memory was refused for no part of it
abbrev pub IsOfInput : Reply → Type 0
IsOfInput (reply.Refused r) = ¬ IsForAnyInput r
IsOfInput (reply.Script answers lines stopped refused) = HadMemory (map answer_of answers.items)
IsOfInput _ = Unit {0}

-- what `asm --listing` prints is assembled as the text that is listed: `asm` has the same replies
-- to both
abbrev pub ListingsAreAnsweredAlike : Type 0
ListingsAreAnsweredAlike = (text : List ℕ) (listing : String Global) (r : Reply)
    → IsAssembled true text (reply.Text listing)
    → (IsAssembled false (string_bytes listing) r ↔ IsAssembled false text r)

-- what `disasm --pc` prints is assembled to the words that it was given, unless memory runs out
abbrev pub ListedWordsAreAnswered : Type 0
ListedWordsAreAnswered = (text bytes : List ℕ) (listing : String Global) (r : Reply)
    → IsHexOf text bytes → IsDisassembled true text (reply.Text listing)
    → IsAssembled false (string_bytes listing) r → IsOfInput r
    → reply_text r ≡ word_lines (length bytes / 8) bytes

-- searches of one input that both found all outcomes print the same of them, in the same order
abbrev pub OutcomesAreDetermined : Type 0
OutcomesAreDetermined = (text : List ℕ) (xs ys : List Found) (limit states more others : ℕ)
    → AreAnswersTo text xs true limit states → AreAnswersTo text ys true more others
    → (map told_of xs ≡ map told_of ys) × (any_stopped_of xs ≡ any_stopped_of ys)

-- what a search shows of an outcome, `run --by` with its schedule prints
abbrev pub WitnessesAreSeenAgain : Type 0
WitnessesAreSeenAgain =
    (patient : Bool) (text : List ℕ) (answers : List Found) (all : Bool) (limit states i : ℕ)
    (found : Found) (printed : String Global) (stopped : Bool)
    → AreFoundBy patient text answers all limit states → slice_get answers i ≡ Some found
    → IsRunOfFile found.by false true text (reply.Jobs printed stopped)
    → (string_bytes printed ≡ found.text) × (stopped ≡ found.stopped)

-- what is shown of an outcome, `explore --show` prints after all that happens on the way there
abbrev pub ShownAreFound : Type 0
ShownAreFound =
    (patient : Bool) (text : List ℕ) (answers : List Found) (all : Bool) (limit states i : ℕ)
    (found : Found) (printed : String Global) (stopped : Bool)
    → AreFoundBy patient text answers all limit states → slice_get answers i ≡ Some found
    → IsHistoryOfFile found.by false true text (reply.Jobs printed stopped)
    → (lines : List ℕ) × (string_bytes printed ≡ lines ++ found.text)
    × (stopped ≡ found.stopped)

-- ---- with store buffers, too
-- what a search shows of an outcome, `run --x86 --by` with its schedule prints
abbrev pub WitnessesOnX86AreSeenAgain : Type 0
WitnessesOnX86AreSeenAgain =
    (patient : Bool) (text : List ℕ) (answers : List Found) (all : Bool) (limit states i : ℕ)
    (found : Found) (printed : String Global) (stopped : Bool)
    → AreFoundOnX86 patient text limit answers all states
    → slice_get answers i ≡ Some found
    → IsRunWithBuffersOfFile found.by true text (reply.Jobs printed stopped)
    → (string_bytes printed ≡ found.text) × (stopped ≡ found.stopped)

-- and `explore --x86 --show` after all that happens on the way there
abbrev pub ShownOnX86AreFound : Type 0
ShownOnX86AreFound =
    (patient : Bool) (text : List ℕ) (answers : List Found) (all : Bool) (limit states i : ℕ)
    (found : Found) (printed : String Global) (stopped : Bool)
    → AreFoundOnX86 patient text limit answers all states
    → slice_get answers i ≡ Some found
    → IsBufferHistoryOfFile found.by true text (reply.Jobs printed stopped)
    → (lines : List ℕ) × (string_bytes printed ≡ lines ++ found.text)
    × (stopped ≡ found.stopped)

-- ---- tests of CPUs with store buffers

-- this is printed of some outcome
abbrev pub IsOutcomeTextX86 : World → Names → List ℕ → Type 0
IsOutcomeTextX86 w names text = (stopped : Bool) × IsOutcomeX86 w names true text stopped

-- where answers are outcomes, and no outcome is left out if they are said to be all, each verdict but one
-- on races is true of the outcomes, whether it is on what is expected of all CPUs, or of such alone
abbrev pub VerdictsOnX86AreTrue : Type 0
VerdictsOnX86AreTrue =
    (w : World) (names : Names) (f : Findings) (e : Expected) → f.patient ≡ false
    → AreOutcomesX86 w names true f.answers
    → (f.all ≡ true → HaveAllX86 w names true f.answers)
    → asks_of_races e.often e.line ≡ false
    → IsTrueOf (IsOutcomeTextX86 w names) (EndsByX86 w names true) f e (verdict_of f e)

-- a fault that isn't expected is one of an outcome; where there is none, though something is expected and
-- nothing of faults, no outcome has one
abbrev pub FaultsOnX86AreTrue : Type 0
FaultsOnX86AreTrue =
    (w : World) (names : Names) (f : Findings) (expected : List Expected)
    → AreOutcomesX86 w names true f.answers
    → (f.all ≡ true → HaveAllX86 w names true f.answers)
    → IsTrueFault (IsOutcomeTextX86 w names) (EndsByX86 w names true) f expected
    (unexpected_fault f expected)

-- ---- of outcomes of CPUs with store buffers in which no job is out of budget

-- this is printed of some
abbrev pub IsPatientTextX86 : World → Names → List ℕ → Type 0
IsPatientTextX86 w names text =
    (stopped : Bool) × IsPatientOutcomeX86 w names true text stopped

-- what a patient search through flushes promises of its findings
pub record ArePatientFindingsX86 (w : World) (names : Names) (f : Findings) : Type 0 where
  pub patient : f.patient ≡ true
  pub outcomes : ArePatientX86 w names true f.answers
  pub complete : f.all ≡ true → HaveAllPatientX86 w names true f.answers
  pub are_hung : AreHungX86 w f.hung
  pub none_hangs : f.all ≡ true → f.hung ≡ [] → NoneHangsX86 w

-- what `check --x86 --patient` rests on is such, of the jobs that the text says
abbrev pub TestsOnX86RestOnSearches : Type 0
TestsOnX86RestOnSearches = (limit : ℕ) (text : List ℕ) (f : Findings)
    → AreFindingsIn true true limit text f
    → (file : File) × IsRunFile text (Ok file)
    × ArePatientFindingsX86 (first_world_of file) file.names f

-- THE LAW: whether each schedule of turns and flushes can end is so as the first test says. So is each other
-- verdict, of outcomes, of ends and of what hangs, whether it is on what is expected of all CPUs, or of such
-- alone, and of races by turns alone, where what was found of those is so
abbrev pub PatientVerdictsOnX86AreTrue : Type 0
PatientVerdictsOnX86AreTrue =
    (w : World) (names : Names) (f : Findings) → ArePatientFindingsX86 w names f
    → AreTrueEndsOf (NoneHangsX86 w) (HangsByX86 w) f (ends_verdict f)
    × ((e : Expected) → (asks_of_races e.often e.line ≡ true → AreTrueRaces w f)
    → IsTrueAsked w (NoneHangsX86 w) (HangsByX86 w) (IsPatientTextX86 w names)
    (EndsPatientlyX86 w names true) f e (verdict_of f e))

-- and what is said of a fault that isn't expected
abbrev pub PatientFaultsOnX86AreTrue : Type 0
PatientFaultsOnX86AreTrue =
    (w : World) (names : Names) (f : Findings) (expected : List Expected)
    → ArePatientFindingsX86 w names f
    → IsTrueFault (IsPatientTextX86 w names) (EndsPatientlyX86 w names true) f expected
    (unexpected_fault f expected)
