-- What `check` replies: whether a run file's outcomes are as its comments expect.
use Rattle.std.specs.Prelude.{◌≡◌, ◌++◌, ◌||◌, ℕ, Bool, true, false, List, [], Option, None, Some, codes, if◌then◌else◌, string_bytes, unwrap_or}
use Rattle.std.specs.Fmt.{decimal}
use Rattle.bpf_command.specs.declared.command.CheckOptions.{CheckOptions}
use Rattle.bpf_check.specs.Expectation.{Expected, are_races_asked}
use Rattle.bpf_check.specs.Findings.{Findings, Raced}
use Rattle.bpf_check.specs.Listing.{checked_text, left_text}
use Rattle.bpf_check.specs.Settings.{settings_of}
use Rattle.bpf_check.specs.Verdict.{conclusion_of, verdicts_of}
use Rattle.bpf_check.specs.declared.judging.Conclusion.{Conclusion}
use Rattle.bpf_check.specs.declared.judging.Conclusion.TheVariants as conclusion
use Rattle.bpf_check.specs.declared.settings.Settings.{Settings}
use Rattle.bpf_threads.specs.Lines.{notes_text}
use Rattle.bpf_replies.specs.Comments.{AreLeftIn, AreLinesIn, IsExpectedIn, RefusesComments, for_check}
use Rattle.bpf_replies.specs.declared.checking.Notes.{Notes}
use Rattle.bpf_replies.specs.declared.comments.Reading.{Reading}
use Rattle.bpf_replies.specs.Reordering.{AreFindingsIn}
use Rattle.bpf_replies.specs.Threading.{AreThreadsOf}
use Rattle.bpf_replies.specs.declared.reply.Reply.{Reply}
use Rattle.bpf_replies.specs.declared.reply.Reply.TheVariants as reply

-- the exit status shows what verdicts amount to: something isn't as expected, or couldn't be decided
abbrev pub is_unmet : Conclusion → Bool
is_unmet conclusion.Met = false
is_unmet conclusion.Unmet = true
is_unmet conclusion.Untold = false

abbrev pub is_told : Conclusion → Bool
is_told conclusion.Met = true
is_told conclusion.Unmet = true
is_told conclusion.Untold = false

-- ---- what is searched for: options go before what the comments of a file ask for

-- outcomes in which no budget is used up, where either asks for them
abbrev pub is_patient : CheckOptions → (text : List ℕ) → Bool
is_patient o text = o.search.patient || (settings_of text).patient

-- a limit that is given, else one that comments ask for, else the default
abbrev pub limit_by : CheckOptions → Settings → ℕ
limit_by o s = if o.limited then o.search.limit else unwrap_or s.limit o.search.limit

abbrev pub limit_of : CheckOptions → (text : List ℕ) → ℕ
limit_of o text = limit_by o (settings_of text)

-- how comments are read then
abbrev pub reading_by : CheckOptions → (text : List ℕ) → Reading
reading_by o text = for_check (is_patient o text) o.x86 o.lenient

-- ---- what is printed before tests

-- how many states were searched, where that is asked for, as a comment after a mark
abbrev pub states_text : (mark : List ℕ) → Option ℕ → List ℕ
states_text mark None = []
states_text mark (Some n) = codes "# " ++ (mark ++ (decimal n ++ codes " states\n"))

abbrev pub states_of : CheckOptions → Findings → Option ℕ
states_of o f = if o.states then Some f.states else None

-- how many expectations are no tests, and in which ways threads may reach more
abbrev pub AreNotesOf : Reading → List ℕ → Notes → Type 0
AreNotesOf r text n = AreLeftIn r text n.left × AreThreadsOf text n.threads

abbrev pub head_text : (mark : List ℕ) → Option ℕ → Notes → List ℕ
head_text mark states n = states_text mark states ++ (left_text mark n.left ++ notes_text mark n.threads)

-- ---- what tests rest on

-- the findings of a search; and where it is expected something of data races, what was found of them, as
-- whoever looks for them says: of a patient search or not, by a limit, of a text
abbrev pub AreGroundsBy : (Finds : Bool → ℕ → List ℕ → Raced → Type 0) → CheckOptions
    → List ℕ → List Expected → Findings → Type 0
AreGroundsBy Finds o text expected f = AreFindingsIn o.x86 (is_patient o text) (limit_of o text) text f
    × (are_races_asked expected ≡ true → Finds (is_patient o text) (limit_of o text) text f.raced)

-- `check`: comments that count states and expectations that are no tests, and say in which ways threads may
-- have more outcomes; a test an expectation, each with its verdict by the findings of a search through all
-- schedules, and of a patient one first if each can end; or the first refusal of the file or its comments
abbrev pub IsCheckedFile : (Finds : Bool → ℕ → List ℕ → Raced → Type 0)
    → CheckOptions → List ℕ → Reply → Type 0
IsCheckedFile Finds o text (reply.Outcomes printed unmet told) =
    (expected : List Expected) × (lines : List ℕ) × (f : Findings)
    × IsExpectedIn (reading_by o text) text expected
    × AreLinesIn (reading_by o text) o.lines text lines
    × AreGroundsBy Finds o text expected f
    × (notes : Notes) × AreNotesOf (reading_by o text) text notes
    × (string_bytes printed ≡ head_text [] (states_of o f) notes
    ++ checked_text lines f expected (verdicts_of f expected))
    × (unmet ≡ is_unmet (conclusion_of f expected))
    × (told ≡ is_told (conclusion_of f expected))
IsCheckedFile Finds o text (reply.Refused r) = RefusesComments (reading_by o text) text r
IsCheckedFile Finds o text _ = ⊥
