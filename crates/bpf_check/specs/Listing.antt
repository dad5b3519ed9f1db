-- How verdicts are printed: in the form of TAP, a test an expectation. Our own choice.
use Rattle.std.specs.Prelude.{ℕ, zero, suc, ◌+◌, Bool, false, true, ◌==◌, ◌&&◌, ◌||◌, ◌++◌, List, [], Option, Some, None, if◌then◌else◌}
use Rattle.std.specs.Prelude.{codes, length, map, nat_le, slice_get, slice_index_or}
use Rattle.std.specs.Fmt.{decimal}
use Rattle.bpf_lines.specs.Words.{is_word_byte}
use Rattle.bpf_schedule.specs.Moves.{all_moves_text}
use Rattle.bpf_explore.specs.Outcomes.{Found}
use Rattle.bpf_check.specs.declared.claim.Join.TheVariants as join
use Rattle.bpf_check.specs.declared.expectation.Often.TheVariants as often
use Rattle.bpf_check.specs.declared.judging.Verdict.{Verdict}
use Rattle.bpf_check.specs.declared.judging.Verdict.TheVariants as verdict
use Rattle.bpf_check.specs.Expectation.{Expected, often_text}
use Rattle.bpf_check.specs.Faults.{unexpected_fault}
use Rattle.bpf_check.specs.Findings.{Findings}
use Rattle.bpf_check.specs.Verdict.{ends_verdict}

-- ---- the line that is expected

-- one of `!`, `+`, `<`, `=`, `>`, `[` and `]`
abbrev pub is_claim_mark : ℕ → Bool
is_claim_mark b = (b == 33) || ((b == 43) || ((nat_le 60 b && nat_le b 62) || ((b == 91) || (b == 93))))

-- a letter, a digit, `_`, a blank or such a mark: no claim has another byte
abbrev pub is_line_byte : ℕ → Bool
is_line_byte b = is_word_byte b || ((b == 32) || is_claim_mark b)

-- any other is shown as `?`
abbrev pub shown_byte : ℕ → ℕ
shown_byte b = if is_line_byte b then b else 63

abbrev pub expected_text : Expected → List ℕ
expected_text e = often_text e.x86 e.often ++ codes " " ++ map shown_byte e.line

-- ---- a verdict

abbrev pub ok_text : Verdict → List ℕ
ok_text verdict.Holds = codes "ok "
ok_text (verdict.Shown i) = codes "not ok "
ok_text verdict.Refuted = codes "not ok "
ok_text verdict.NoOutcome = codes "not ok "
ok_text verdict.Hangs = codes "not ok "
ok_text verdict.NoneHangs = codes "not ok "
ok_text verdict.Untold = codes "not ok "
ok_text verdict.Races = codes "not ok "
ok_text verdict.NoRaces = codes "not ok "
ok_text verdict.RacesUntold = codes "not ok "

-- the schedule of an answer, on a line
abbrev pub schedule_text : Option Found → List ℕ
schedule_text None = []
schedule_text (Some found) =
    codes "# by" ++ all_moves_text (length found.by) found.by ++ codes "\n"

-- a schedule to a state from which no end can be reached, on a line
abbrev pub hung_text : List (ℕ × ℕ) → List ℕ
hung_text by = codes "# hung by" ++ all_moves_text (length by) by ++ codes "\n"

-- the first n of them
abbrev pub hung_lines : ℕ → List (List (ℕ × ℕ)) → List ℕ
hung_lines zero hung = []
hung_lines (suc n) hung = hung_lines n hung ++ hung_text (slice_index_or hung n [])

-- that not all outcomes were found, and what may find more
abbrev pub untold_text : (patient : Bool) → List ℕ
untold_text false =
    codes "# not decided: not all outcomes were found; --limit N looks at more states, --patient has fewer\n"
untold_text true = codes "# not decided: not all outcomes were found; --limit N looks at more states\n"

-- why it isn't ok
abbrev pub reason_text : Findings → Verdict → List ℕ
reason_text f verdict.Holds = []
reason_text f (verdict.Shown i) = schedule_text (slice_get f.answers i)
reason_text f verdict.Refuted = codes "# it is so in no outcome\n"
reason_text f verdict.NoOutcome = codes "# no outcome\n"
reason_text f verdict.Hangs = hung_lines (length f.hung) f.hung
reason_text f verdict.NoneHangs = codes "# every schedule can end\n"
reason_text f verdict.Untold = untold_text f.patient
reason_text f verdict.Races = f.raced.lines
reason_text f verdict.NoRaces = codes "# there is no race\n"
reason_text f verdict.RacesUntold =
    codes "# not decided: not all states were looked at for races; --limit N looks at more\n"

abbrev pub number_text : ℕ → List ℕ
number_text n = decimal n ++ codes " - "

-- a test of this number, after this name of its file
abbrev pub test_text : (name : List ℕ) → Findings → ℕ → (what : List ℕ) → Verdict → List ℕ
test_text name f n what v =
    ok_text v ++ number_text n ++ name ++ what ++ codes "\n" ++ reason_text f v

abbrev pub no_expectation : Expected
no_expectation = record { often = often.Always; x86 = false; line = []; join = join.All; parts = [] }

-- the number of the line that expects it, before a test where it is known
abbrev pub mark_text : Option ℕ → List ℕ
mark_text None = []
mark_text (Some line) = codes "line " ++ (decimal line ++ codes " ")

-- the first n tests, after some number of others; each with the number of its line, where these are given
abbrev pub tests_text : (name : List ℕ) → (lines : List ℕ) → (before : ℕ) → Findings → ℕ → List Expected
    → List Verdict → List ℕ
tests_text name lines before f zero expected verdicts = []
tests_text name lines before f (suc n) expected verdicts =
    tests_text name lines before f n expected verdicts
    ++ (mark_text (slice_get lines n)
    ++ test_text name f (before + (n + 1)) (expected_text (slice_index_or expected n no_expectation))
    (slice_index_or verdicts n verdict.Untold))

-- ---- the first test after a patient search

abbrev pub first_count : Findings → ℕ
first_count f = if f.patient then 1 else 0

-- whether every schedule can end
abbrev pub first_text : (name : List ℕ) → (before : ℕ) → Findings → List ℕ
first_text name before f = if f.patient
    then test_text name f (before + 1) (codes "every schedule can end") (ends_verdict f) else []

-- ---- the last test, where there is a fault that isn't expected

abbrev pub last_count : (fault : Option ℕ) → ℕ
last_count None = 0
last_count (Some i) = 1

-- a test of this number, which isn't met, with the schedule of the answer at the fault's place
abbrev pub last_text : (name : List ℕ) → ℕ → Findings → (fault : Option ℕ) → List ℕ
last_text name n f None = []
last_text name n f (Some i) =
    test_text name f n (codes "no job ends in a fault") (verdict.Shown i)

-- ---- all of one file

-- how many tests there are before the last
abbrev pub asked_count : Findings → List Expected → ℕ
asked_count f expected = first_count f + length expected

-- those, after the n tests of the files before it
abbrev pub asked_text : (name : List ℕ) → (lines : List ℕ) → (before : ℕ) → Findings → List Expected
    → List Verdict → List ℕ
asked_text name lines before f expected verdicts = first_text name before f
    ++ tests_text name lines (before + first_count f) f (length expected) expected verdicts

-- how many tests there are
abbrev pub count_of : Findings → List Expected → ℕ
count_of f expected = asked_count f expected + last_count (unexpected_fault f expected)

-- all of them, after the n tests of the files before it
abbrev pub listed_text : (name : List ℕ) → (lines : List ℕ) → (before : ℕ) → Findings → List Expected
    → List Verdict → List ℕ
listed_text name lines before f expected verdicts = asked_text name lines before f expected verdicts
    ++ last_text name (before + (asked_count f expected + 1)) f (unexpected_fault f expected)

-- how many expectations are no tests, since they are of CPUs with store buffers alone, as a comment after a
-- mark; nothing where there is none
abbrev pub left_text : (mark : List ℕ) → ℕ → List ℕ
left_text mark count = if count == 0 then []
    else codes "# " ++ (mark ++ (codes "only --x86 tests " ++ (decimal count ++ codes " more\n")))

-- how many tests there are; where there are none, that they are skipped, in TAP's form
abbrev pub plan_text : ℕ → List ℕ
plan_text count = if count == 0 then codes "1..0 # SKIP no expectations\n"
    else codes "1.." ++ (decimal count ++ codes "\n")

-- the plan, and each test
abbrev pub checked_text : (lines : List ℕ) → Findings → List Expected → List Verdict → List ℕ
checked_text lines f expected verdicts =
    plan_text (count_of f expected) ++ listed_text [] lines 0 f expected verdicts

-- how a file's name is before what is expected, where it is one of several
abbrev pub name_text : List ℕ → List ℕ
name_text name = name ++ codes ": "
