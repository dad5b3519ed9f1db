-- What a run file expects, against what one run of its jobs prints. Our own choice.
use Rattle.std.specs.Prelude.{◌≡◌, ℕ, zero, suc, ◌+◌, Bool, true, false, not, ◌&&◌, ◌||◌, ◌++◌, List, [], codes, if◌then◌else◌, length, slice_index_or}
use Rattle.std.specs.List.{list_any}
use Rattle.bpf_names.specs.Names.{Names}
use Rattle.bpf_machine.specs.Schedule.{World}
use Rattle.bpf_check.specs.declared.expectation.Often.{Often}
use Rattle.bpf_check.specs.declared.expectation.Often.TheVariants as often
use Rattle.bpf_check.specs.Expectation.{Expected, agrees, asks_of_search}
use Rattle.bpf_check.specs.Listing.{expected_text, no_expectation, number_text, plan_text}
use Rattle.bpf_check.specs.Verdict.{IsMet, IsOutcomeText, Meet}

-- ---- the one text

-- it shows that outcomes aren't as expected: it isn't as each is to be, or as none is to be
abbrev pub is_refuted_by : Often → (so : Bool) → Bool
is_refuted_by often.Always so = not so
is_refuted_by often.Sometimes so = false
is_refuted_by often.Never so = so

abbrev pub is_refuted : List ℕ → Expected → Bool
is_refuted text e =
    not (asks_of_search e.often e.line) && is_refuted_by e.often (agrees e text)

abbrev pub is_any_refuted : List ℕ → List Expected → Bool
is_any_refuted text expected = list_any (λ e. is_refuted text e) expected

-- nor does it show that they are: another outcome may be so; and if schedules can end, or race, no single
-- one decides
abbrev pub is_open_by : Often → (so : Bool) → Bool
is_open_by often.Always so = false
is_open_by often.Sometimes so = not so
is_open_by often.Never so = false

abbrev pub is_open : List ℕ → Expected → Bool
is_open text e = asks_of_search e.often e.line || is_open_by e.often (agrees e text)

-- SO WHAT ONE RUN REFUTES DOESN'T HOLD of the outcomes of all schedules, of which its own is one;
-- what it neither refutes nor leaves open would hold if there were no other
abbrev pub RunsAreJudged : Type 0
RunsAreJudged = (w : World) (names : Names) (text : List ℕ) (e : Expected) → e.x86 ≡ false
    → IsOutcomeText w names text → (is_refuted text e ≡ true → IsMet w names e → ⊥)
    × (is_refuted text e ≡ false → is_open text e ≡ false → Meet (λ t. t ≡ text) e)

-- ---- as it is printed

abbrev pub refuted_text : Bool → List ℕ
refuted_text refuted = if refuted then codes "not ok " else codes "ok "

-- a test that is left open is skipped, in TAP's form
abbrev pub open_text : (asks left : Bool) → List ℕ
open_text asks false = codes "\n"
open_text true true = codes " # SKIP one run can't tell it\n"
open_text false true = codes " # SKIP it isn't so in this run\n"

abbrev pub shown_text : Often → List ℕ
shown_text often.Always = codes "# it isn't so in this run\n"
shown_text often.Sometimes = []
shown_text often.Never = codes "# it is so in this run\n"

-- why it isn't ok
abbrev pub why_text : Often → Bool → List ℕ
why_text o refuted = if refuted then shown_text o else []

-- a test of this number
abbrev pub judged_test : List ℕ → ℕ → Expected → List ℕ
judged_test text n e =
    refuted_text (is_refuted text e) ++ number_text n ++ expected_text e
    ++ open_text (asks_of_search e.often e.line) (is_open text e) ++ why_text e.often (is_refuted text e)

-- the first n tests; they count from 1
abbrev pub judged_tests : List ℕ → ℕ → List Expected → List ℕ
judged_tests text zero expected = []
judged_tests text (suc n) expected =
    judged_tests text n expected
    ++ judged_test text (n + 1) (slice_index_or expected n no_expectation)

-- the plan, and each test
abbrev pub judged_text : List ℕ → List Expected → List ℕ
judged_text text expected =
    plan_text (length expected) ++ judged_tests text (length expected) expected
