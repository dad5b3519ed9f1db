-- What a run file expects of its outcomes, in its comments. Our own choice.
use Rattle.std.specs.Prelude.{ℕ, ◌+◌, Bool, true, false, not, ◌==◌, ◌&&◌, ◌||◌, List, [], ◌∷◌, Option, Some, None, if◌then◌else◌}
use Rattle.std.specs.Prelude.{is_none, is_some, option_and_then, option_map, codes, length}
use Rattle.std.specs.List.{filter_map, list_any, position}
use Rattle.std.specs.Str.{bytes_eq}
use Rattle.bpf_lines.specs.Lines.{lines_of}
use Rattle.bpf_check.specs.declared.expectation.Often.{Often}
use Rattle.bpf_check.specs.declared.expectation.Often.TheVariants as often
use Rattle.bpf_check.specs.Claim.{Part, has_part, joined}
use Rattle.bpf_check.specs.Comments.{is_near, words_of}
use Rattle.bpf_check.specs.Parts.{join_in, joint_of, line_of, line_part, parts_in}
use Rattle.bpf_check.specs.Settings.{is_misset}
use Rattle.bpf_check.specs.Subjects.{Subjects, can_print_all}
use Rattle.bpf_check.specs.declared.claim.Join.{Join}
use Rattle.bpf_check.specs.declared.claim.Join.TheVariants as join

-- how often outcomes are to be as a line of words claims, whether those of CPUs with store buffers alone,
-- and what that is: its parts, and how they are joined. Or, where the line is `ends` or `hung`, that each
-- schedule can end, or that some can't; or, where it is `race`, that there is a data race, or none
pub record Expected : Type 0 where
  pub often : Often
  pub x86 : Bool
  pub line : List ℕ
  pub join : Join
  pub parts : List Part

-- AN OUTCOME'S TEXT IS AS IT CLAIMS
abbrev pub agrees : Expected → List ℕ → Bool
agrees e text = joined e.join (λ p. has_part p text) e.parts

-- how often, of all CPUs, or of those with store buffers alone
abbrev pub often_text : (x86 : Bool) → Often → List ℕ
often_text false often.Always = codes "always"
often_text false often.Sometimes = codes "sometimes"
often_text false often.Never = codes "never"
often_text true often.Always = codes "always-x86"
often_text true often.Sometimes = codes "sometimes-x86"
often_text true often.Never = codes "never-x86"

abbrev pub is_often : (x86 : Bool) → Often → List ℕ → Bool
is_often x86 o word = bytes_eq (often_text x86 o) word

abbrev pub often_in : (x86 : Bool) → List ℕ → Option Often
often_in x86 word =
    if is_often x86 often.Always word then Some often.Always
    else (if is_often x86 often.Sometimes word then Some often.Sometimes
    else (if is_often x86 often.Never word then Some often.Never else None))

-- a word that says it of CPUs with store buffers alone
abbrev pub is_of_x86 : List ℕ → Bool
is_of_x86 word = is_some (often_in true word)

-- ---- what asks of a search, and not of outcomes

abbrev pub ends_line : List ℕ
ends_line = codes "ends"

abbrev pub hung_line : List ℕ
hung_line = codes "hung"

-- `always ends`
abbrev pub asks_ends : Often → List ℕ → Bool
asks_ends often.Always line = bytes_eq line ends_line
asks_ends often.Sometimes line = false
asks_ends often.Never line = false

-- `sometimes hung`
abbrev pub asks_hung : Often → List ℕ → Bool
asks_hung often.Always line = false
asks_hung often.Sometimes line = bytes_eq line hung_line
asks_hung often.Never line = false

abbrev pub asks_of_ends : Often → List ℕ → Bool
asks_of_ends o line = asks_ends o line || asks_hung o line

-- `sometimes race`, `never race`
abbrev pub asks_of_races : Often → List ℕ → Bool
asks_of_races often.Always line = false
asks_of_races often.Sometimes line = bytes_eq line (codes "race")
asks_of_races often.Never line = bytes_eq line (codes "race")

abbrev pub asks_of_search : Often → List ℕ → Bool
asks_of_search o line = asks_of_ends o line || asks_of_races o line

abbrev pub are_races_asked : List Expected → Bool
are_races_asked expected = list_any (λ e. asks_of_races e.often e.line) expected

-- ---- a comment

-- of races, but not of CPUs with store buffers alone, or where that may be asked if schedules can end
abbrev pub can_ask : Subjects → (x86 : Bool) → Often → List (List ℕ) → Bool
can_ask s x86 o words = length words == 1
    && ((not x86 && asks_of_races o (line_of words)) || (s.ends && asks_of_ends o (line_of words)))

-- the words are one line, or ask that; so a map may have the name `and` or `or`
abbrev pub is_whole : Subjects → (x86 : Bool) → Often → List (List ℕ) → Bool
is_whole s x86 o words = can_print_all s words || can_ask s x86 o words

abbrev pub whole : (x86 : Bool) → Often → (line : List ℕ) → Expected
whole x86 o line =
    record { often = o; x86 = x86; line = line; join = join.All; parts = line_part line ∷ [] }

abbrev pub claimed : (x86 : Bool) → Often → (line : List ℕ) → Join → List Part → Expected
claimed x86 o line j parts = record { often = o; x86 = x86; line = line; join = j; parts = parts }

abbrev pub claim_of : Subjects → (x86 : Bool) → Often → List (List ℕ) → Option Expected
claim_of s x86 o words = option_map (claimed x86 o (line_of words) (join_in words))
    (parts_in s (joint_of (join_in words)) words)

-- what the words of a comment expect: how often, and then a line, or parts
unfoldable pub expected_by : Subjects → (x86 : Bool) → (word : List ℕ) → List (List ℕ)
    → Option Expected
expected_by s x86 word words = option_and_then (λ o. if is_whole s x86 o words
    then Some (whole x86 o (line_of words)) else claim_of s x86 o words) (often_in x86 word)

abbrev pub expected_in : Subjects → List (List ℕ) → Option Expected
expected_in s [] = None
expected_in s (word ∷ []) = None
expected_in s (word ∷ first ∷ more) = expected_by s (is_of_x86 word) word (first ∷ more)

-- a word that is nearly one of both kinds
abbrev pub is_near_often : (x86 : Bool) → List ℕ → Bool
is_near_often x86 word = is_near word (often_text x86 often.Always)
    || (is_near word (often_text x86 often.Sometimes) || is_near word (often_text x86 often.Never))

abbrev pub seems_often : List ℕ → Bool
seems_often word = is_near_often false word || is_near_often true word

-- the words are meant to expect something: such a word, and one more or several
abbrev pub is_claim : List (List ℕ) → Bool
is_claim [] = false
is_claim (word ∷ []) = false
is_claim (word ∷ second ∷ more) = seems_often word

-- the words of a comment are meant to expect something, or to say how the file is checked, and can't
abbrev pub is_amiss : Subjects → List (List ℕ) → Bool
is_amiss s words = is_misset words || (is_claim words && is_none (expected_in s words))

-- ---- a file

-- IT IS A TEST of these CPUs: of those with store buffers each is, and of others what isn't expected of
-- CPUs with store buffers alone
abbrev pub is_test : Subjects → Expected → Bool
is_test s e = s.x86 || not e.x86

abbrev pub only_test : Subjects → Expected → Option Expected
only_test s e = if is_test s e then Some e else None

-- what the words of a comment expect, if it is one
abbrev pub test_in : Subjects → List (List ℕ) → Option Expected
test_in s words = option_and_then (only_test s) (expected_in s words)

-- WHAT IS TESTED OF A RUN FILE, in the order of its lines
abbrev pub expectations_of : Subjects → List ℕ → List Expected
expectations_of s text = filter_map (λ line. test_in s (words_of line)) (lines_of text)

-- the words expect something that is no test
abbrev pub is_no_test : Subjects → Option Expected → Bool
is_no_test s None = false
is_no_test s (Some e) = not (is_test s e)

abbrev pub is_left : Subjects → List (List ℕ) → Bool
is_left s words = is_no_test s (expected_in s words)

-- how many of these lines do
abbrev pub count_left : Subjects → List (List ℕ) → ℕ
count_left s [] = 0
count_left s (line ∷ more) =
    if is_left s (words_of line) then count_left s more + 1 else count_left s more

-- HOW MANY EXPECTATIONS of a run file are no tests
abbrev pub left_of : Subjects → List ℕ → ℕ
left_of s text = count_left s (lines_of text)

-- the numbers of the lines that expect something that is tested, where the first of them has this number
abbrev pub lines_from : Subjects → ℕ → List (List ℕ) → List ℕ
lines_from s n [] = []
lines_from s n (line ∷ more) = if is_some (test_in s (words_of line)) then n ∷ lines_from s (n + 1) more
    else lines_from s (n + 1) more

-- AT WHICH LINES IT DOES, counted from 1: a number for each expectation that is tested
abbrev pub expectation_lines : Subjects → List ℕ → List ℕ
expectation_lines s text = lines_from s 1 (lines_of text)

-- the first line whose comment is meant to expect something and can't, counted from 0
abbrev pub first_amiss : Subjects → List ℕ → Option ℕ
first_amiss s text = position (λ line. is_amiss s (words_of line)) (lines_of text)
