-- What `run --check` replies: whether the outcome of one order of turns is as comments expect.
use Rattle.std.specs.Prelude.{◌≡◌, ◌++◌, ℕ, Bool, true, List, [], Ok, string_bytes}
use Rattle.bpf_check.specs.Expectation.{Expected}
use Rattle.bpf_check.specs.Listing.{left_text}
use Rattle.bpf_check.specs.Single.{is_any_refuted, judged_text}
use Rattle.bpf_file.specs.File.{File}
use Rattle.bpf_file.specs.Reading.{IsRunFile}
use Rattle.bpf_replies.specs.Comments.{AreLeftIn, IsExpectedIn, RefusesComments, for_run}
use Rattle.bpf_replies.specs.Running.{IsToldBy}
use Rattle.bpf_replies.specs.declared.reply.Reply.{Reply}
use Rattle.bpf_replies.specs.declared.reply.Reply.TheVariants as reply

-- a test for each thing that is expected, of the lines that these turns and rounds give, those of the
-- maps among them; and whether one is refuted
abbrev pub IsJudgedBy : (by : List (ℕ × ℕ)) → (keys : Bool) → List Expected → File → List ℕ → Bool
    → Type 0
IsJudgedBy by keys expected f printed refuted =
    (lines : List ℕ) × (stopped : Bool) × IsToldBy by keys true f lines stopped
    × (printed ≡ judged_text lines expected) × (refuted ≡ is_any_refuted lines expected)

-- `run --check`: these tests of what the text's comments expect, after a comment that counts those that are
-- no tests of it; or the first refusal of the file or its comments
abbrev pub IsJudgedOfFile : (by : List (ℕ × ℕ)) → (keys : Bool) → List ℕ → Reply → Type 0
IsJudgedOfFile by keys text (reply.Jobs printed refuted) = (expected : List Expected)
    × IsExpectedIn (for_run keys) text expected
    × (left : ℕ) × AreLeftIn (for_run keys) text left
    × (tests : List ℕ) × (string_bytes printed ≡ left_text [] left ++ tests)
    × ((f : File) × IsRunFile text (Ok f) × IsJudgedBy by keys expected f tests refuted)
IsJudgedOfFile by keys text (reply.Refused r) = RefusesComments (for_run keys) text r
IsJudgedOfFile by keys text _ = ⊥
