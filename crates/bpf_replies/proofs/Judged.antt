-- What a run is judged by is what is printed of it.
use Rattle.std.proofs.Common.{◌≡◌, ◌++◌, ◌∙◌, ℕ, Bool, true, List, [], Ok, ap}
use Rattle.bpf_check.specs.Expectation.{Expected}
use Rattle.bpf_check.specs.Listing.{left_text}
use Rattle.bpf_check.specs.Single.{is_any_refuted, judged_text}
use Rattle.bpf_file.specs.File.{File}
use Rattle.bpf_file.specs.Reading.{IsRunFile}
use Rattle.bpf_replies.specs.Judging.{IsJudgedBy}
use Rattle.bpf_replies.specs.Running.{IsToldBy}

pub judged : (by : List (ℕ × ℕ)) (keys : Bool) (text lines shown printed : List ℕ) (stopped refuted : Bool) (expected given : List Expected)
    → (f : File) × IsRunFile text (Ok f) × IsToldBy by keys true f lines stopped
    → given ≡ expected → shown ≡ lines → printed ≡ judged_text shown given → refuted ≡ is_any_refuted shown given
    → (f : File) × IsRunFile text (Ok f) × IsJudgedBy by keys expected f printed refuted
judged by keys text lines shown printed stopped refuted expected given (f, said, told) same alike is one = (
  f,
  said,
  (
    lines,
    stopped,
    told,
    is ∙ (ap (λ (t : List ℕ). judged_text t given) alike ∙ ap (λ (es : List Expected). judged_text lines es) same),
    one ∙ (ap (λ (t : List ℕ). is_any_refuted t given) alike ∙ ap (λ (es : List Expected). is_any_refuted lines es) same),
  ),
)

-- after the comment that counts what is no test
pub after_left : (left : ℕ) (printed tests whole : List ℕ) → whole ≡ left_text [] left ++ tests → tests ≡ printed
    → whole ≡ left_text [] left ++ printed
after_left left printed tests whole is same = is ∙ ap (λ (t : List ℕ). left_text [] left ++ t) same
