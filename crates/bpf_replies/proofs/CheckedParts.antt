-- The part of a text whose tests were made.
use Rattle.std.proofs.Common.{◌≡◌, ◌++◌, ◌∙◌, ℕ, Bool, false, List, Option, ap, subst}
use Rattle.std.specs.Prelude.{codes}
use Rattle.bpf_command.specs.declared.command.CheckOptions.{CheckOptions}
use Rattle.bpf_check.specs.Expectation.{Expected}
use Rattle.bpf_check.specs.Findings.{Findings}
use Rattle.bpf_check.specs.Listing.{count_of, listed_text, name_text}
use Rattle.bpf_check.specs.Verdict.{conclusion_of, verdicts_of}
use Rattle.bpf_check.specs.declared.judging.Conclusion.{Conclusion}
use Rattle.bpf_replies.specs.Checking.{head_text, is_told, is_unmet, states_of}
use Rattle.bpf_replies.specs.Several.{Part, checked_part}
use Rattle.bpf_replies.specs.declared.checking.Notes.{Notes}

abbrev part : List ℕ → ℕ → Bool → Bool → Part
part text tests unmet told = record { text = text; tests = tests; refused = false; unmet = unmet; told = told }

-- what is printed before tests, after this mark
pub head_made : (name mark : List ℕ) (states known : Option ℕ) (notes : Notes) → mark ≡ name ++ codes ": " → states ≡ known
    → head_text mark states notes ≡ head_text (name ++ codes ": ") known notes
head_made name mark states known notes is same =
    ap (λ (m : List ℕ). head_text m states notes) is ∙ ap (λ (n : Option ℕ). head_text (name ++ codes ": ") n notes) same

-- its tests, after comments that count states and say in which ways threads may reach more
text_made : (o : CheckOptions) (name lines : List ℕ) (before : ℕ) (f : Findings) (notes : Notes) (expected : List Expected) (text tests head : List ℕ)
    → tests ≡ listed_text (name_text name) lines before f expected (verdicts_of f expected) → head ≡ head_text (name ++ codes ": ") (states_of o f) notes
    → text ≡ head ++ tests → text ≡ (checked_part o name lines before f notes expected).text
text_made o name lines before f notes expected text tests head are is made =
    made ∙ (ap (λ (h : List ℕ). h ++ tests) is ∙ ap (λ (t : List ℕ). head_text (name ++ codes ": ") (states_of o f) notes ++ t) are)

pub part_made : (o : CheckOptions) (name lines : List ℕ) (before : ℕ) (f : Findings) (notes : Notes) (expected given : List Expected)
    (text tests head : List ℕ) (count : ℕ) (end : Conclusion) (unmet told : Bool)
    → given ≡ expected → tests ≡ listed_text (name_text name) lines before f given (verdicts_of f given) → count ≡ count_of f given → end ≡
    conclusion_of f given
    → head ≡ head_text (name ++ codes ": ") (states_of o f) notes → text ≡ head ++ tests → unmet ≡ is_unmet end → told ≡ is_told end
    → part text count unmet told ≡ checked_part o name lines before f notes expected
part_made o name lines before f notes expected given text tests head count end unmet told same are number ends is made met all =
    let T : List Expected → Type 0 = λ es. tests ≡ listed_text (name_text name) lines before f es (verdicts_of f es) in
    let N : List Expected → Type 0 = λ es. count ≡ count_of f es in
    let E : List Expected → Type 0 = λ es. end ≡ conclusion_of f es in
    let c : Part = checked_part o name lines before f notes expected in
    let one : text ≡ c.text = text_made o name lines before f notes expected text tests head (subst T same are) is made in
    let two : count ≡ c.tests = subst N same number in
    let three : unmet ≡ c.unmet = met ∙ ap (λ (e : Conclusion). is_unmet e) (subst E same ends) in
    let four : told ≡ c.told = all ∙ ap (λ (e : Conclusion). is_told e) (subst E same ends) in
    ap (λ (t : List ℕ). part t count unmet told) one
    ∙ (ap (λ (n : ℕ). part c.text n unmet told) two
    ∙ (ap (λ (b : Bool). part c.text c.tests b told) three
    ∙ ap (λ (b : Bool). part c.text c.tests c.unmet b) four))
