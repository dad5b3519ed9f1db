-- One test more.
use Rattle.std.proofs.Common.{◌≡◌, ℕ, suc, ◌+◌, ◌<◌, List, ◌++◌, length, get_or, refl, ap, subst, ◌∙◌, append_assoc, arith}
use Rattle.std.specs.Prelude.{slice_get}
use Rattle.std.proofs.lemmas.List.{get_or_default, get_or_read_under}
use Rattle.bpf_check.specs.declared.judging.Verdict.{Verdict}
use Rattle.bpf_check.specs.declared.judging.Verdict.TheVariants as verdict
use Rattle.bpf_check.specs.Expectation.{Expected}
use Rattle.bpf_check.specs.Findings.{Findings}
use Rattle.bpf_check.specs.Listing.{expected_text, mark_text, no_expectation, test_text, tests_text}

module _ (name : List ℕ) (lines : List ℕ) (from : ℕ) (f : Findings) (n : ℕ) where
  -- the test of an expectation with this verdict, after the number of its line
  abbrev marked_test : Expected → Verdict → List ℕ
  marked_test e v = mark_text (slice_get lines n) ++ test_text name f (from + (n + 1)) (expected_text e) v

  pub one_test_more : (expected : List Expected) (verdicts : List Verdict) (e : Expected) (v : Verdict) (head text marked new : List ℕ)
      → n < length expected → length verdicts ≡ length expected → e ≡ get_or expected n e → v ≡ get_or verdicts n verdict.Holds
      → text ≡ head ++ tests_text name lines from f n expected verdicts → marked ≡ text ++ mark_text (slice_get lines n)
      → new ≡ marked ++ test_text name f (from + (n + 1)) (expected_text e) v
      → new ≡ head ++ tests_text name lines from f (n + 1) expected verdicts
  one_test_more expected verdicts e v head text marked new inside same is judged so_far mark more =
      let some : e ≡ get_or expected n no_expectation = get_or_read_under expected n (length expected) e no_expectation is inside refl in
      let within : n < length verdicts = omega arith in
      let told : v ≡ get_or verdicts n verdict.Untold = judged ∙ get_or_default verdicts n verdict.Holds verdict.Untold within in
      let before = tests_text name lines from f n expected verdicts in
      let next : suc n ≡ n + 1 = omega arith in
      let test = test_text name f (from + (n + 1)) (expected_text e) v in
      let both : new ≡ text ++ marked_test e v =
      more ∙ (ap (λ (t : List ℕ). t ++ test) mark ∙ append_assoc text (mark_text (slice_get lines n)) test) in
      subst (λ (k : ℕ). new ≡ head ++ tests_text name lines from f k expected verdicts) next
      (both ∙ (ap (λ (t : List ℕ). t ++ marked_test e v) so_far ∙ (append_assoc head before (marked_test e v)
      ∙ (ap (λ (x : Expected). head ++ (before ++ marked_test x v)) some
      ∙ ap (λ (x : Verdict). head ++ (before ++ marked_test (get_or expected n no_expectation) x)) told))))
