-- What is said of one run is true of it.
use Rattle.std.proofs.Common.{◌≡◌, ℕ, suc, ◌+◌, ◌<◌, Bool, true, false, not, List, ◌++◌, length, get_or, refl, sym, ap, subst, ◌∙◌, append_assoc, arith}
use Rattle.std.proofs.lemmas.List.{get_or_read_under}
use Rattle.std.specs.Prelude.{◌&&◌, ◌||◌}
use Rattle.bpf_check.specs.declared.expectation.Often.{Often}
use Rattle.bpf_check.specs.declared.expectation.Often.TheVariants as often
use Rattle.bpf_check.specs.Expectation.{Expected, agrees, asks_of_search}
use Rattle.bpf_check.specs.Listing.{no_expectation}
use Rattle.bpf_check.specs.Single.{RunsAreJudged, is_open_by, is_refuted_by, judged_test, judged_tests}
use Rattle.bpf_check.specs.Verdict.{IsOutcomeText, MeetBy}

turned : (b : Bool) → not b ≡ true → b ≡ false
turned true e = cc
turned false e = refl

kept : (b : Bool) → not b ≡ false → b ≡ true
kept true e = refl
kept false e = cc

never_both : (b : Bool) → b ≡ true → b ≡ false → ⊥
never_both b has lacks = let both : true ≡ false = sym has ∙ lacks in cc

refutes : (IsText : List ℕ → Type 0) (so : List ℕ → Bool) (text : List ℕ) (o : Often) → IsText text → is_refuted_by o (so text) ≡ true → MeetBy IsText so o → ⊥
refutes IsText so text often.Always is e all = never_both (so text) (all.0 text is) (turned (so text) e)
refutes IsText so text often.Sometimes is e one = cc
refutes IsText so text often.Never is e none = never_both (so text) e (none text is)

meets : (so : List ℕ → Bool) (text : List ℕ) (o : Often) → is_refuted_by o (so text) ≡ false → is_open_by o (so text) ≡ false → MeetBy (λ t. t ≡ text) so o
meets so text often.Always e left = ((λ t same. ap so same ∙ kept (so text) e), (text, refl))
meets so text often.Sometimes e left = (text, refl, kept (so text) left)
meets so text often.Never e left = λ t same. ap so same ∙ e

-- where it isn't asked of a search
by_line : (asks refuted : Bool) → not asks && refuted ≡ true → refuted ≡ true
by_line true refuted e = let no : false ≡ true = e in absurd cc
by_line false refuted e = e

not_open : (asks left refuted : Bool) → (asks || left) ≡ false → (not asks && refuted) ≡ false → (left ≡ false) × (refuted ≡ false)
not_open true left refuted e f = let no : true ≡ false = e in absurd cc
not_open false left refuted e f = (e, f)

pub judged : RunsAreJudged
judged w names text e plain is =
    let asks = asks_of_search e.often e.line in
    let so = agrees e text in (
      (λ refuted. refutes (IsOutcomeText w names) (agrees e) text e.often is (by_line asks (is_refuted_by e.often so) refuted)),
      (λ stays left. let both = not_open asks (is_open_by e.often so) (is_refuted_by e.often so) left stays in meets (agrees e) text e.often both.1 both.0),
    )

-- one test more
pub one_judged_more : (printed : List ℕ) (expected : List Expected) (n : ℕ) (e : Expected) (head text new : List ℕ)
    → n < length expected → e ≡ get_or expected n e
    → text ≡ head ++ judged_tests printed n expected → new ≡ text ++ judged_test printed (n + 1) e
    → new ≡ head ++ judged_tests printed (n + 1) expected
one_judged_more printed expected n e head text new inside is so_far more =
    let some : e ≡ get_or expected n no_expectation = get_or_read_under expected n (length expected) e no_expectation is inside refl in
    let before = judged_tests printed n expected in
    let next : suc n ≡ n + 1 = omega arith in
    subst (λ (k : ℕ). new ≡ head ++ judged_tests printed k expected) next
    (more ∙ (ap (λ (t : List ℕ). t ++ judged_test printed (n + 1) e) so_far ∙ (append_assoc head before (judged_test printed (n + 1) e)
    ∙ ap (λ (x : Expected). head ++ (before ++ judged_test printed (n + 1) x)) some)))
