-- Verdicts by answers are true.
use Rattle.std.proofs.Common.{◌≡◌, ℕ, zero, suc, ◌+◌, Bool, true, false, not, cond, List, [], ◌∷◌, Option, Some, None, length, refl, sym, subst, ◌∙◌, arith}
use Rattle.std.specs.Prelude.{◌&&◌, slice_get}
use Rattle.std.specs.List.{position, position_from}
use Rattle.std.proofs.lemmas.Bool.{eqb-true}
use Rattle.std.proofs.lemmas.Iterator.Adapters.{position_from-zero}
use Rattle.bpf_names.specs.Names.{Names}
use Rattle.bpf_machine.specs.Schedule.{World, unrolled}
use Rattle.bpf_explore.specs.Outcomes.{AreOutcomes, EndsBy, Found, HaveAll}
use Rattle.bpf_explore.specs.Patient.{EndsPatiently, HangsBy, NoneHangs}
use Rattle.bpf_check.specs.declared.expectation.Often.{Often}
use Rattle.bpf_check.specs.declared.expectation.Often.TheVariants as often
use Rattle.bpf_check.specs.declared.judging.Verdict.{Verdict}
use Rattle.bpf_check.specs.Expectation.{Expected, agrees, asks_ends, asks_hung, asks_of_races}
use Rattle.bpf_check.specs.Faults.{IsTrueFault, are_faults_unexpected, has_fault}
use Rattle.bpf_check.specs.Findings.{Findings}
use Rattle.bpf_check.specs.Laws.{ArePatientFindings, FaultsAreTrue, PatientFaultsAreTrue, PatientVerdictsAreTrue, VerdictsAreTrue}
use Rattle.bpf_check.specs.Verdict.{AreTrueEndsOf, AreTrueRaces, Choose, IsOutcomeText, IsPatientText, IsTrueAsked, IsTrueHangOf, IsTrueOf}
use Rattle.bpf_check.specs.Verdict.{IsTrueRace, decides, decides_by, ends_verdict, hung_verdict, is_empty, outcome_verdict, races_verdict}
use Rattle.bpf_check.specs.Verdict.{verdict_at, verdict_of, verdict_of_ends, verdict_of_hung, verdict_of_none, verdict_of_races}

-- ---- the first element that passes a test
module _ {X : Type 0} (test : X → Bool) where
  -- by its place, where the list begins at place i
  abbrev FindsFrom : ℕ → List X → Option ℕ → Type 0
  FindsFrom i xs None = (j : ℕ) (x : X) → slice_get xs j ≡ Some x → test x ≡ false
  FindsFrom i xs (Some k) =
      (j : ℕ) × (x : X) × (k ≡ i + j) × (slice_get xs j ≡ Some x) × (test x ≡ true)

  abbrev Finds : List X → Option ℕ → Type 0
  Finds xs None = (j : ℕ) (x : X) → slice_get xs j ≡ Some x → test x ≡ false
  Finds xs (Some k) = (x : X) × (slice_get xs k ≡ Some x) × (test x ≡ true)

  none_more : (i : ℕ) (x : X) (xs : List X) → test x ≡ false → FindsFrom (i + 1) xs None → FindsFrom i (x ∷ xs) None
  none_more i x xs fails more zero y at = let same : x ≡ y = cc in subst (λ (z : X). test z ≡ false) same fails
  none_more i x xs fails more (suc j) y at = more j y at

  one_more : (i : ℕ) (x : X) (xs : List X) (o : Option ℕ) → test x ≡ false → FindsFrom (i + 1) xs o → FindsFrom i (x ∷ xs) o
  one_more i x xs None fails more = none_more i x xs fails more
  one_more i x xs (Some k) fails more =
      (suc more.0, more.1, (let e : k ≡ (i + 1) + more.0 = more.2 in omega arith), more.3, more.4)

  by_test : (i : ℕ) (x : X) (xs : List X) (passes : Bool) → test x ≡ passes → FindsFrom (i + 1) xs (position_from test (i + 1) xs)
      → FindsFrom i (x ∷ xs) (cond passes (Some i) (position_from test (i + 1) xs))
  by_test i x xs true e more = (0, x, omega arith, refl, e)
  by_test i x xs false e more = one_more i x xs (position_from test (i + 1) xs) e more

  finds_from : (i : ℕ) (xs : List X) → FindsFrom i xs (position_from test i xs)
  finds_from i [] = λ j x at. cc
  finds_from i (x ∷ xs) = by_test i x xs (test x) refl (finds_from (i + 1) xs)

  from_start : (xs : List X) (o : Option ℕ) → FindsFrom 0 xs o → Finds xs o
  from_start xs None all = all
  from_start xs (Some k) found =
      let same : found.0 ≡ k = (let e : k ≡ 0 + found.0 = found.2 in omega arith) in
      (found.1, subst (λ (j : ℕ). slice_get xs j ≡ Some found.1) same found.3, found.4)

  pub finds : (xs : List X) → Finds xs (position test xs)
  finds xs = subst (Finds xs) (sym (position_from-zero test xs)) (from_start xs (position_from test 0 xs) (finds_from 0 xs))

-- ---- verdicts
has_it : (b : Bool) → not b ≡ false → b ≡ true
has_it true e = refl
has_it false e = cc

lie : (b : Bool) → b ≡ true → not b ≡ true → ⊥
lie true has lacks = cc
lie false has lacks = cc

-- a list in which nothing is has no elements
nothing : {X : Type 0} (xs : List X) → is_empty xs ≡ true → xs ≡ []
nothing [] e = refl
nothing (x ∷ xs) e = let none : length (x ∷ xs) ≡ 0 = eqb-true (length (x ∷ xs)) 0 e in absurd (omega (arith, none))

first_of : {X : Type 0} (xs : List X) → is_empty xs ≡ false → (x : X) × (slice_get xs 0 ≡ Some x)
first_of [] e = let no : true ≡ false = e in absurd cc
first_of (x ∷ xs) e = (x, refl)

-- answers show texts, each by its own schedule
module _ (IsText : List ℕ → Type 0) (IsAnswer : Found → Type 0) (f : Findings) (e : Expected)
    (tells : (found : Found) → IsAnswer found → IsText found.text)
    (each : (i : ℕ) (found : Found) → slice_get f.answers i ≡ Some found → IsAnswer found) where
  abbrev told : Often → Found → Bool
  told o found = decides_by o (agrees e found.text)

  abbrev expects : Often → Expected
  expects o = record { often = o; x86 = e.x86; line = e.line; join = e.join; parts = e.parts }

  is_text : (i : ℕ) (found : Found) → slice_get f.answers i ≡ Some found → IsText found.text
  is_text i found at = tells found (each i found at)

  -- none is left out
  abbrev AreAll : Type 0
  AreAll = (text : List ℕ) → IsText text → (i : ℕ) × (found : Found) × (slice_get f.answers i ≡ Some found) × (found.text ≡ text)

  -- of each text holds what holds of each answer's
  for_each : (P : List ℕ → Type 0) → AreAll → ((i : ℕ) (found : Found) → slice_get f.answers i ≡ Some found → P found.text)
      → (text : List ℕ) → IsText text → P text
  for_each P have here text is = let there = have text is in subst P there.3 (here there.0 there.1 there.2)

  -- where there is no answer there is no text
  no_text : AreAll → is_empty f.answers ≡ true → (text : List ℕ) → IsText text → ⊥
  no_text have none text is =
      let there = have text is in
      let at : slice_get [] there.0 ≡ Some there.1 = subst (λ (xs : List Found). slice_get xs there.0 ≡ Some there.1) (nothing f.answers none) there.2 in
      cc

  some_text : is_empty f.answers ≡ false → (text : List ℕ) × IsText text
  some_text some = let first = first_of f.answers some in (first.0.text, is_text 0 first.0 first.1)

  -- by no answer
  undecided : (o : Often) (all none : Bool) → f.all ≡ all → is_empty f.answers ≡ none → (all ≡ true → AreAll)
      → ((j : ℕ) (found : Found) → slice_get f.answers j ≡ Some found → told o found ≡ false)
      → IsTrueOf IsText IsAnswer f (expects o) (verdict_of_none o all none)
  undecided often.Always false none found is have lacks = found
  undecided often.Sometimes false none found is have lacks = found
  undecided often.Never false none found is have lacks = found
  undecided often.Always true true found is have lacks =
      let no = no_text (have refl) is in ((λ met. no met.1.0 met.1.1), no)
  undecided often.Always true false found is have lacks =
      ((λ text there. for_each (λ t. agrees e t ≡ true) (have refl) (λ i answer at. has_it _ (lacks i answer at)) text there), some_text is)
  undecided often.Sometimes true none found is have lacks =
      λ met. let no = for_each (λ t. agrees e t ≡ false) (have refl) lacks met.0 met.1 in let has = met.2 in cc
  undecided often.Never true none found is have lacks =
      λ text there. for_each (λ t. agrees e t ≡ false) (have refl) lacks text there

  pub decided : (o : Often) (place : Option ℕ) (all none : Bool) → f.all ≡ all → is_empty f.answers ≡ none → (all ≡ true → AreAll)
      → Finds (told o) f.answers place → IsTrueOf IsText IsAnswer f (expects o) (verdict_at o place all none)
  decided o None all none found is have lacks = undecided o all none found is have lacks
  decided often.Always (Some i) all none whole is have found = (
    (λ met. let has = met.0 found.0.text (is_text i found.0 found.1) in lie _ has found.2),
    (found.0, found.1, each i found.0 found.1, found.2),
  )
  decided often.Sometimes (Some i) all none whole is have found = (found.0.text, is_text i found.0 found.1, found.2)
  decided often.Never (Some i) all none whole is have found = (
    (λ met. let lacks = met found.0.text (is_text i found.0 found.1) in let has = found.2 in cc),
    (found.0, found.1, each i found.0 found.1, found.2),
  )

-- ---- races
raced_so : (w : World) (f : Findings) → AreTrueRaces w f → (o : Often) (line : List ℕ) → asks_of_races o line ≡ true → (some all : Bool)
    → f.raced.some ≡ some → f.raced.all ≡ all → IsTrueRace w f o (verdict_of_races o some all)
raced_so w f are often.Always line asks some all is found = let no : false ≡ true = asks in absurd cc
raced_so w f are often.Sometimes line asks true all is found = are.there is
raced_so w f are often.Sometimes line asks false true is found = are.none is found
raced_so w f are often.Sometimes line asks false false is found = found
raced_so w f are often.Never line asks true all is found = are.there is
raced_so w f are often.Never line asks false true is found = are.none is found
raced_so w f are often.Never line asks false false is found = found

-- where it is asked of races, by these, else by another verdict
by_races : (w : World) (f : Findings) (o : Often) (line : List ℕ) (Other : Verdict → Type 0) (v : Verdict) (asks : Bool)
    → asks_of_races o line ≡ asks → (asks_of_races o line ≡ true → AreTrueRaces w f) → Other v
    → Choose asks (IsTrueRace w f o (cond asks (races_verdict f o) v)) (Other (cond asks (races_verdict f o) v))
by_races w f o line Other v true asks are other = raced_so w f (are asks) o line asks f.raced.some f.raced.all refl refl
by_races w f o line Other v false asks are other = other

-- ---- of an exact search
exact : (w : World) (names : Names) (f : Findings) (e : Expected) → AreOutcomes w names true f.answers
    → (f.all ≡ true → HaveAll w names true f.answers) → IsTrueOf (IsOutcomeText w names) (EndsBy w names true) f e (outcome_verdict f e)
exact w names f e are have =
    decided (IsOutcomeText w names) (EndsBy w names true) f e (λ found ends. (found.stopped, (unrolled found.by, ends))) are.each
    e.often _ f.all (is_empty f.answers) refl refl (λ whole text is. let there = have whole text is.0 is.1 in (there.0, there.1, there.2, there.3))
    (finds (λ found. decides e found.text) f.answers)

pub verdicts_true : VerdictsAreTrue
verdicts_true w names f e plain exactly are have raced =
    let Other : Verdict → Type 0 = IsTrueOf (IsOutcomeText w names) (EndsBy w names true) f e in
    let rest : Bool → Verdict = λ patient. cond (patient && asks_ends e.often e.line) (ends_verdict f)
    (cond (patient && asks_hung e.often e.line) (hung_verdict f) (outcome_verdict f e)) in
    by_races w f e.often e.line Other (rest f.patient) (asks_of_races e.often e.line) refl raced
    (subst (λ (patient : Bool). Other (rest patient)) (sym exactly) (exact w names f e are have))

-- ---- of a patient one
patiently : (w : World) (names : Names) (f : Findings) (e : Expected) → ArePatientFindings w names f
    → IsTrueOf (IsPatientText w names) (EndsPatiently w names true) f e (outcome_verdict f e)
patiently w names f e are =
    decided (IsPatientText w names) (EndsPatiently w names true) f e
    (λ found ends. (found.stopped, (unrolled found.by, ends.0, ends.1, ends.2, ends.3, ends.4))) are.outcomes.each
    e.often _ f.all (is_empty f.answers) refl refl (λ whole text is. let there = are.complete whole text is.0 is.1 in (there.0, there.1, there.2, there.3))
    (finds (λ found. decides e found.text) f.answers)

hangs : (w : World) (by : List (ℕ × ℕ)) → HangsBy w by → NoneHangs w → ⊥
hangs w by (z, runs, none, hung) ends = hung (ends (unrolled by) z runs none)

-- whatever hangs, by what is shown of it
module _ (Each : Type 0) (Hangs : List (ℕ × ℕ) → Type 0) (f : Findings)
    (are_hung : (i : ℕ) (by : List (ℕ × ℕ)) → slice_get f.hung i ≡ Some by → Hangs by)
    (none_hangs : f.all ≡ true → f.hung ≡ [] → Each) (hinders : (by : List (ℕ × ℕ)) → Hangs by → Each → ⊥) where
  true_ends_by : (all none : Bool) → f.all ≡ all → is_empty f.hung ≡ none → AreTrueEndsOf Each Hangs f (verdict_of_ends all none)
  true_ends_by all false found is =
      let first = first_of f.hung is in ((λ ends. hinders first.0 (are_hung 0 first.0 first.1) ends), are_hung)
  true_ends_by true true found is = none_hangs found (nothing f.hung is)
  true_ends_by false true found is = found

  true_hang_by : (all none : Bool) → f.all ≡ all → is_empty f.hung ≡ none → IsTrueHangOf Each Hangs f (verdict_of_hung all none)
  true_hang_by all false found is = let first = first_of f.hung is in (first.0, are_hung 0 first.0 first.1)
  true_hang_by true true found is = none_hangs found (nothing f.hung is)
  true_hang_by false true found is = found

  pub true_ends : AreTrueEndsOf Each Hangs f (ends_verdict f)
  true_ends = true_ends_by f.all (is_empty f.hung) refl refl

  module _ (IsText : List ℕ → Type 0) (IsAnswer : Found → Type 0) (e : Expected) (told : IsTrueOf IsText IsAnswer f e (outcome_verdict f e)) where
    -- whichever is asked, but of races
    chosen : (ends hung : Bool)
        → Choose ends (AreTrueEndsOf Each Hangs f (cond ends (ends_verdict f) (cond hung (hung_verdict f) (outcome_verdict f e))))
        (Choose hung (IsTrueHangOf Each Hangs f (cond ends (ends_verdict f) (cond hung (hung_verdict f) (outcome_verdict f e))))
        (IsTrueOf IsText IsAnswer f e (cond ends (ends_verdict f) (cond hung (hung_verdict f) (outcome_verdict f e)))))
    chosen true hung = true_ends_by f.all (is_empty f.hung) refl refl
    chosen false true = true_hang_by f.all (is_empty f.hung) refl refl
    chosen false false = told

    abbrev IsTrueElse : Verdict → Type 0
    IsTrueElse v = Choose (asks_ends e.often e.line) (AreTrueEndsOf Each Hangs f v)
        (Choose (asks_hung e.often e.line) (IsTrueHangOf Each Hangs f v) (IsTrueOf IsText IsAnswer f e v))

    pub asked : (w : World) → f.patient ≡ true → (asks_of_races e.often e.line ≡ true → AreTrueRaces w f)
        → IsTrueAsked w Each Hangs IsText IsAnswer f e (verdict_of f e)
    asked w patient raced =
        let rest : Bool → Verdict = λ so. cond (so && asks_ends e.often e.line) (ends_verdict f)
        (cond (so && asks_hung e.often e.line) (hung_verdict f) (outcome_verdict f e)) in
        by_races w f e.often e.line IsTrueElse (rest f.patient) (asks_of_races e.often e.line) refl raced
        (subst (λ (so : Bool). IsTrueElse (rest so)) (sym patient) (chosen (asks_ends e.often e.line) (asks_hung e.often e.line)))

pub patient_verdicts_true : PatientVerdictsAreTrue
patient_verdicts_true w names f are = (
  true_ends (NoneHangs w) (HangsBy w) f are.are_hung are.none_hangs (hangs w),
  (λ e plain raced. asked (NoneHangs w) (HangsBy w) f are.are_hung are.none_hangs (hangs w) (IsPatientText w names) (EndsPatiently w names true) e
      (patiently w names f e are) w are.patient raced),
)

-- ---- a fault that isn't expected
module _ (IsText : List ℕ → Type 0) (IsAnswer : Found → Type 0) (f : Findings) (expected : List Expected)
    (each : (i : ℕ) (found : Found) → slice_get f.answers i ≡ Some found → IsAnswer found)
    (have : f.all ≡ true → (text : List ℕ) → IsText text → (i : ℕ) × (found : Found) × (slice_get f.answers i ≡ Some found) × (found.text ≡ text)) where
  abbrev faulty : Found → Bool
  faulty found = has_fault found.text

  first_faulty : (place : Option ℕ) → Finds faulty f.answers place → IsTrueFault IsText IsAnswer f expected place
  first_faulty None lacks = λ silent all text is.
      let there = have all text is in
      subst (λ (t : List ℕ). has_fault t ≡ false) there.3 (lacks there.0 there.1 there.2)
  first_faulty (Some i) found = (found.0, found.1, each i found.0 found.1, found.2)

  pub by_silence : (silent : Bool) → are_faults_unexpected expected ≡ silent
      → IsTrueFault IsText IsAnswer f expected (cond silent (position faulty f.answers) None)
  by_silence true none = first_faulty (position faulty f.answers) (finds faulty f.answers)
  by_silence false speaks = λ silent all text is. let no : false ≡ true = sym speaks ∙ silent in absurd cc

pub faults_true : FaultsAreTrue
faults_true w names f expected are have =
    by_silence (IsOutcomeText w names) (EndsBy w names true) f expected are.each
    (λ all text is. let there = have all text is.0 is.1 in (there.0, there.1, there.2, there.3))
    (are_faults_unexpected expected) refl

pub patient_faults_true : PatientFaultsAreTrue
patient_faults_true w names f expected are =
    by_silence (IsPatientText w names) (EndsPatiently w names true) f expected are.outcomes.each
    (λ all text is. let there = are.complete all text is.0 is.1 in (there.0, there.1, there.2, there.3))
    (are_faults_unexpected expected) refl
