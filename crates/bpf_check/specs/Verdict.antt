-- Whether outcomes are as expected, and what the findings of a search say of that.
use Rattle.std.specs.Prelude.{◌≡◌, ◌<◌, ℕ, ◌==◌, ◌&&◌, ◌||◌, Bool, true, false, not, if◌then◌else◌, is_some, List, Option, Some, None, length, map, slice_get}
use Rattle.std.specs.List.{list_any, position}
use Rattle.bpf_names.specs.Names.{Names}
use Rattle.bpf_machine.specs.Patient.{NoneRanOut}
use Rattle.bpf_machine.specs.Race.{IsRace}
use Rattle.bpf_machine.specs.Schedule.{World, RunsSchedule}
use Rattle.bpf_machine.specs.declared.machine.Stand.{Stand}
use Rattle.bpf_explore.specs.Outcomes.{Found, EndsBy, IsOutcome}
use Rattle.bpf_explore.specs.Patient.{EndsPatiently, HangsBy, IsPatientOutcome, NoneHangs}
use Rattle.bpf_check.specs.declared.expectation.Often.{Often}
use Rattle.bpf_check.specs.declared.expectation.Often.TheVariants as often
use Rattle.bpf_check.specs.declared.judging.Verdict.{Verdict}
use Rattle.bpf_check.specs.declared.judging.Verdict.TheVariants as verdict
use Rattle.bpf_check.specs.declared.judging.Conclusion.{Conclusion}
use Rattle.bpf_check.specs.declared.judging.Conclusion.TheVariants as conclusion
use Rattle.bpf_check.specs.Expectation.{Expected, agrees, asks_ends, asks_hung, asks_of_races}
use Rattle.bpf_check.specs.Faults.{unexpected_fault}
use Rattle.bpf_check.specs.Findings.{Findings}

-- ---- what is expected

abbrev pub MeetBy : (IsText : List ℕ → Type 0) → (so : List ℕ → Bool) → Often → Type 0
MeetBy IsText so often.Always =
    ((text : List ℕ) → IsText text → so text ≡ true) × ((text : List ℕ) × IsText text)
MeetBy IsText so often.Sometimes = (text : List ℕ) × IsText text × (so text ≡ true)
MeetBy IsText so often.Never = (text : List ℕ) → IsText text → so text ≡ false

-- the texts are as expected: each is as it claims, and there is one; some is; or none is
abbrev pub Meet : (List ℕ → Type 0) → Expected → Type 0
Meet IsText e = MeetBy IsText (agrees e) e.often

-- some schedule leads to this text
abbrev pub IsOutcomeText : World → Names → List ℕ → Type 0
IsOutcomeText w names text = (stopped : Bool) × IsOutcome w names true text stopped

-- THE JOBS' OUTCOMES ARE AS EXPECTED, whatever the order of the CPUs' turns
abbrev pub IsMet : World → Names → Expected → Type 0
IsMet w names e = Meet (IsOutcomeText w names) e

-- ---- what findings say of it

abbrev pub decides_by : Often → Bool → Bool
decides_by often.Always so = not so
decides_by often.Sometimes so = so
decides_by often.Never so = so

-- whether an outcome of this text alone decides whether they are: of `always`, one that isn't as it
-- claims; of the others, one that is
abbrev pub decides : Expected → List ℕ → Bool
decides e text = decides_by e.often (agrees e text)

-- where no answer decides: whether they are all, and whether there is one
abbrev pub verdict_of_none : Often → (all none : Bool) → Verdict
verdict_of_none o false none = verdict.Untold
verdict_of_none often.Always true true = verdict.NoOutcome
verdict_of_none often.Always true false = verdict.Holds
verdict_of_none often.Sometimes true none = verdict.Refuted
verdict_of_none often.Never true none = verdict.Holds

-- by the place of the first answer that decides
abbrev pub verdict_at : Often → Option ℕ → (all none : Bool) → Verdict
verdict_at o None all none = verdict_of_none o all none
verdict_at often.Always (Some i) all none = verdict.Shown i
verdict_at often.Sometimes (Some i) all none = verdict.Holds
verdict_at often.Never (Some i) all none = verdict.Shown i

abbrev pub is_empty : {X : Type 0} → List X → Bool
is_empty xs = length xs == 0

-- of outcomes
abbrev pub outcome_verdict : Findings → Expected → Verdict
outcome_verdict f e =
    verdict_at e.often (position (λ found. decides e found.text) f.answers) f.all (is_empty f.answers)

-- whether each schedule can end: whether all was found, and nothing that hangs
abbrev pub verdict_of_ends : (all none : Bool) → Verdict
verdict_of_ends all false = verdict.Hangs
verdict_of_ends true true = verdict.Holds
verdict_of_ends false true = verdict.Untold

abbrev pub ends_verdict : Findings → Verdict
ends_verdict f = verdict_of_ends f.all (is_empty f.hung)

-- whether some can't
abbrev pub verdict_of_hung : (all none : Bool) → Verdict
verdict_of_hung all false = verdict.Holds
verdict_of_hung true true = verdict.NoneHangs
verdict_of_hung false true = verdict.Untold

abbrev pub hung_verdict : Findings → Verdict
hung_verdict f = verdict_of_hung f.all (is_empty f.hung)

-- whether there is a data race, as is to be: whether one was found, and whether all were
abbrev pub verdict_of_races : Often → (some all : Bool) → Verdict
verdict_of_races often.Always some all = verdict.RacesUntold
verdict_of_races often.Sometimes true all = verdict.Holds
verdict_of_races often.Sometimes false true = verdict.NoRaces
verdict_of_races often.Sometimes false false = verdict.RacesUntold
verdict_of_races often.Never true all = verdict.Races
verdict_of_races often.Never false true = verdict.Holds
verdict_of_races often.Never false false = verdict.RacesUntold

abbrev pub races_verdict : Findings → Often → Verdict
races_verdict f o = verdict_of_races o f.raced.some f.raced.all

-- THE VERDICT
abbrev pub verdict_of : Findings → Expected → Verdict
verdict_of f e = if asks_of_races e.often e.line then races_verdict f e.often
    else (if f.patient && asks_ends e.often e.line then ends_verdict f
    else (if f.patient && asks_hung e.often e.line then hung_verdict f else outcome_verdict f e))

abbrev pub verdicts_of : Findings → List Expected → List Verdict
verdicts_of f expected = map (verdict_of f) expected

-- ---- all of them

abbrev pub is_refused : Verdict → Bool
is_refused verdict.Holds = false
is_refused (verdict.Shown i) = true
is_refused verdict.Hangs = true
is_refused verdict.Refuted = true
is_refused verdict.NoOutcome = true
is_refused verdict.NoneHangs = true
is_refused verdict.Untold = false
is_refused verdict.Races = true
is_refused verdict.NoRaces = true
is_refused verdict.RacesUntold = false

abbrev pub is_untold : Verdict → Bool
is_untold verdict.Holds = false
is_untold (verdict.Shown i) = false
is_untold verdict.Hangs = false
is_untold verdict.Refuted = false
is_untold verdict.NoOutcome = false
is_untold verdict.NoneHangs = false
is_untold verdict.Untold = true
is_untold verdict.Races = false
is_untold verdict.NoRaces = false
is_untold verdict.RacesUntold = true

abbrev pub concluded : Bool → Bool → Conclusion
concluded true untold = conclusion.Unmet
concluded false true = conclusion.Untold
concluded false false = conclusion.Met

-- of the tests of a file, of which a patient search's first asks if each schedule can end, and of which
-- one more isn't met where there is a fault that isn't expected: one isn't met; none of them, but one
-- couldn't be decided; or all are met
abbrev pub conclusion_by : Findings → (fault : Option ℕ) → List Verdict → Conclusion
conclusion_by f fault verdicts = concluded
    (is_some fault || ((f.patient && is_refused (ends_verdict f)) || list_any is_refused verdicts))
    ((f.patient && is_untold (ends_verdict f)) || list_any is_untold verdicts)

abbrev pub conclusion_of : Findings → List Expected → Conclusion
conclusion_of f expected =
    conclusion_by f (unexpected_fault f expected) (verdicts_of f expected)

-- ---- data races

-- the next steps of two CPUs are one
abbrev pub IsRacing : World → Type 0
IsRacing z = (one : Stand) × (other : Stand) × (b : ℕ) × (one.cpu < other.cpu) × IsRace z one other b

-- some schedule leads to a machine in which they are
abbrev pub HasRace : World → Type 0
HasRace w = (schedule : List ℕ) × (z : World) × RunsSchedule w schedule z × IsRacing z

-- none does; or none by which each job has steps left
abbrev pub HasNoRace : (patient : Bool) → World → Type 0
HasNoRace false w = (schedule : List ℕ) (z : World) → RunsSchedule w schedule z → IsRacing z → ⊥
HasNoRace true w =
    (schedule : List ℕ) (z : World) → RunsSchedule w schedule z → NoneRanOut z.jobs → IsRacing z → ⊥

-- what was found of races is so
pub record AreTrueRaces (w : World) (f : Findings) : Type 0 where
  pub there : f.raced.some ≡ true → HasRace w
  pub none : f.raced.some ≡ false → f.raced.all ≡ true → HasNoRace f.patient w

-- what a verdict says of them
abbrev pub IsTrueRace : World → Findings → Often → Verdict → Type 0
IsTrueRace w f often.Sometimes verdict.Holds = HasRace w
IsTrueRace w f often.Never verdict.Holds = HasNoRace f.patient w
IsTrueRace w f o verdict.Races = HasRace w
IsTrueRace w f o verdict.NoRaces = HasNoRace f.patient w
IsTrueRace w f o verdict.RacesUntold = f.raced.all ≡ false
IsTrueRace w f o _ = ⊥

-- ---- verdicts are true

-- the answer at this place is one by its own schedule, and decides
abbrev pub IsShownAt : (IsAnswer : Found → Type 0) → List Found → Expected → ℕ → Type 0
IsShownAt IsAnswer answers e i = (found : Found) × (slice_get answers i ≡ Some found)
    × IsAnswer found × (decides e found.text ≡ true)

-- what a verdict says of texts, of which answers by their schedules show some
abbrev pub IsTrueOf : (IsText : List ℕ → Type 0) → (IsAnswer : Found → Type 0) → Findings → Expected
    → Verdict → Type 0
IsTrueOf IsText IsAnswer f e verdict.Holds = Meet IsText e
IsTrueOf IsText IsAnswer f e (verdict.Shown i) =
    (Meet IsText e → ⊥) × IsShownAt IsAnswer f.answers e i
IsTrueOf IsText IsAnswer f e verdict.Refuted = Meet IsText e → ⊥
IsTrueOf IsText IsAnswer f e verdict.NoOutcome =
    (Meet IsText e → ⊥) × ((text : List ℕ) → IsText text → ⊥)
IsTrueOf IsText IsAnswer f e verdict.Untold = f.all ≡ false
IsTrueOf IsText IsAnswer f e verdict.Hangs = ⊥
IsTrueOf IsText IsAnswer f e verdict.NoneHangs = ⊥
IsTrueOf IsText IsAnswer f e verdict.Races = ⊥
IsTrueOf IsText IsAnswer f e verdict.NoRaces = ⊥
IsTrueOf IsText IsAnswer f e verdict.RacesUntold = ⊥

-- one of both claims
abbrev pub Choose : Bool → Type 0 → Type 0 → Type 0
Choose true Claim Other = Claim
Choose false Claim Other = Other

-- of all schedules: of races, or of outcomes
abbrev pub IsTrueVerdict : World → Names → Findings → Expected → Verdict → Type 0
IsTrueVerdict w names f e v = Choose (asks_of_races e.often e.line) (IsTrueRace w f e.often v)
    (IsTrueOf (IsOutcomeText w names) (EndsBy w names true) f e v)

-- of those in which no job is out of budget
abbrev pub IsPatientText : World → Names → List ℕ → Type 0
IsPatientText w names text = (stopped : Bool) × IsPatientOutcome w names true text stopped

-- of whether each of them can end, as the first claim says, where a schedule may lead to what can't, as the
-- second says of it: each can; or not each can, and the schedules that are shown lead to what can't
abbrev pub AreTrueEndsOf : (Each : Type 0) → (Hangs : List (ℕ × ℕ) → Type 0) → Findings → Verdict → Type 0
AreTrueEndsOf Each Hangs f verdict.Holds = Each
AreTrueEndsOf Each Hangs f verdict.Hangs = (Each → ⊥)
    × ((i : ℕ) (by : List (ℕ × ℕ)) → slice_get f.hung i ≡ Some by → Hangs by)
AreTrueEndsOf Each Hangs f verdict.Untold = f.all ≡ false
AreTrueEndsOf Each Hangs f _ = ⊥

-- of whether some can't
abbrev pub IsTrueHangOf : (Each : Type 0) → (Hangs : List (ℕ × ℕ) → Type 0) → Findings → Verdict → Type 0
IsTrueHangOf Each Hangs f verdict.Holds = (by : List (ℕ × ℕ)) × Hangs by
IsTrueHangOf Each Hangs f verdict.NoneHangs = Each
IsTrueHangOf Each Hangs f verdict.Untold = f.all ≡ false
IsTrueHangOf Each Hangs f _ = ⊥

-- whichever an expectation asks: of races, of ends, or of outcomes
abbrev pub IsTrueAsked : World → (Each : Type 0) → (Hangs : List (ℕ × ℕ) → Type 0)
    → (IsText : List ℕ → Type 0) → (IsAnswer : Found → Type 0) → Findings → Expected → Verdict → Type 0
IsTrueAsked w Each Hangs IsText IsAnswer f e v =
    Choose (asks_of_races e.often e.line) (IsTrueRace w f e.often v)
    (Choose (asks_ends e.often e.line) (AreTrueEndsOf Each Hangs f v)
    (Choose (asks_hung e.often e.line) (IsTrueHangOf Each Hangs f v) (IsTrueOf IsText IsAnswer f e v)))

-- none hangs, or some does by these schedules
abbrev pub AreTrueEnds : World → Findings → Verdict → Type 0
AreTrueEnds w f v = AreTrueEndsOf (NoneHangs w) (HangsBy w) f v

-- what an expectation asks of those schedules
abbrev pub IsTruePatiently : World → Names → Findings → Expected → Verdict → Type 0
IsTruePatiently w names f e v = IsTrueAsked w (NoneHangs w) (HangsBy w) (IsPatientText w names)
    (EndsPatiently w names true) f e v
