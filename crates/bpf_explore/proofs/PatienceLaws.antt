-- Answers of a patient search.
use Rattle.std.proofs.Common.{◌≡◌, ◌∙◌, ℕ, ◌+◌, ◌<◌, ◌≤◌, ◌⊎◌, Bool, true, false, List, [], Option, Some, None, inl, inr, length, refl, sym, ap, subst, arith}
use Rattle.std.specs.Prelude.{slice_get, insert, option_and_then, IfSome}
use Rattle.std.proofs.lemmas.Bool.{cases_lt}
use Rattle.std.proofs.lemmas.Option.{slice_get_within}
use Rattle.bpf_names.specs.Names.{Names}
use Rattle.bpf_cpu.specs.declared.outcome.Outcome.{Outcome}
use Rattle.bpf_cpu.specs.declared.outcome.Outcome.TheVariants.{OutOfBudget}
use Rattle.bpf_cpu.specs.Task.{Stage, Task, Waiting, InHand, Ended, ended, outcome_at}
use Rattle.bpf_machine.specs.Machine.{MachineState}
use Rattle.bpf_machine.specs.Patient.{NoneRanOut}
use Rattle.bpf_machine.specs.Schedule.{World}
use Rattle.bpf_explore.specs.Outcomes.{Found}
use Rattle.bpf_equal.specs.declared.peers.Peer.{Peer}
use Rattle.bpf_equal.specs.Patient.{AreAllExchanged, BeyondIsExchanged, CoveredLieBeyond, LiesBeyondOne, PermutedCanEnd}
use Rattle.bpf_explore.specs.Search.{CameTo, CameToEnds, Richly, ShowsEndsInBudget, is_whole, is_refused}
use Rattle.bpf_explore.specs.declared.frontier.Extent.{Extent}
use Rattle.bpf_explore.specs.declared.frontier.Extent.TheVariants.{Whole}
use Rattle.bpf_explore.proofs.ExploreLaws.{whole_of, limited_of, refused_of, not_whole}
use Rattle.bpf_machine.specs.Ends.{CanEnd}
use Rattle.bpf_explore.specs.declared.budgets.Budgets.{Budgets}
use Rattle.bpf_explore.specs.declared.budgets.Budgets.TheVariants.{Suffice, RunOut}
use Rattle.bpf_explore.specs.Album.{BeginsAt}
use Rattle.bpf_explore.specs.Patient.{EndsPatiently, HaveAllPatient, NoneHangs, NoOtherHangs, PatientTellAll}
use Rattle.bpf_explore.specs.Private.Hung.{Hangs, AllHang, ComesTo, AllLeadOrBeyond, StaysFirst}
use Rattle.bpf_explore.specs.Private.Replays.{SomeRanOut, CanRunOut}
use Rattle.bpf_explore.proofs.BeyondLaws.{ends_or_lies}
use Rattle.bpf_explore.specs.Private.Answers.{AreSorted, IsFirst, KeepsAll, IsAnsweredAt}
use Rattle.bpf_explore.specs.Private.Patience.{AllEndPatiently}
use Rattle.bpf_explore.proofs.AnswerLaws.{Before, Here, Behind, origin, answered_still}

pub all_end_patiently : (xs : List Found) (i : ℕ) (x : Found) (within : i ≤ length xs) (w : World) (names : Names) (maps : Bool) →
    EndsPatiently w names maps x → AllEndPatiently w names maps xs → AllEndPatiently w names maps (insert xs i x)
all_end_patiently xs i x within w names maps one all k y at = elim (origin xs i x within k y at) [
  | Before pl there ↦ all k y there
  | Here e same ↦ subst (EndsPatiently w names maps) same one
  | Behind j e above there ↦ all j y there
]

-- ---- what is said of an answer that is there
pub some_by : (P : Found → Type 0) (o : Option Found) (x : Found) → o ≡ Some x → IfSome o P → P x
some_by P o x e h = subst (λ (s : Option Found). IfSome s P) e h

pub some_hung : (kept : List MachineState) (o : Option (List (ℕ × ℕ))) (x : List (ℕ × ℕ)) → o ≡ Some x → IfSome o (Hangs kept) → Hangs kept x
some_hung kept o x e h = subst (λ (s : Option (List (ℕ × ℕ))). IfSome s (Hangs kept)) e h

pub some_there : (kept : List MachineState) (place : ℕ) (o : Option (List (ℕ × ℕ))) (x : List (ℕ × ℕ)) → o ≡ Some x → IfSome o
    (λ by. ComesTo kept by place) → ComesTo kept x place
some_there kept place o x e h = subst (λ (s : Option (List (ℕ × ℕ))). IfSome s (λ by. ComesTo kept by place)) e h

-- ---- jobs that have ended
pub read_outcome : (jobs : List Task) (j : ℕ) (task : Task) → slice_get jobs j ≡ Some task → outcome_at jobs j ≡ ended task.stage
read_outcome jobs j task at = ap (λ (o : Option Task). option_and_then (λ t. ended t.stage) o) at

pub stage_is : (stage : Stage) (o : Outcome) → Some o ≡ ended stage → stage ≡ Ended o
stage_is (Waiting input) o e = cc
stage_is (InHand state left) o e = cc
stage_is (Ended outcome) o e = let one : o ≡ outcome = cc in ap Ended (sym one)

-- ---- jobs of which none is out of budget
abbrev pub NoneOutBelow : List Task → ℕ → Type 0
NoneOutBelow jobs n = (j : ℕ) (task : Task) (pc : ℕ) → j < n → slice_get jobs j ≡ Some task → task.stage ≡ Ended (OutOfBudget pc) → ⊥

pub next_none_out : (jobs : List Task) (n : ℕ) → NoneOutBelow jobs n → ((pc : ℕ) → outcome_at jobs n ≡ Some (OutOfBudget pc) → ⊥) → NoneOutBelow jobs (n + 1)
next_none_out jobs n far here j task pc less at out = elim (cases_lt j n) [
  | inl below ↦ far j task pc below at out
  | inr past ↦
      let same : n ≡ j = omega arith in
      here pc (ap (outcome_at jobs) same ∙ (read_outcome jobs j task at ∙ ap ended out))
]

pub all_none_out : (jobs : List Task) (n : ℕ) → length jobs ≤ n → NoneOutBelow jobs n → NoneRanOut jobs
all_none_out jobs n past far j task pc at out = let inside = slice_get_within jobs j task at in far j task pc (omega arith) at out

-- an outcome that is printed
pub told_out : (jobs : List Task) (n pc : ℕ) → Some (OutOfBudget pc) ≡ outcome_at jobs n → SomeRanOut jobs
told_out jobs n pc e = go (slice_get jobs n) refl
  where
    go : (o : Option Task) → slice_get jobs n ≡ o → SomeRanOut jobs
    go None at = let no : Some (OutOfBudget pc) ≡ None = e ∙ ap (λ (t : Option Task). option_and_then (λ task. ended task.stage) t) at in cc
    go (Some task) at =
        let there : Some (OutOfBudget pc) ≡ ended task.stage = e ∙ read_outcome jobs n task at in
        (n, task, pc, at, stage_is task.stage (OutOfBudget pc) there)

-- ---- what is gathered of the kept machines below a number
pub record Gathered (kept : List MachineState) (names : Names) (maps : Bool) (place : ℕ) (whole : Bool) (answers : List Found) : Type 0 where
  pub sorted : AreSorted answers
  pub ends : (w : World) → IsFirst kept w → AllEndPatiently w names maps answers
  pub answered : whole ≡ true → (i : ℕ) → i < place → IsAnsweredAt kept names maps answers i
  pub out : whole ≡ false → CanRunOut kept

pub none_gathered : (kept : List MachineState) (names : Names) (maps : Bool) → Gathered kept names maps 0 true []
none_gathered kept names maps = record {
  sorted = λ i j found later less at there. cc;
  ends = λ w first i found at. cc;
  answered = λ whole i less. absurd (omega arith);
  out = λ is. cc;
}

pub more_gathered : (kept : List MachineState) (names : Names) (maps : Bool) (place : ℕ) (whole answered now : Bool) (old new : List Found)
    → Gathered kept names maps place whole old → AreSorted new → KeepsAll old new
    → ((w : World) → IsFirst kept w → AllEndPatiently w names maps old → AllEndPatiently w names maps new) →
    (answered ≡ true → IsAnsweredAt kept names maps new place) → (answered ≡ false → CanRunOut kept) →
    (now ≡ true → (whole ≡ true) × (answered ≡ true)) → (now ≡ false → (whole ≡ false) ⊎ (answered ≡ false))
    → Gathered kept names maps (place + 1) now new
more_gathered kept names maps place whole answered now old new far sorted keeps ends here out both not = record {
  sorted = sorted;
  ends = λ w first. ends w first (far.ends w first);
  answered = λ is i less. (let b = both is in elim (cases_lt i place) [
    | inl below ↦ answered_still kept names maps old new i keeps (far.answered b.0 i below)
    | inr past ↦ let e : place ≡ i = omega arith in subst (λ (k : ℕ). IsAnsweredAt kept names maps new k) e (here b.1)
  ]);
  out = λ is. elim (not is) [ inl a ↦ far.out a | inr a ↦ out a ];
}

pub all_gathered : (kept : List MachineState) (names : Names) (maps : Bool) (place : ℕ) (whole : Bool) (answers : List Found) → length kept
    ≤ place → Gathered kept names maps place whole answers → whole ≡ true → (i : ℕ) → IsAnsweredAt kept names maps answers i
all_gathered kept names maps place whole answers past far is i m at ended =
    let inside = slice_get_within kept i m at in
    far.answered is i (omega arith) m at ended

none_of_all : (all : Bool) → (all ≡ true → ⊥) → all ≡ false
none_of_all true never = absurd (never refl)
none_of_all false never = refl

none_of_none : (w : World) (hung : List (List (ℕ × ℕ))) (z : World) → hung ≡ [] → (CanEnd z ⊎ LiesBeyondOne w hung z) → CanEnd z
none_of_none w hung z none (inl ends) = ends
none_of_none w hung z none (inr (i, by, at, lies)) = let no : None ≡ Some by = ap (λ (hs : List (List (ℕ × ℕ))). slice_get hs i) (sym none) ∙ at in cc

-- ---- what a patient search found
pub no_other_hangs : PermutedCanEnd → CoveredLieBeyond → BeyondIsExchanged → (peers : List Peer) (kept : List MachineState) (w : World)
    (extent : Extent) (limit : ℕ) → BeginsAt kept w → CameTo (Richly peers) kept extent limit → (hung : List (List (ℕ × ℕ))) → extent ≡ Whole
    → AllLeadOrBeyond peers kept hung → AreAllExchanged peers hung → StaysFirst peers kept → NoOtherHangs w hung
no_other_hangs ending covered exchanged peers kept w extent limit begins came hung whole lead all stays schedule z runs well =
    let first = begins.1 in
    ends_or_lies ending covered exchanged peers kept w z hung lead all stays begins.0 first
    (came.covers whole w z schedule begins.0 (0, first.0, first.1, first.2) runs well).0

pub settled_unfit : (told fit fits : Bool) (judged budgets : Budgets) → (fits ≡ false → (told ≡ false) ⊎ (fit ≡ false))
    → (told ≡ true → budgets ≡ judged) → (told ≡ false → budgets ≡ RunOut) → (fit ≡ false → judged ≡ RunOut) → fits ≡ false → budgets ≡ RunOut
settled_unfit true fit fits judged budgets neither same out unfit is = elim (neither is) [
  | inl a ↦ cc
  | inr b ↦ same refl ∙ unfit b
]
settled_unfit false fit fits judged budgets neither same out unfit is = out refl

pub settled_suffice : (told : Bool) (judged budgets : Budgets) → (told ≡ true → budgets ≡ judged) → (told ≡ false → budgets ≡ RunOut)
    → budgets ≡ Suffice → judged ≡ Suffice
settled_suffice true judged budgets same out is = sym (same refl) ∙ is
settled_suffice false judged budgets same out is = let never : RunOut ≡ Suffice = sym (out refl) ∙ is in cc

pub settled_out : (P : Type 0) (told : Bool) (judged budgets : Budgets) → (told ≡ true → budgets ≡ judged) → budgets ≡ RunOut
    → (judged ≡ RunOut → P) → (told ≡ false → P) → P
settled_out P true judged budgets same is first second = first (sym (same refl) ∙ is)
settled_out P false judged budgets same is first second = second refl

pub none_hangs_there : (w : World) (hung : List (List (ℕ × ℕ))) → NoOtherHangs w hung → hung ≡ [] → NoneHangs w
none_hangs_there w hung no_other none schedule z runs well = none_of_none w hung z none (no_other schedule z runs well)

module _ (law : PatientTellAll) (kept : List MachineState) (w : World) (names : Names) (maps : Bool) (answers : List Found) (extent : Extent)
    (limit : ℕ) (begins : BeginsAt kept w) (came : CameToEnds ShowsEndsInBudget kept extent limit) (told all fits refused whole : Bool)
    (is_all : whole ≡ is_whole extent) (is_cut : refused ≡ is_refused extent) (every : all ≡ true → (whole ≡ true) × (fits ≡ true))
    (every_not : all ≡ false → (whole ≡ false) ⊎ (fits ≡ false)) where
  pub all_whole : all ≡ true → extent ≡ Whole
  all_whole is = whole_of extent (sym is_all ∙ (every is).0)

  pub tells_all : (fits ≡ true → told ≡ true) → (told ≡ true → (i : ℕ) → IsAnsweredAt kept names maps answers i) → all ≡ true
      → HaveAllPatient w names maps answers
  tells_all fit answered is =
      law kept w names maps answers (came.ends (all_whole is)) begins (λ i m at ended. answered (fit (every is).1) i m at ended)

  pub met_it : (budgets : Budgets) → (fits ≡ false → budgets ≡ RunOut) → all ≡ false → refused ≡ false → (limit < length kept) ⊎ (budgets ≡ RunOut)
  met_it budgets unfit is uncut = elim (every_not is) [
    | inl a ↦ inl (came.met (limited_of extent (sym is_all ∙ a) (sym is_cut ∙ uncut)))
    | inr a ↦ inr (unfit a)
  ]

  pub cut_it : refused ≡ true → (all ≡ false) × (length kept ≤ limit)
  cut_it is = (
    none_of_all all (λ yes_it. (
        let a : whole ≡ true = (every yes_it).0 in
        let b : whole ≡ false = is_all ∙ not_whole extent (sym is_cut ∙ is) in
        cc)),
    came.short (refused_of extent (sym is_cut ∙ is)),
  )
