-- How many machines are reached, and what a search found.
use Rattle.std.proofs.Common.{◌≡◌, ◌∙◌, ℕ, zero, suc, ◌<◌, ◌≤◌, ◌⊎◌, Bool, true, false, map, List, [], ◌∷◌, ◌++◌, Some, None, inl, inr}
use Rattle.std.proofs.Common.{length, refl, sym, ap, subst, length-append, arith}
use Rattle.std.specs.Prelude.{slice_get}
use Rattle.std.proofs.lemmas.Bool.{cases_lt}
use Rattle.std.proofs.lemmas.Option.{slice_get_within}
use Rattle.bpf_base.proofs.Lists.{slice_get-front}
use Rattle.bpf_names.specs.Names.{Names}
use Rattle.bpf_machine.specs.Schedule.{World}
use Rattle.bpf_x86.specs.Machine.{X86, drained}
use Rattle.bpf_buffering.specs.Search.{BufferedState, ShowsX86, move_of}
use Rattle.bpf_buffering.specs.Ahead.{AheadSetsCoverX86}
use Rattle.bpf_buffering.specs.Album.{IsShownAt}
use Rattle.bpf_patience.specs.Patience.{PatientSetsCoverX86}
use Rattle.bpf_patience.specs.Ends.{CanEndX86, PatientSetsLeadOn, X86sCanEnd}
use Rattle.bpf_explore.specs.declared.budgets.Budgets.TheVariants.{Suffice, RunOut, Unknown}
use Rattle.bpf_explore.specs.declared.exploring.Explored.{Explored}
use Rattle.bpf_explore.specs.declared.exploring.ExploredPatiently.{ExploredPatiently}
use Rattle.bpf_explore.specs.declared.frontier.Extent.{Extent}
use Rattle.bpf_explore.specs.Search.{is_whole, is_refused}
use Rattle.bpf_explore.proofs.ExploreLaws.{whole_of, limited_of, refused_of, not_whole}
use Rattle.bpf_reorderings.specs.Outcomes.{AreOutcomesX86, AreReachedX86, HaveAllX86, IsExploredX86}
use Rattle.bpf_reorderings.specs.Patient.{ArePatientX86, AreReachedFreelyX86, HaveAllPatientX86, IsExploredPatientlyX86}
use Rattle.bpf_reorderings.specs.Patient.{LiesBeyondOneX86, NoOtherHangsX86}
use Rattle.bpf_reorderings.specs.Private.Trail.{Runs}
use Rattle.bpf_reorderings.specs.Private.Searching.{AreLed, BeginsAt, CameTo, Extends}
use Rattle.bpf_reorderings.specs.Private.Answers.{CanRunOut, Gathered, budgets_found}
use Rattle.bpf_reorderings.specs.Private.Hung.{AllHang, AllLeadOrBeyond}
use Rattle.bpf_reorderings.specs.declared.answers.Told.{Told}
use Rattle.bpf_reorderings.proofs.Hanging.{ends_or_lies}
use Rattle.bpf_reorderings.proofs.Printing.{all_answered, have_all, have_all_patient}

-- ---- n machines are reached
abbrev RunsBy : Bool → World → List ℕ → X86 → Type 0
RunsBy patient w schedule z = Runs patient (drained w) (map move_of schedule) z

record Reached (patient : Bool) (w : World) (n : ℕ) : Type 0 where
  machines : List X86
  count : length machines ≡ n
  each : (i : ℕ) (z : X86) → slice_get machines i ≡ Some z → (schedule : List ℕ) × RunsBy patient w schedule z

at_end : (zs : List X86) (z : X86) → slice_get (zs ++ z ∷ []) (length zs) ≡ Some z
at_end [] z = refl
at_end (x ∷ xs) z = at_end xs z

module _ (patient : Bool) where
  last_reached : (w : World) (n : ℕ) (machines : List X86) (schedule : List ℕ) (y : X86) → length machines ≡ n → RunsBy patient w schedule y
      → (i : ℕ) (z : X86) → n ≤ i → slice_get (machines ++ y ∷ []) i ≡ Some z → (cs : List ℕ) × RunsBy patient w cs z
  last_reached w n machines schedule y count led i z past at =
      let both = length-append machines (y ∷ []) in
      let inside = slice_get_within (machines ++ y ∷ []) i z at in
      let place : length machines ≡ i = omega arith in
      let two : Some y ≡ Some z = sym (at_end machines y) ∙ (ap (slice_get (machines ++ y ∷ [])) place ∙ at) in
      let one : y ≡ z = cc in
      (schedule, subst (RunsBy patient w schedule) one led)

  one_more_reached : (w : World) (n : ℕ) (far : Reached patient w n) (schedule : List ℕ) (y : X86) → RunsBy patient w schedule y → Reached patient w (suc n)
  one_more_reached w n far schedule y led = record {
    machines = far.machines ++ y ∷ [];
    count = (let count = far.count in let both = length-append far.machines (y ∷ []) in omega arith);
    each = λ i z at. elim (cases_lt i n) [
      | inl below ↦ far.each i z (sym (slice_get-front far.machines (y ∷ []) i (let count = far.count in omega arith)) ∙ at)
      | inr past ↦ last_reached w n far.machines schedule y far.count led i z past at
    ];
  }

  reached_below : (kept : List BufferedState) (w : World) → IsShownAt kept 0 (drained w) → AreLed patient kept → (n : ℕ) → n ≤ length kept → Reached patient w n
  reached_below kept w first led zero within = record { machines = []; count = refl; each = λ i z at. cc }
  reached_below kept w first led (suc n) within =
      let way = led n (omega arith) in
      let r = way.1 (drained w) first in
      one_more_reached w n (reached_below kept w first led n (omega arith)) way.0 r.0 r.1

are_reached : (kept : List BufferedState) (w : World) → IsShownAt kept 0 (drained w) → AreLed false kept → AreReachedX86 w (length kept)
are_reached kept w first led =
    let all = reached_below false kept w first led (length kept) (omega arith) in
    record { machines = all.machines; count = all.count; reached = all.each }

are_reached_freely : (kept : List BufferedState) (w : World) → IsShownAt kept 0 (drained w) → AreLed true kept → AreReachedFreelyX86 w (length kept)
are_reached_freely kept w first led =
    let all = reached_below true kept w first led (length kept) (omega arith) in
    record { machines = all.machines; count = all.count; reached = all.each }

-- ---- the first stays
pub still_begins : (old new : List BufferedState) (w : World) → BeginsAt old w → Extends old new → BeginsAt new w
still_begins old new w (fresh, (one, at, here)) more =
    (fresh, (one, ap (λ (ms : List BufferedState). slice_get ms 0) more.1 ∙ (slice_get-front old more.0 0 (slice_get_within old 0 one at) ∙ at), here))

pub first_shown : (kept : List BufferedState) (m : BufferedState) (x : X86) → kept ≡ m ∷ [] → ShowsX86 m x → IsShownAt kept 0 x
first_shown kept m x e shows = (m, ap (λ (ms : List BufferedState). slice_get ms 0) e, shows)

-- ---- what a search found
-- one that isn't patient leaves no schedule out
not_false : (b : Bool) → (b ≡ false → ⊥) → b ≡ true
not_false true never = refl
not_false false never = absurd (never refl)

plain_whole : (kept : List BufferedState) (names : Names) (maps : Bool) (place : ℕ) (told : Told) → Gathered false kept names maps place told →
    told.whole ≡ true
plain_whole kept names maps place told far = not_false told.whole (λ is. (let no : false ≡ true = (far.out is).0 in cc))

pub explored : AheadSetsCoverX86 → (kept : List BufferedState) (w : World) (names : Names) (maps : Bool) (limit : ℕ) (e : Explored)
    (extent : Extent) (told : Told) → BeginsAt kept w → CameTo false kept extent limit → e.all ≡ is_whole extent → e.refused ≡ is_refused
    extent → e.states ≡ length kept → e.answers ≡ told.answers → Gathered false kept names maps (length kept) told → AreLed false kept
    → IsExploredX86 w names maps limit e
explored law kept w names maps limit e extent told begins came all refused count same far led = record {
  outcomes = subst (λ (v : _). AreOutcomesX86 w names maps v.items) (sym same) (record { each = far.ends w begins; sorted = far.sorted });
  complete = λ is. subst (λ (v : _). HaveAllX86 w names maps v.items) (sym same)
      (have_all law kept w names maps told.answers.items (came.whole (whole_of extent (sym all ∙ is))) begins
      (all_answered false kept names maps told far (plain_whole kept names maps (length kept) told far)));
  counted = subst (AreReachedX86 w) (sym count) (are_reached kept w begins.1 led);
  met = λ is uncut. subst (λ (n : ℕ). limit < n) (sym count) (came.met (limited_of extent (sym all ∙ is) (sym refused ∙ uncut)));
  short = λ is. (all ∙ not_whole extent (sym refused ∙ is), subst (λ (n : ℕ). n ≤ limit) (sym count) (came.short (refused_of extent (sym refused ∙ is))));
}

-- ---- what a patient search found
budget_out : (fit : Bool) → budgets_found fit ≡ RunOut → fit ≡ false
budget_out true is = let no : Unknown ≡ RunOut = is in cc
budget_out false is = refl

budget_never : (fit : Bool) → budgets_found fit ≡ Suffice → ⊥
budget_never true is = let no : Unknown ≡ Suffice = is in cc
budget_never false is = let no : RunOut ≡ Suffice = is in cc

none_of_all : (all : Bool) → (all ≡ true → ⊥) → all ≡ false
none_of_all true never = absurd (never refl)
none_of_all false never = refl

none_of_none : (w : World) (hung : List (List (ℕ × ℕ))) (z : X86) → hung ≡ [] → (CanEndX86 z ⊎ LiesBeyondOneX86 w hung z) → CanEndX86 z
none_of_none w hung z none (inl ends) = ends
none_of_none w hung z none (inr (i, by, at, lies)) =
    let no : None ≡ Some by = ap (λ (hs : List (List (ℕ × ℕ))). slice_get hs i) (sym none) ∙ at in cc

-- what the answers and the hung states are, and how far the search came
pub record FoundPatiently (kept : List BufferedState) (names : Names) (maps : Bool) (extent : Extent) (told : Told) (whole fit all_fit : Bool)
    (e : ExploredPatiently) : Type 0 where
  pub is_whole : whole ≡ is_whole extent
  pub refused : e.refused ≡ is_refused extent
  pub count : e.states ≡ length kept
  pub answers : e.answers ≡ told.answers
  pub budgets : e.budgets ≡ budgets_found all_fit
  pub fits : all_fit ≡ true → (told.whole ≡ true) × (fit ≡ true)
  pub unfit : all_fit ≡ false → (told.whole ≡ false) ⊎ (fit ≡ false)
  pub every : e.all ≡ true → (whole ≡ true) × (all_fit ≡ true)
  pub part : e.all ≡ false → (whole ≡ false) ⊎ (all_fit ≡ false)
  pub gathered : Gathered true kept names maps (length kept) told
  pub hung : AllHang kept e.hung.items
  pub ends : whole ≡ true → fit ≡ true → AllLeadOrBeyond kept e.hung.items
  pub out : fit ≡ false → CanRunOut kept
  pub led : AreLed true kept

pub explored_patiently : PatientSetsCoverX86 → PatientSetsLeadOn → X86sCanEnd → (kept : List BufferedState) (w : World) (names : Names) (maps : Bool)
    (limit : ℕ) (e : ExploredPatiently) (extent : Extent) (told : Told) (whole fit all_fit : Bool) → BeginsAt kept w → CameTo true kept extent limit
    → FoundPatiently kept names maps extent told whole fit all_fit e → IsExploredPatientlyX86 w names maps limit e
explored_patiently law leading ending kept w names maps limit e extent told whole fit all_fit begins came found =
    let far = found.gathered in
    let first = begins.1 in
    let no_other : e.all ≡ true → NoOtherHangsX86 w e.hung.items = λ is moves z runs none. (
    let a = found.every is in
    let closed = came.whole (whole_of extent (sym found.is_whole ∙ a.0)) in
    ends_or_lies ending kept w z e.hung.items (found.ends a.0 (found.fits a.1).1) begins
    (leading kept w moves z closed begins.0 (0, first.0, first.1, first.2) runs none)) in
    record {
      outcomes = subst (λ (v : _). ArePatientX86 w names maps v.items) (sym found.answers) (record { each = far.ends w begins; sorted = far.sorted });
      complete = λ is. subst (λ (v : _). HaveAllPatientX86 w names maps v.items) (sym found.answers)
          (let a = found.every is in
          have_all_patient law kept w names maps told.answers.items (came.whole (whole_of extent (sym found.is_whole ∙ a.0))) begins
          (all_answered true kept names maps told far (found.fits a.1).0));
      counted = subst (AreReachedFreelyX86 w) (sym found.count) (are_reached_freely kept w begins.1 found.led);
      met = λ is uncut. elim (found.part is) [
        | inl part ↦ inl (subst (λ (n : ℕ). limit < n) (sym found.count)
            (came.met (limited_of extent (sym found.is_whole ∙ part) (sym found.refused ∙ uncut))))
        | inr out ↦ inr (found.budgets ∙ ap budgets_found out)
      ];
      short = λ is. (
        none_of_all e.all (λ every. (
            let a : whole ≡ true = (found.every every).0 in
            let b : whole ≡ false = found.is_whole ∙ not_whole extent (sym found.refused ∙ is) in
            cc)),
        subst (λ (n : ℕ). n ≤ limit) (sym found.count) (came.short (refused_of extent (sym found.refused ∙ is))),
      );
      are_hung = λ i by at. found.hung i by at w begins;
      no_other = no_other;
      none_hangs = λ is none moves z runs on. none_of_none w e.hung.items z none (no_other is moves z runs on);
      suffice = λ is. budget_never all_fit (sym found.budgets ∙ is);
      run_out = λ is. elim (found.unfit (budget_out all_fit (sym found.budgets ∙ is))) [
        | inl untold ↦ (far.out untold).1 w begins
        | inr out ↦ found.out out w begins
      ];
    }
