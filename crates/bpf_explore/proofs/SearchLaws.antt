-- Turns that were made from kept machines, while more are kept.
use Rattle.std.proofs.Common.{◌≡◌, ◌∙◌, ◌+◌, ◌<◌, ◌≤◌, ℕ, List, [], ◌++◌, Some, length, refl, inl, inr, sym, ap, subst}
use Rattle.std.proofs.Common.{append-nil, append_assoc, length-append, arith}
use Rattle.std.specs.Prelude.{slice_get}
use Rattle.std.proofs.lemmas.Bool.{cases_lt}
use Rattle.std.proofs.lemmas.Option.{slice_get_within}
use Rattle.bpf_base.proofs.Lists.{slice_get-front}
use Rattle.bpf_machine.specs.Schedule.{World}
use Rattle.bpf_machine.specs.Machine.{MachineState}
use Rattle.bpf_machine.specs.Cover.{IsShown}
use Rattle.bpf_alike.specs.Covers.{AlikeSetsCover}
use Rattle.bpf_equal.specs.Covers.{PermutedPatientSetsCover, PermutedSetsCover}
use Rattle.bpf_alike.proofs.Like.{all_like}
use Rattle.bpf_machine.proofs.CoverLaws.{idle_turns_to}
use Rattle.bpf_machine.proofs.PatientLaws.{all_same}
use Rattle.bpf_explore.specs.Search.{Manner, Alike, Permuted, Richly, IsKept, IsTurned, IsExpanded, IsIdleAt, Extends, IsWhole, CoversAll}

-- ---- more are kept
pub none_more : (kept : List MachineState) → Extends kept kept
none_more kept = ([], sym (append-nil kept))

pub more_again : (old mid new : List MachineState) → Extends old mid → Extends mid new → Extends old new
more_again old mid new a b = (a.0 ++ b.0, b.1 ∙ ap (λ (ms : List MachineState). ms ++ b.0) a.1 ∙ append_assoc old a.0 b.0)

module _ (old new : List MachineState) (more : Extends old new) where
  same_at : (i : ℕ) → i < length old → slice_get new i ≡ slice_get old i
  same_at i inside = ap (λ (ms : List MachineState). slice_get ms i) more.1 ∙ slice_get-front old more.0 i inside

  pub shown_still : (w : World) → IsShown old w → IsShown new w
  shown_still w (i, m, at, shows) = (i, m, same_at i (slice_get_within old i m at) ∙ at, shows)

  pub kept_still : (manner : Manner) (m : MachineState) → IsKept manner old m → IsKept manner new m
  kept_still Alike m is = λ w shows. (let r = is w shows in (r.0, r.1, shown_still _ r.2))
  kept_still (Permuted peers) m is = λ w shows. (let r = is w shows in (r.0, r.1, (r.2.0, r.2.1, shown_still _ r.2.2)))
  kept_still (Richly peers) m is = λ w shows. (let r = is w shows in (r.0, r.1, (r.2.0, r.2.1, (r.2.2.0, r.2.2.1, shown_still _ r.2.2.2))))

  pub turned_still : (manner : Manner) (i c : ℕ) → i < length old → IsTurned manner old i c → IsTurned manner new i c
  turned_still manner i c inside turned m there =
      let r = turned m (sym (same_at i inside) ∙ there) in
      (r.0, r.1, kept_still manner r.0 r.2)

  pub expanded_still : (manner : Manner) (i : ℕ) → i < length old → IsExpanded manner old i → IsExpanded manner new i
  expanded_still manner i inside expanded c = turned_still manner i c inside (expanded c)

-- a CPU without work: its turn leads to the same machine
kept_there : (manner : Manner) (kept : List MachineState) (i : ℕ) (m : MachineState) → slice_get kept i ≡ Some m → IsKept manner kept m
kept_there Alike kept i m there = λ w shows. (w.jobs, all_like w.programs w.jobs, (i, m, there, shows))
kept_there (Permuted peers) kept i m there = λ w shows. (w, (0, refl), (w.jobs, all_like w.programs w.jobs, (i, m, there, shows)))
kept_there (Richly peers) kept i m there =
    λ w shows. (w, (0, refl), (w.jobs, all_same w.jobs, (w.jobs, all_like w.programs w.jobs, (i, m, there, shows))))

pub idle_turned : (manner : Manner) (kept : List MachineState) (i c : ℕ) → IsIdleAt kept i c → IsTurned manner kept i c
idle_turned manner kept i c idle m there =
    let none = idle m there in
    (m, idle_turns_to m c none.0 none.1, kept_there manner kept i m there)

-- ---- the CPUs below a number
pub record TurnsSoFar (manner : Manner) (old : List MachineState) (place cpu : ℕ) (now : Manner) (kept : List MachineState) : Type 0 where
  pub extends : Extends old kept
  pub same : now ≡ manner
  pub turned : (c : ℕ) → c < cpu → IsTurned manner kept place c

pub no_turn_yet : (manner : Manner) (kept : List MachineState) (place : ℕ) → TurnsSoFar manner kept place 0 manner kept
no_turn_yet manner kept place = record { extends = none_more kept; same = refl; turned = λ c less. absurd (omega arith) }

inside_still : (old new : List MachineState) (place : ℕ) → Extends old new → place < length old → place < length new
inside_still old new place more inside = subst (λ (ms : List MachineState). place < length ms) (sym more.1) (front old more.0 place inside)
  where
    front : (xs ys : List MachineState) (i : ℕ) → i < length xs → i < length (xs ++ ys)
    front xs ys i less = let both = length-append xs ys in omega arith

pub next_turned : (manner now later : Manner) (old kept new : List MachineState) (place cpu : ℕ) → place < length old → TurnsSoFar manner
    old place cpu now kept → Extends kept new → later ≡ now → IsTurned later new place cpu
    → TurnsSoFar manner old place (cpu + 1) later new
next_turned manner now later old kept new place cpu inside far more same turned =
    let here : later ≡ manner = same ∙ far.same in
    record {
      extends = more_again old kept new far.extends more;
      same = here;
      turned = λ c less. elim (cases_lt c cpu) [
        | inl below ↦ turned_still kept new more manner place c (inside_still old kept place far.extends inside) (far.turned c below)
        | inr past ↦ let e : c ≡ cpu = omega arith in subst (λ (k : ℕ). IsTurned manner new place k) (sym e)
            (subst (λ (k : Manner). IsTurned k new place cpu) here turned)
      ];
    }

pub all_turned : (manner now : Manner) (old kept : List MachineState) (place cpu n : ℕ) → place < length old →
    ((i c : ℕ) → n ≤ c → IsIdleAt old i c) → n ≤ cpu → TurnsSoFar manner old place cpu now kept → IsExpanded now kept place
all_turned manner now old kept place cpu n inside idle past far c = subst (λ (k : Manner). IsTurned k kept place c) (sym far.same) (elim (cases_lt c cpu) [
  | inl below ↦ far.turned c below
  | inr above ↦ turned_still old kept far.extends manner place c inside (idle_turned manner old place c (idle place c (omega arith)))
])

-- ---- the machines below a number
pub record ExpandedSoFar (manner : Manner) (old : List MachineState) (next : ℕ) (now : Manner) (kept : List MachineState) : Type 0 where
  pub extends : Extends old kept
  pub same : now ≡ manner
  pub expanded : (i : ℕ) → i < next → IsExpanded manner kept i
  pub inside : next ≤ length kept

pub none_expanded : (manner : Manner) (kept : List MachineState) → ExpandedSoFar manner kept 0 manner kept
none_expanded manner kept = record { extends = none_more kept; same = refl; expanded = λ i less. absurd (omega arith); inside = omega arith }

pub next_expanded : (manner now later : Manner) (old kept new : List MachineState) (next : ℕ) → ExpandedSoFar manner old next now kept →
    next < length kept → Extends kept new → later ≡ now → IsExpanded later new next → ExpandedSoFar manner old (next + 1) later new
next_expanded manner now later old kept new next far less more same expanded =
    let here : later ≡ manner = same ∙ far.same in
    record {
      extends = more_again old kept new far.extends more;
      same = here;
      expanded = λ i below. elim (cases_lt i next) [
        | inl before ↦ expanded_still kept new more manner i (omega arith) (far.expanded i before)
        | inr past ↦ let e : i ≡ next = omega arith in subst (IsExpanded manner new) (sym e) (subst (λ (k : Manner). IsExpanded k new next) here expanded)
      ];
      inside = let there = inside_still kept new next more less in omega arith;
    }

whole : (manner : Manner) (kept : List MachineState) → ((i : ℕ) → i < length kept → IsExpanded manner kept i) → IsWhole manner kept
whole Alike kept expanded = λ i m c there. expanded i (slice_get_within kept i m there) c m there
whole (Permuted peers) kept expanded = λ i m c there. expanded i (slice_get_within kept i m there) c m there
whole (Richly peers) kept expanded = λ i m c there. expanded i (slice_get_within kept i m there) c m there

pub all_expanded : (manner now : Manner) (old kept : List MachineState) (next : ℕ) → length kept ≤ next → ExpandedSoFar manner old next now
    kept → IsWhole now kept
all_expanded manner now old kept next past far =
    whole now kept (λ i inside. subst (λ (k : Manner). IsExpanded k kept i) (sym far.same) (far.expanded i (omega arith)))

pub covers_all : AlikeSetsCover → PermutedPatientSetsCover → PermutedSetsCover → (manner : Manner) (kept : List MachineState) → IsWhole manner
    kept → CoversAll manner kept
covers_all law patiently places Alike kept closed = λ w z schedule fresh shown runs. law kept w z schedule closed fresh shown runs
covers_all law patiently places (Permuted peers) kept closed = λ w z schedule fresh shown runs. places peers kept w z schedule closed fresh shown runs
covers_all law patiently places (Richly peers) kept closed = λ w z schedule fresh shown runs none. patiently peers kept w z schedule closed
    fresh shown runs none
