-- Kept machines from which no end can be reached, and budgets that are used up.
use Rattle.std.proofs.Common.{◌≡◌, ◌∙◌, ℕ, ◌+◌, ◌<◌, ◌≤◌, ◌⊎◌, Bool, true, false, List, [], ◌∷◌, ◌++◌, Some, inl, inr, length, refl, sym}
use Rattle.std.proofs.Common.{ap, subst, length-append, arith}
use Rattle.std.specs.Prelude.{slice_get}
use Rattle.std.proofs.lemmas.Bool.{cases_lt}
use Rattle.std.proofs.lemmas.Option.{slice_get_within}
use Rattle.bpf_base.proofs.Lists.{slice_get-front}
use Rattle.bpf_cpu.specs.Task.{Task}
use Rattle.bpf_machine.specs.Machine.{MachineState, Shows}
use Rattle.bpf_machine.specs.Schedule.{World, RunsSchedule, unrolled}
use Rattle.bpf_machine.specs.Cover.{TurnsAhead}
use Rattle.bpf_machine.specs.Patient.{NoneRanOut}
use Rattle.bpf_machine.specs.Ends.{RunsFreely, FreeRunsAgree}
use Rattle.bpf_machine.specs.Budgets.{depth_at}
use Rattle.bpf_equal.specs.declared.peers.Peer.{Peer}
use Rattle.bpf_equal.specs.Patient.{AreAllExchanged, AreSparingPermuted, AreStuckPermuted, PermutedBudgetsSuffice, PermutedStuckAreHung}
use Rattle.bpf_alike.proofs.Like.{all_like}
use Rattle.bpf_explore.specs.declared.turns.Edge.{Edge}
use Rattle.bpf_explore.specs.Album.{LeadsFreely, HaveBudgets}
use Rattle.bpf_explore.specs.Search.{IsIdleAt}
use Rattle.bpf_explore.specs.Private.Edges.{IsEdgeOf}
use Rattle.bpf_explore.specs.Private.Depths.{LeadsDeeperAt, IsSparingAt}
use Rattle.bpf_explore.specs.Private.Hung.{Hangs, AllHang, ComesTo, LeadsOn, IsBeyondOne, AllBeyondBelow}
use Rattle.bpf_explore.specs.Private.Replays.{SomeRanOut, IsReplayed, IsReached, CanRunOut, NoneRunsOut}
use Rattle.bpf_explore.proofs.TrailLaws.{free_runs_join, leads_both, leads_nowhere}
use Rattle.bpf_explore.proofs.WayLaws.{agrees}

-- ---- schedules that are tried
pub replayed : (kept : List MachineState) (first last : MachineState) (schedule : List ℕ) → slice_get kept 0 ≡ Some first →
    ((w : World) → Shows first w → (z : World) × RunsSchedule w schedule z × Shows last z) → IsReplayed kept schedule last
replayed kept first last schedule at runs w (m, there, shows) =
    let two : Some m ≡ Some first = sym there ∙ at in
    let one : m ≡ first = cc in
    runs w (subst (λ (x : MachineState). Shows x w) one shows)

pub reached : (kept : List MachineState) (schedule : List ℕ) (m : MachineState) → IsReplayed kept schedule m → IsReached kept m
reached kept schedule m is w first = let r = is w first in (schedule, r.0, r.1, r.2)

runs_both : (w : World) (cs ds : List ℕ) (m z : World) → RunsSchedule w cs m → RunsSchedule m ds z → RunsSchedule w (cs ++ ds) z
runs_both w [] ds m z first second = subst (λ (x : World). RunsSchedule x ds z) first second
runs_both w (c ∷ cs) ds m z first second = (first.0, first.1, first.2, runs_both first.1 cs ds m z first.3 second)

pub reached_more : (kept : List MachineState) (ds : List ℕ) (m n : MachineState) → IsReached kept m →
    ((w : World) → Shows m w → (z : World) × RunsSchedule w ds z × Shows n z) → IsReached kept n
reached_more kept ds m n is runs w first =
    let r = is w first in
    let s = runs r.1 r.3 in
    (r.0 ++ ds, s.0, runs_both w r.0 ds r.1 s.0 r.2 s.1, s.2)

pub can_run_out : (kept : List MachineState) (m : MachineState) → IsReached kept m → SomeRanOut m.jobs → CanRunOut kept
can_run_out kept m is (j, task, pc, at, ended) w first =
    let r = is w first in
    (r.0, r.1, r.2, (j, task, pc, ap (λ (ts : List Task). slice_get ts j) r.3.jobs ∙ at, ended))

-- ---- what is hung
pub hangs : PermutedStuckAreHung → FreeRunsAgree → (peers : List Peer) (kept : List MachineState) (marks : List Bool) (place : ℕ) (by : List (ℕ × ℕ))
    (m : MachineState) → AreStuckPermuted peers kept marks → slice_get marks place ≡ Some false
    → LeadsFreely kept 0 (unrolled by) place → IsReplayed kept (unrolled by) m → NoneRanOut m.jobs → Hangs kept by
hangs hung agree peers kept marks place by m stuck off leads tried none w fresh first =
    let a = agrees agree kept by place m leads tried none w fresh first in (
      a.z,
      a.runs,
      a.none,
      hung peers kept marks w a.z (unrolled by) place stuck fresh a.runs off
          (a.z, (0, refl), (a.jobs, a.rich, (a.jobs, all_like a.z.programs a.jobs, a.shown))),
    )

pub none_hung : (kept : List MachineState) → AllHang kept []
none_hung kept i by at = cc

at_end : (hung : List (List (ℕ × ℕ))) (by : List (ℕ × ℕ)) → slice_get (hung ++ by ∷ []) (length hung) ≡ Some by
at_end [] by = refl
at_end (x ∷ xs) by = at_end xs by

pub one_more_hung : (kept : List MachineState) (hung pushed : List (List (ℕ × ℕ))) (by : List (ℕ × ℕ)) → AllHang kept hung → Hangs kept by →
    pushed ≡ hung ++ by ∷ [] → AllHang kept pushed
one_more_hung kept hung pushed by all is same k x at = elim (cases_lt k (length hung)) [
  | inl below ↦ all k x (sym (slice_get-front hung (by ∷ []) k below) ∙ there)
  | inr past ↦
      let inside = slice_get_within (hung ++ by ∷ []) k x there in
      let both = length-append hung (by ∷ []) in
      let last : length hung ≡ k = omega arith in
      let two : Some by ≡ Some x = sym (at_end hung by) ∙ (ap (slice_get (hung ++ by ∷ [])) last ∙ there) in
      let one : by ≡ x = cc in
      subst (Hangs kept) one is
]
  where
    there : slice_get (hung ++ by ∷ []) k ≡ Some x
    there = ap (λ (hs : List (List (ℕ × ℕ))). slice_get hs k) (sym same) ∙ at

-- the schedule leads to the kept machine, but for steps that are left
pub comes_to : FreeRunsAgree → (kept : List MachineState) (place : ℕ) (by : List (ℕ × ℕ)) (m : MachineState) → LeadsFreely kept 0
    (unrolled by) place → IsReplayed kept (unrolled by) m → NoneRanOut m.jobs → ComesTo kept by place
comes_to agree kept place by m leads tried none w fresh first =
    let a = agrees agree kept by place m leads tried none w fresh first in
    (a.z, a.runs, (a.jobs, a.shown.0, a.rich, a.shown.1, a.shown.2))

-- ---- what lies beyond what is listed
-- turns lead on
beyond_more : (kept : List MachineState) (hung : List (List (ℕ × ℕ))) (i place : ℕ) → IsBeyondOne kept hung i → LeadsOn kept i place →
    IsBeyondOne kept hung place
beyond_more kept hung i place (k, by, j, at, comes, (cs, far)) (ds, leads) =
    (k, by, j, at, comes, (cs ++ ds, leads_both RunsFreely free_runs_join kept j i place cs ds far leads))

never_both : (marks : List Bool) (place : ℕ) → slice_get marks place ≡ Some true → slice_get marks place ≡ Some false → ⊥
never_both marks place on off = let two : Some true ≡ Some false = sym on ∙ off in cc

from_earlier : (kept : List MachineState) (marks : List Bool) (hung : List (List (ℕ × ℕ))) (place : ℕ) → (slice_get marks place ≡ Some true)
    ⊎ ((i : ℕ) × (i < place) × (slice_get marks i ≡ Some false) × LeadsOn kept i place)
    → AllBeyondBelow kept marks hung place → slice_get marks place ≡ Some false → IsBeyondOne kept hung place
from_earlier kept marks hung place (inl on) all off = absurd (never_both marks place on off)
from_earlier kept marks hung place (inr (i, less, off, leads)) all here = beyond_more kept hung i place (all i less off) leads

-- one more of the first
below_next : (kept : List MachineState) (marks : List Bool) (hung : List (List (ℕ × ℕ))) (place : ℕ) → AllBeyondBelow kept marks hung place
    → (slice_get marks place ≡ Some false → IsBeyondOne kept hung place) → AllBeyondBelow kept marks hung (place + 1)
below_next kept marks hung place all here i less off = elim (cases_lt i place) [
  | inl below ↦ all i below off
  | inr past ↦ let e : place ≡ i = omega arith in subst (λ (k : ℕ). slice_get marks k ≡ Some false → IsBeyondOne kept hung k) e here off
]

pub none_new : (kept : List MachineState) (marks : List Bool) (hung : List (List (ℕ × ℕ))) (place : ℕ) → (slice_get marks place ≡ Some true)
    ⊎ ((i : ℕ) × (i < place) × (slice_get marks i ≡ Some false) × LeadsOn kept i place)
    → AllBeyondBelow kept marks hung place → AllBeyondBelow kept marks hung (place + 1)
none_new kept marks hung place later all = below_next kept marks hung place all (from_earlier kept marks hung place later all)

beyond_still : (kept : List MachineState) (hung pushed : List (List (ℕ × ℕ))) (by : List (ℕ × ℕ)) (i : ℕ) → pushed ≡ hung ++ by ∷ [] →
    IsBeyondOne kept hung i → IsBeyondOne kept pushed i
beyond_still kept hung pushed by i same (k, one, j, at, comes, leads) =
    let inside = slice_get_within hung k one at in
    (k, one, j, ap (λ (hs : List (List (ℕ × ℕ))). slice_get hs k) same ∙ (slice_get-front hung (by ∷ []) k inside ∙ at), comes, leads)

pub next_beyond : (kept : List MachineState) (marks : List Bool) (hung pushed : List (List (ℕ × ℕ))) (by : List (ℕ × ℕ)) (place : ℕ) →
    ComesTo kept by place → pushed ≡ hung ++ by ∷ [] → AllBeyondBelow kept marks hung place → AllBeyondBelow kept marks pushed (place + 1)
next_beyond kept marks hung pushed by place comes same all =
    let at : slice_get pushed (length hung) ≡ Some by = ap (λ (hs : List (List (ℕ × ℕ))). slice_get hs (length hung)) same ∙ at_end hung by in
    below_next kept marks pushed place (λ i less off. beyond_still kept hung pushed by i same (all i less off))
    (λ off. (length hung, by, place, at, comes, ([], leads_nowhere RunsFreely free_runs_join kept place)))

-- with none there is nothing to be exchanged
pub none_exchanged : (peers : List Peer) → AreAllExchanged peers []
none_exchanged peers i c d by at equal = cc

-- ---- depths
module _ (peers : List Peer) where
  pub edge_deeper : (kept : List MachineState) (depths : List ℕ) (i c : ℕ) (e : Edge) → IsEdgeOf peers kept i c e → depth_at depths i + e.ahead + 1
      ≤ depth_at depths e.to → LeadsDeeperAt peers kept depths i c
  edge_deeper kept depths i c e (from, own, is) deeper m at =
      let two : Some is.old ≡ Some m = sym (subst (λ (k : ℕ). slice_get kept k ≡ Some is.old) from is.there) ∙ at in
      let one : is.old ≡ m = cc in (
        is.new,
        e.to,
        e.ahead,
        subst (λ (x : MachineState). TurnsAhead x c e.ahead is.new) one (subst (λ (d : ℕ). TurnsAhead is.old d e.ahead is.new) own is.turns),
        is.is_kept,
        deeper,
      )

  -- the turns of the CPUs below a number lead deeper
  abbrev pub DeeperBelow : List MachineState → List ℕ → ℕ → ℕ → Type 0
  DeeperBelow kept depths i n = (c : ℕ) → c < n → IsIdleAt kept i c ⊎ LeadsDeeperAt peers kept depths i c

  pub next_deeper : (kept : List MachineState) (depths : List ℕ) (i n : ℕ) → DeeperBelow kept depths i n →
      (IsIdleAt kept i n ⊎ LeadsDeeperAt peers kept depths i n) → DeeperBelow kept depths i (n + 1)
  next_deeper kept depths i n far one c less = elim (cases_lt c n) [
    | inl below ↦ far c below
    | inr past ↦ let e : n ≡ c = omega arith in subst (λ (d : ℕ). IsIdleAt kept i d ⊎ LeadsDeeperAt peers kept depths i d) e one
  ]

  pub all_deeper : (kept : List MachineState) (depths : List ℕ) (i n cpus : ℕ) → ((j c : ℕ) → cpus ≤ c → IsIdleAt kept j c) → cpus ≤ n →
      DeeperBelow kept depths i n → (c : ℕ) → IsIdleAt kept i c ⊎ LeadsDeeperAt peers kept depths i c
  all_deeper kept depths i n cpus idle past far c = elim (cases_lt c n) [
    | inl below ↦ far c below
    | inr above ↦ inl (idle i c (omega arith))
  ]

  pub next_sparing : (kept : List MachineState) (depths : List ℕ) (least n : ℕ) → ((i : ℕ) → i < n → IsSparingAt peers kept depths least i) →
      IsSparingAt peers kept depths least n → (i : ℕ) → i < n + 1 → IsSparingAt peers kept depths least i
  next_sparing kept depths least n far one i less = elim (cases_lt i n) [
    | inl below ↦ far i below
    | inr past ↦ let e : n ≡ i = omega arith in subst (IsSparingAt peers kept depths least) e one
  ]

  pub are_sparing : (kept : List MachineState) (depths : List ℕ) (least n : ℕ) → HaveBudgets kept least → length kept ≤ n →
      ((i : ℕ) → i < n → IsSparingAt peers kept depths least i) → AreSparingPermuted peers kept depths least
  are_sparing kept depths least n budgets past all i m at =
      let inside = slice_get_within kept i m at in
      let is = all i (omega arith) in
      record {
        depth = is.0;
        budgets = λ j task there. budgets i j m task at there;
        turns = λ c. elim (is.1 c) [ inl idle ↦ inl (idle m at) | inr deeper ↦ inr (deeper m at) ];
      }

  pub none_runs_out : PermutedBudgetsSuffice → (kept : List MachineState) (depths : List ℕ) (least : ℕ) → AreSparingPermuted peers kept
      depths least → NoneRunsOut kept
  none_runs_out law kept depths least sparing w fresh first (schedule, z, runs, (j, task, pc, at, ended)) =
      law peers kept depths least w z schedule sparing fresh (0, first.0, first.1, first.2) runs j task pc at ended
