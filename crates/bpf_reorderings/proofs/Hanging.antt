-- Kept machines from which no end can be reached, and the schedules that are printed of them.
use Rattle.std.proofs.Common.{◌≡◌, ◌∙◌, ℕ, zero, suc, ◌+◌, ◌<◌, ◌⊎◌, Bool, true, false, List, [], ◌∷◌, ◌++◌, Option, Some, inl, inr, length, map}
use Rattle.std.proofs.Common.{refl, sym, ap, subst, arith}
use Rattle.std.specs.Prelude.{IfSome, slice_get}
use Rattle.std.proofs.lemmas.Bool.{cases_lt}
use Rattle.std.proofs.lemmas.Option.{slice_get_within}
use Rattle.bpf_base.proofs.Lists.{slice_get-front}
use Rattle.bpf_cpu.specs.Task.{Task}
use Rattle.bpf_alike.proofs.Like.{all_like}
use Rattle.bpf_machine.specs.Patient.{AsRich, NoneRanOut}
use Rattle.bpf_machine.specs.Schedule.{World, unrolled}
use Rattle.bpf_x86.specs.Machine.{X86, Move, RunsMoves, drained}
use Rattle.bpf_buffering.specs.Album.{IsShownAt}
use Rattle.bpf_buffering.specs.Search.{BufferedState, ShowsX86, move_of}
use Rattle.bpf_buffering.specs.Alike.{with_x86_jobs}
use Rattle.bpf_patience.specs.Patience.{FreeMovesAgree}
use Rattle.bpf_patience.specs.Ends.{AreStuckX86, CanEndX86, LeadsOnX86, StuckX86sAreHung, X86sCanEnd}
use Rattle.bpf_patience.proofs.Freeing.{rich_none}
use Rattle.bpf_patience.proofs.Joining.{free_both, gift_first}
use Rattle.bpf_reorderings.specs.Patient.{LiesBeyondOneX86}
use Rattle.bpf_reorderings.specs.Private.Hung.{AllBeyondBelow, AllHang, AllLeadOrBeyond, AreMarked, ComesTo, Hangs, IsBeyondOne, LeadsToEnd, NoneRanOutAt}
use Rattle.bpf_reorderings.specs.Private.Searching.{BeginsAt, IsTried}
use Rattle.bpf_reorderings.specs.Private.Trail.{LeadsBy, LeadsOn}
use Rattle.bpf_reorderings.proofs.Marking.{pushed_at}
use Rattle.bpf_reorderings.proofs.Trails.{leads_both, leads_nowhere}

one_kept : (kept : List BufferedState) (i : ℕ) (m n : BufferedState) → slice_get kept i ≡ Some m → slice_get kept i ≡ Some n → m ≡ n
one_kept kept i m n a b = let both : Some m ≡ Some n = sym a ∙ b in cc

-- ---- a schedule that was tried, and uses no budget up
abbrev moves_by : List (ℕ × ℕ) → List Move
moves_by by = map move_of (unrolled by)

record Agreed (kept : List BufferedState) (w : World) (moves : List Move) (place : ℕ) : Type 0 where
  end : X86
  runs : RunsMoves (drained w) moves end
  none : NoneRanOut end.world.jobs
  jobs : List Task
  rich : AsRich end.world.jobs jobs
  shown : IsShownAt kept place (with_x86_jobs end jobs)

module _ (law : FreeMovesAgree) (kept : List BufferedState) (by : List (ℕ × ℕ)) (place : ℕ) (m : BufferedState)
    (leads : LeadsBy true kept 0 (moves_by by) place) (tried : IsTried kept (moves_by by) m) (none : NoneRanOut m.machine.jobs) where
  agreed : (w : World) → BeginsAt kept w → Agreed kept w (moves_by by) place
  agreed w begins =
      let t = tried w begins in
      let none_there : NoneRanOut t.0.world.jobs = subst NoneRanOut (sym t.2.world.jobs) none in
      let f = leads (drained w) begins.1 in
      let a = law w (moves_by by) t.0 f.0 begins.0 t.1 none_there f.1 in
      record {
        end = t.0;
        runs = a.0;
        none = none_there;
        jobs = f.0.world.jobs;
        rich = a.1;
        shown = subst (IsShownAt kept place) (sym a.2) f.2;
      }

  pub hangs : StuckX86sAreHung → (marks : List Bool) → AreStuckX86 kept marks → slice_get marks place ≡ Some false → Hangs kept by
  hangs hung marks stuck off w begins =
      let a = agreed w begins in (
        a.end,
        a.runs,
        a.none,
        hung kept marks w (moves_by by) a.end place stuck begins.0 a.runs off
            (a.jobs, a.rich, (a.jobs, all_like a.end.world.programs a.jobs, a.shown)),
      )

  -- the schedule leads to the kept machine, but for steps that are left
  pub comes_to : ComesTo kept by place
  comes_to w begins =
      let a = agreed w begins in
      (a.end, a.jobs, a.runs, a.rich, a.shown)

  -- no job of it is out of budget
  pub none_out_there : (w : World) → BeginsAt kept w → NoneRanOutAt kept place
  none_out_there w begins n at =
      let a = agreed w begins in
      let one : a.shown.0 ≡ n = one_kept kept place a.shown.0 n a.shown.1 at in
      subst (λ (s : BufferedState). NoneRanOut s.machine.jobs) one
      (subst NoneRanOut a.shown.2.world.jobs (rich_none a.end.world.jobs a.jobs a.rich a.none))

-- ---- what is printed
pub none_hung : (kept : List BufferedState) → AllHang kept []
none_hung kept i by at = cc

pub one_more_hung : (kept : List BufferedState) (hung pushed : List (List (ℕ × ℕ))) (by : List (ℕ × ℕ)) → AllHang kept hung → Hangs kept by → pushed ≡
    hung ++ by ∷ [] → AllHang kept pushed
one_more_hung kept hung pushed by all is same k x at =
    elim (pushed_at hung by k x (ap (λ (hs : List (List (ℕ × ℕ))). slice_get hs k) (sym same) ∙ at)) [
      | inl before ↦ all k x before
      | inr last ↦ subst (Hangs kept) last.1 is
    ]

pub some_hung : (kept : List BufferedState) (o : Option (List (ℕ × ℕ))) (x : List (ℕ × ℕ)) → o ≡ Some x → IfSome o (Hangs kept) → Hangs kept x
some_hung kept o x e h = subst (λ (s : Option (List (ℕ × ℕ))). IfSome s (Hangs kept)) e h

pub some_there : (kept : List BufferedState) (place : ℕ) (o : Option (List (ℕ × ℕ))) (x : List (ℕ × ℕ)) → o ≡ Some x → IfSome o
    (λ by. ComesTo kept by place) → ComesTo kept x place
some_there kept place o x e h = subst (λ (s : Option (List (ℕ × ℕ))). IfSome s (λ by. ComesTo kept by place)) e h

-- ---- what lies beyond what is printed
-- moves lead on
beyond_more : (kept : List BufferedState) (hung : List (List (ℕ × ℕ))) (i place : ℕ) → IsBeyondOne kept hung i → LeadsOn true kept i place →
    IsBeyondOne kept hung place
beyond_more kept hung i place (k, by, j, at, comes, (ms, far)) (ns, leads) =
    (k, by, j, at, comes, (ms ++ ns, leads_both true kept j i place ms ns far leads))

never_both : (marks : List Bool) (place : ℕ) → slice_get marks place ≡ Some true → slice_get marks place ≡ Some false → ⊥
never_both marks place on off = let two : Some true ≡ Some false = sym on ∙ off in cc

-- it is marked, or an earlier one that isn't leads to it
abbrev pub IsLater : Bool → List BufferedState → List Bool → ℕ → Type 0
IsLater patient kept marks place = (slice_get marks place ≡ Some true)
    ⊎ ((i : ℕ) × (i < place) × (slice_get marks i ≡ Some false) × LeadsOn patient kept i place)

pub later_so : (patient : Bool) (kept : List BufferedState) (marks : List Bool) (place : ℕ) → patient ≡ true → IsLater patient kept marks place →
    IsLater true kept marks place
later_so patient kept marks place is later = subst (λ (b : Bool). IsLater b kept marks place) is later

from_earlier : (kept : List BufferedState) (marks : List Bool) (hung : List (List (ℕ × ℕ))) (place : ℕ) → IsLater true kept marks place → AllBeyondBelow kept
    marks hung place → slice_get marks place ≡ Some false → IsBeyondOne kept hung place
from_earlier kept marks hung place (inl on) all off = absurd (never_both marks place on off)
from_earlier kept marks hung place (inr (i, less, off, leads)) all here = beyond_more kept hung i place (all i less off) leads

below_next : (kept : List BufferedState) (marks : List Bool) (hung : List (List (ℕ × ℕ))) (place : ℕ) → AllBeyondBelow kept marks hung place →
    (slice_get marks place ≡ Some false → IsBeyondOne kept hung place) → AllBeyondBelow kept marks hung (place + 1)
below_next kept marks hung place all here i less off = elim (cases_lt i place) [
  | inl below ↦ all i below off
  | inr past ↦ let e : place ≡ i = omega arith in subst (λ (k : ℕ). slice_get marks k ≡ Some false → IsBeyondOne kept hung k) e here off
]

pub none_new : (kept : List BufferedState) (marks : List Bool) (hung : List (List (ℕ × ℕ))) (place : ℕ) → IsLater true kept marks place → AllBeyondBelow kept
    marks hung place → AllBeyondBelow kept marks hung (place + 1)
none_new kept marks hung place later all = below_next kept marks hung place all (from_earlier kept marks hung place later all)

at_end : (hung : List (List (ℕ × ℕ))) (by : List (ℕ × ℕ)) → slice_get (hung ++ by ∷ []) (length hung) ≡ Some by
at_end [] by = refl
at_end (x ∷ xs) by = at_end xs by

beyond_still : (kept : List BufferedState) (hung pushed : List (List (ℕ × ℕ))) (by : List (ℕ × ℕ)) (i : ℕ) → pushed ≡ hung ++ by ∷ [] → IsBeyondOne
    kept hung i → IsBeyondOne kept pushed i
beyond_still kept hung pushed by i same (k, one, j, at, comes, leads) =
    let inside = slice_get_within hung k one at in
    (k, one, j, ap (λ (hs : List (List (ℕ × ℕ))). slice_get hs k) same ∙ (slice_get-front hung (by ∷ []) k inside ∙ at), comes, leads)

pub next_beyond : (kept : List BufferedState) (marks : List Bool) (hung pushed : List (List (ℕ × ℕ))) (by : List (ℕ × ℕ)) (place : ℕ) → ComesTo
    kept by place → pushed ≡ hung ++ by ∷ [] → AllBeyondBelow kept marks hung place → AllBeyondBelow kept marks pushed (place + 1)
next_beyond kept marks hung pushed by place comes same all =
    let at : slice_get pushed (length hung) ≡ Some by = ap (λ (hs : List (List (ℕ × ℕ))). slice_get hs (length hung)) same ∙ at_end hung by in
    below_next kept marks pushed place (λ i less off. beyond_still kept hung pushed by i same (all i less off))
    (λ off. (length hung, by, place, at, comes, ([], leads_nowhere true kept place)))

-- ---- each leads to an end, or lies beyond what is printed
mark_there : (marks : List Bool) (i : ℕ) → i < length marks → (b : Bool) × (slice_get marks i ≡ Some b)
mark_there [] i less = absurd (omega arith)
mark_there (b ∷ marks) zero less = (b, refl)
mark_there (b ∷ marks) (suc i) less = mark_there marks i (omega arith)

pub all_lead_or_beyond : (kept : List BufferedState) (marks : List Bool) (hung : List (List (ℕ × ℕ))) → AreMarked kept marks → AllBeyondBelow kept
    marks hung (length marks) → AllLeadOrBeyond kept hung
all_lead_or_beyond kept marks hung marked all i inside = go r.0 r.1
  where
    within : i < length marks
    within = subst (λ (n : ℕ). i < n) (sym marked.count) inside

    r : (b : Bool) × (slice_get marks i ≡ Some b)
    r = mark_there marks i within

    go : (b : Bool) → slice_get marks i ≡ Some b → LeadsToEnd kept i ⊎ IsBeyondOne kept hung i
    go true at = inl (marked.lead i at)
    go false at = inr (all i within at)

-- so does what leads to what one shows
pub ends_or_lies : X86sCanEnd → (kept : List BufferedState) (w : World) (z : X86) (hung : List (List (ℕ × ℕ))) → AllLeadOrBeyond kept hung → BeginsAt
    kept w → LeadsOnX86 kept z → CanEndX86 z ⊎ LiesBeyondOneX86 w hung z
ends_or_lies law kept w z hung all begins (moves, y, free, (dead, alike, (i, m, at, shows))) = go (all i (slice_get_within kept i m at))
  where
    go : LeadsToEnd kept i ⊎ IsBeyondOne kept hung i → CanEndX86 z ⊎ LiesBeyondOneX86 w hung z
    go (inl (n, ends)) =
        let r = law kept n i y ends (dead, alike, (m, at, shows)) in
        inl (moves ++ r.0, r.1, free_both moves r.0 z y r.1 free r.2, r.3, r.4)
    go (inr (k, by, j, listed, comes, (ms, leads))) =
        let c = comes w begins in
        let l = leads (with_x86_jobs c.0 c.1) c.4 in
        let one : l.2.0 ≡ m = one_kept kept i l.2.0 m l.2.1 at in
        inr (
          k,
          by,
          listed,
          (
            m,
            c.0,
            c.2,
            (
              ms,
              l.0,
              gift_first ms c.0 l.0 c.1 c.3 l.1,
              (l.0.world.jobs, all_like l.0.world.programs l.0.world.jobs, subst (λ (s : BufferedState). ShowsX86 s l.0) one l.2.2),
            ),
            (moves, y, free, (dead, alike, shows)),
          ),
        )
