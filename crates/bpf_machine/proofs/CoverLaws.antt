-- Closed lists of machines cover all that schedules lead to.
use Rattle.std.proofs.Common.{◌≡◌, ◌≢◌, ◌∙◌, ℕ, zero, suc, List, [], ◌∷◌, Option, Some, None, inl, inr, refl, sym, ap, subst}
use Rattle.std.specs.Prelude.{slice_get}
use Rattle.bpf_shared.specs.Laws.{CallsHaveOneReply}
use Rattle.bpf_shared.specs.Store.{put}
use Rattle.bpf_shared.proofs.Puts.{equal_or_not, put-same, put-other}
use Rattle.bpf_loader.specs.Loaded.{Loaded}
use Rattle.bpf_loader.specs.Laws.{OneInstructionBegins}
use Rattle.bpf_mem.specs.Laws.{WritesAreDetermined}
use Rattle.bpf_cpu.specs.declared.outcome.Outcome.{Outcome}
use Rattle.bpf_machine.specs.declared.machine.Turn.{Turn}
use Rattle.bpf_machine.specs.declared.machine.Turn.TheVariants as turn
use Rattle.bpf_machine.specs.declared.machine.ahead.Headway.{Headway}
use Rattle.bpf_machine.specs.declared.machine.ahead.Headway.TheVariants.{Idle, Turns}
use Rattle.bpf_cpu.specs.Task.{Task, InHand, Ended}
use Rattle.bpf_machine.specs.Hands.{IsFree, NoneWaits}
use Rattle.bpf_machine.specs.Schedule.{World, TakesTurn, RunsSchedule}
use Rattle.bpf_machine.specs.Rounds.{HaveEnded}
use Rattle.bpf_machine.specs.Laws.{IsFresh}
use Rattle.bpf_machine.specs.Machine.{MachineState, Shows}
use Rattle.bpf_machine.specs.Headways.{RunsAhead, turns_in, Precedes, BothPrecede, FitsHeadway, with_jobs, IsAheadOf}
use Rattle.bpf_machine.specs.Cover.{TurnsTo, IsClosed, IsShown, IsAhead, IsCovered, ClosedSetsCover}
use Rattle.bpf_machine.proofs.DeterminedTurns.{IsWorld, one_turn, fresh_world}
use Rattle.bpf_machine.proofs.TurnLaws.{turn_idle}
use Rattle.bpf_machine.proofs.HeadwayLaws.{turn_others, fits_kept, turn_behind, turn_comes}
use Rattle.bpf_machine.proofs.AheadLaws.{ran_ahead, both_same, still_fits, equal_lists}

-- ---- a CPU without work: its turn leads to the same machine
pub idle_turns_to : (m : MachineState) (c : ℕ) → IsFree m.jobs c → NoneWaits m.jobs c → TurnsTo m c m
idle_turns_to m c free none = (turn.Idle, m, Idle, turn_idle m c free none, (refl, free, none))

-- ---- a CPU's headway is another
module _ (headways : ℕ → Headway) (c : ℕ) (h : Headway) where
  abbrev pub now : ℕ → Headway
  now = put headways c h

  pub now_is : now c ≡ h
  now_is = put-same headways c c h refl

  pub others_are : (d : ℕ) → d ≢ c → headways d ≡ now d
  others_are d ne = sym (put-other headways c d h ne)

  was_ahead : (d : ℕ) → d ≢ c → IsAhead now d → IsAhead headways d
  was_ahead d ne far = (far.0, others_are d ne ∙ far.1)

-- but for turns that no store sees, the world is one of which this is true
abbrev pub IsCoveredBy : (World → Type 0) → World → Type 0
IsCoveredBy P w =
    (v : World) × (headways : ℕ → Headway) × P v × (with_jobs v w.jobs ≡ w) × IsAheadOf (IsAhead headways) headways w.jobs v

-- ---- at first no CPU is ahead
abbrev pub none_is_ahead : ℕ → Headway
none_is_ahead c = Turns 0

pub nobody_ahead : (w : World) → IsAheadOf (IsAhead none_is_ahead) none_is_ahead w.jobs w
nobody_ahead w = record {
  each = λ j. both_same w.programs (λ c. turns_in (none_is_ahead c)) (λ c. refl) (slice_get w.jobs j);
  fits = λ c far. let no : Turns 0 ≡ Turns (suc far.0) = far.1 in cc;
}

pub true_is_covered : (P : World → Type 0) (w : World) → P w → IsCoveredBy P w
true_is_covered P w shown = (w, none_is_ahead, shown, refl, nobody_ahead w)

pub shown_is_covered : (kept : List MachineState) (w : World) → IsShown kept w → IsCovered kept w
shown_is_covered kept w shown = true_is_covered (IsShown kept) w shown

-- ---- in the end none is ahead
module _ (programs : List Loaded) (turns : ℕ → ℕ) where
  ended_stays : (old new : Task) → (outcome : Outcome) × (old.stage ≡ Ended outcome) → Precedes programs (turns old.cpu) old new → old ≡ new
  ended_stays old new end (inl a) = sym a.0
  ended_stays old new end (inr a) = let no : Ended end.0 ≡ InHand a.1 a.2 = sym end.1 ∙ a.6 in cc

  both_ended : (o p : Option Task) → ((task : Task) → o ≡ Some task → (outcome : Outcome) × (task.stage ≡ Ended outcome)) → BothPrecede
      programs turns o p → o ≡ p
  both_ended None None ended both = refl
  both_ended None (Some new) ended both = absurd both
  both_ended (Some old) None ended both = absurd both
  both_ended (Some old) (Some new) ended both = ap Some (ended_stays old new (ended old refl) both)

pub ended_jobs : (z v : World) (headways : ℕ → Headway) → IsAheadOf (IsAhead headways) headways z.jobs v → HaveEnded z.jobs → z.jobs ≡ v.jobs
ended_jobs z v headways ahead ended =
    let turns : ℕ → ℕ = λ c. turns_in (headways c) in
    equal_lists z.jobs v.jobs (λ j. both_ended v.programs turns (slice_get z.jobs j) (slice_get v.jobs j) (λ task at. ended j task at) (ahead.each j))

pub ended_has : (P : World → Type 0) (z : World) → IsCoveredBy P z → HaveEnded z.jobs → P z
ended_has P z (v, headways, shown, same, ahead) ended =
    let jobs = ended_jobs z v headways ahead ended in
    subst P (ap (λ (ts : List Task). with_jobs v ts) (sym jobs) ∙ same) shown

-- ---- a turn
-- what is true of a world is true of another after the CPU's turn and its turns that no store sees
abbrev pub LeadsBy : (World → Type 0) → (Headway → World → Type 0) → ℕ → Type 0
LeadsBy P Q c = (v : World) → P v
    → (answer : Turn) × (mid : MachineState) × (m : MachineState) × (h : Headway) × ((y : World) × TakesTurn v c answer y × Shows mid y) ×
    RunsAhead mid c h m × ((y : World) → Shows m y → Q h y)

-- the same of each CPU
abbrev pub LeadsOn : (World → Type 0) → (World → Type 0) → Type 0
LeadsOn P Q = (v : World) (c : ℕ) → P v
    → (answer : Turn) × (mid : MachineState) × (m : MachineState) × (h : Headway) × ((y : World) × TakesTurn v c answer y × Shows mid y) ×
    RunsAhead mid c h m × ((y : World) → Shows m y → Q y)

module _ (w : World) (c : ℕ) (v : World) (headways : ℕ → Headway) (same : with_jobs v w.jobs ≡ w) (ahead : IsAheadOf (IsAhead headways) headways w.jobs v) where
  taken_here : (other : Turn) (y : World) → TakesTurn (with_jobs v w.jobs) c other y → TakesTurn w c other y
  taken_here other y taken = subst (λ (x : World). TakesTurn x c other y) same taken

  -- the turn was made ahead
  pub comes_made : (n : ℕ) → headways c ≡ Turns (suc n) → (y : World) × TakesTurn w c turn.Ran y × (with_jobs v y.jobs ≡ y) × IsAheadOf
      (IsAhead (now headways c (Turns n))) (now headways c (Turns n)) y.jobs v
  comes_made n many =
      let fits = subst (λ (h : Headway). FitsHeadway v.jobs c h) many (ahead.fits c (n, many)) in
      let new = now headways c (Turns n) in
      let new_is = now_is headways c (Turns n) in
      let others = others_are headways c (Turns n) in
      let t = turn_comes (λ d. turns_in (headways d)) (λ d. turns_in (new d)) c n v w.jobs ahead.each (ap turns_in many)
      (ap turns_in new_is) (λ d ne. ap turns_in (others d ne)) fits.0 fits.1 fits.2 in (
        with_jobs v t.0,
        taken_here turn.Ran (with_jobs v t.0) t.1,
        refl,
        record {
          each = t.2;
          fits = λ d far. elim (equal_or_not d c) [
            | inl e ↦ subst (λ (k : ℕ). FitsHeadway v.jobs k (new k)) (sym e)
                (subst (λ (h : Headway). FitsHeadway v.jobs c h) (sym new_is) (still_fits v.jobs c n fits))
            | inr ne ↦ subst (λ (h : Headway). FitsHeadway v.jobs d h) (others d ne) (ahead.fits d (was_ahead headways c (Turns n) d ne far))
          ];
        },
      )

  -- it is made from the kept machine
  pub comes_new : (P : World → Type 0) (Q : Headway → World → Type 0) → LeadsBy P Q c → P v → turns_in (headways c) ≡ 0
      → (answer : Turn) × (y : World) × (u : World) × (h : Headway) × TakesTurn w c answer y × Q h u × (with_jobs u y.jobs ≡ y) × IsAheadOf
      (IsAhead (now headways c h)) (now headways c h) y.jobs u
  comes_new P Q leads shown none =
      let r = leads v shown in
      let h = r.3 in
      let t = r.4 in
      let b = turn_behind (λ d. turns_in (headways d)) c none v w.jobs r.0 t.0 ahead.each t.1 in
      let new = now headways c h in
      let others = others_are headways c h in
      let so_far : IsAheadOf (λ d. (d ≢ c) × IsAhead headways d) headways b.0 t.0 = record {
        each = b.2;
        fits = λ d known. fits_kept v.jobs t.0.jobs d (turn_others v c d r.0 t.0 t.1 known.0) (headways d) (ahead.fits d known.1);
      } in
      let q = ran_ahead r.1 r.2 c (λ d. (d ≢ c) × IsAhead headways d) headways new b.0 t.0 t.2 so_far none others h (now_is headways c h) r.5 in (
        r.0,
        with_jobs q.0 b.0,
        q.0,
        h,
        taken_here r.0 (with_jobs q.0 b.0) (subst (λ (x : World). TakesTurn (with_jobs v w.jobs) c r.0 x) (sym q.1.0) b.1),
        r.6 q.0 q.1.2,
        refl,
        record {
          each = q.1.1.each;
          fits = λ d far. elim (equal_or_not d c) [
            | inl e ↦ q.1.1.fits d (inr e)
            | inr ne ↦ q.1.1.fits d (inl (ne, was_ahead headways c h d ne far))
          ];
        },
      )

  -- a turn comes of each CPU
  comes_from : (P Q : World → Type 0) → ((u : World) → P u → Q u) → LeadsOn P Q → P v → (h : Headway) → headways c ≡ h → (answer : Turn) ×
      (y : World) × TakesTurn w c answer y × IsCoveredBy Q y
  comes_from P Q stays leads shown Idle e =
      let r = comes_new P (λ h u. Q u) (λ u p. leads u c p) shown (ap turns_in e) in
      (r.0, r.1, r.4, (r.2, now headways c r.3, r.5, r.6, r.7))
  comes_from P Q stays leads shown (Turns zero) e =
      let r = comes_new P (λ h u. Q u) (λ u p. leads u c p) shown (ap turns_in e) in
      (r.0, r.1, r.4, (r.2, now headways c r.3, r.5, r.6, r.7))
  comes_from P Q stays leads shown (Turns (suc n)) e =
      let r = comes_made n e in
      (turn.Ran, r.0, r.1, (v, now headways c (Turns n), stays v shown, r.2, r.3))

pub comes : (P Q : World → Type 0) → ((v : World) → P v → Q v) → LeadsOn P Q → (w : World) (c : ℕ) → IsCoveredBy P w → (answer : Turn) ×
    (y : World) × TakesTurn w c answer y × IsCoveredBy Q y
comes P Q stays leads w c (v, headways, shown, same, ahead) = comes_from w c v headways same ahead P Q stays leads shown (headways c) refl

-- the turn that the definitions lead to is the one that was taken
pub turned : WritesAreDetermined → OneInstructionBegins → CallsHaveOneReply
    → (P Q : World → Type 0) → ((v : World) → P v → Q v) → LeadsOn P Q → (w z : World) (c : ℕ) (answer : Turn) → IsWorld w → IsCoveredBy P w
    → TakesTurn w c answer z → IsCoveredBy Q z
turned law begins replies P Q stays leads w z c answer world covered progress =
    let r = comes P Q stays leads w c covered in
    let one = one_turn law begins replies w c answer r.0 z r.1 world progress r.2 in
    subst (IsCoveredBy Q) (sym one.worlds) r.3

-- ---- a schedule
module _ (law : WritesAreDetermined) (begins : OneInstructionBegins) (replies : CallsHaveOneReply) (P : World → Type 0) (leads : LeadsOn P P) where
  run_covered : (cs : List ℕ) (w z : World) → IsWorld w → IsCoveredBy P w → RunsSchedule w cs z → IsCoveredBy P z × IsWorld z
  run_covered [] w z world covered runs = (subst (IsCoveredBy P) (sym runs) covered, subst IsWorld (sym runs) world)
  run_covered (c ∷ cs) w z world covered runs =
      let next = (one_turn law begins replies w c runs.0 runs.0 runs.1 runs.1 world runs.2 runs.2).world in
      run_covered cs runs.1 z next (turned law begins replies P P (λ v shown. shown) leads w runs.1 c runs.0 world covered runs.2) runs.3

  pub covered_by : (w z : World) (schedule : List ℕ) → IsFresh w → P w → RunsSchedule w schedule z → IsCoveredBy P z × IsWorld z
  covered_by w z schedule fresh shown runs = run_covered schedule w z (fresh_world law begins replies w fresh) (true_is_covered P w shown) runs

closed_leads : (kept : List MachineState) → IsClosed kept → LeadsOn (IsShown kept) (IsShown kept)
closed_leads kept closed v c (i, m, at, shows) =
    let r = closed i m at c in
    (r.1.0, r.1.1, r.0, r.1.2, r.1.3 v shows, r.1.4, λ y seen. (r.2.0, r.2.1, r.2.2, r.2.3 y seen))

pub covered_from : WritesAreDetermined → OneInstructionBegins → CallsHaveOneReply → (kept : List MachineState) → IsClosed kept →
    (w z : World) (schedule : List ℕ) → IsFresh w → IsShown kept w → RunsSchedule w schedule z → IsCovered kept z × IsWorld z
covered_from law begins replies kept closed w z schedule fresh shown runs = covered_by law begins replies (IsShown kept)
    (closed_leads kept closed) w z schedule fresh shown runs

pub closed_sets_cover : WritesAreDetermined → OneInstructionBegins → CallsHaveOneReply → ClosedSetsCover
closed_sets_cover law begins replies kept w z schedule closed fresh shown runs =
    let covered = (covered_from law begins replies kept closed w z schedule fresh shown runs).0 in
    (covered, ended_has (IsShown kept) z covered)
