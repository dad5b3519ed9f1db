-- A list of machines that is closed but for places, dead registers and budgets covers all that schedules
-- lead to.
use Rattle.std.proofs.Common.{ℕ, zero, suc, List, [], ◌∷◌, refl, sym, subst}
use Rattle.bpf_shared.specs.Laws.{CallsHaveOneReply}
use Rattle.bpf_loader.specs.Laws.{OneInstructionBegins}
use Rattle.bpf_mem.specs.Laws.{WritesAreDetermined}
use Rattle.bpf_cpu.specs.Task.{Task}
use Rattle.bpf_live.specs.Laws.{AlikeIsAnEquivalence, OneStateIsAlike, StepsAreAlike}
use Rattle.bpf_machine.specs.declared.machine.Turn.{Turn}
use Rattle.bpf_machine.specs.Cover.{IsShown}
use Rattle.bpf_machine.specs.Headways.{with_jobs}
use Rattle.bpf_machine.specs.Laws.{IsFresh}
use Rattle.bpf_machine.specs.Machine.{MachineState}
use Rattle.bpf_machine.specs.Patient.{NoneRanOut}
use Rattle.bpf_machine.specs.Rounds.{HaveEnded}
use Rattle.bpf_machine.specs.Schedule.{RunsSchedule, TakesTurn, World}
use Rattle.bpf_machine.proofs.CoverLaws.{IsCoveredBy, LeadsBy, LeadsOn, comes, ended_has, true_is_covered}
use Rattle.bpf_machine.proofs.DeterminedTurns.{IsWorld, fresh_world, one_turn}
use Rattle.bpf_machine.proofs.PatientLaws.{Richly, all_same, enriched, none_ran_before, rich_again, rich_ended, rich_turn, rich_world}
use Rattle.bpf_alike.specs.Covers.{IsShownAlike}
use Rattle.bpf_alike.proofs.AlikeAhead.{dead_ended, dead_once, leads_alike}
use Rattle.bpf_alike.proofs.AlikeJobs.{all_same as alike_same}
use Rattle.bpf_alike.proofs.AlikeRicher.{dead_and_rich}
use Rattle.bpf_equal.specs.Covers.{ButForPlaces, IsClosedPermuted, IsClosedPermutedRichly, IsCoveredPermutedRichly, KeepsEnds, KeptEndsAreShown}
use Rattle.bpf_equal.specs.Covers.{PermutedPatientSetsCover, PermutedPatientSetsHaveTurns, PermutedSetsCover, PermutedSetsHaveTurns}
use Rattle.bpf_equal.specs.Peers.{Peer}
use Rattle.bpf_equal.specs.Worlds.{ArePermuted, ArePermutedIn}
use Rattle.bpf_equal.proofs.Chains.{again, back, carried, dead_places, ended_next, ended_there, places_richly, turns_back}

-- ---- what is covered stays so where a world changes places
module _ (peers : List Peer) where
  abbrev pub Places : (World → Type 0) → World → Type 0
  Places = ButForPlaces peers

  abbrev pub Covered : (World → Type 0) → World → Type 0
  Covered P = Places (IsCoveredBy P)

  pub in_place : (P : World → Type 0) (w : World) → P w → Places P w
  in_place P w shown = (w, (0, refl), shown)

  pub carry : (P : World → Type 0) (y : World) → IsCoveredBy (Places P) y → Covered P y
  carry P y (v, headways, (u, (n, chain), shown), same, ahead) =
      let r = carried peers P n y v u headways chain shown same ahead in (r.0, (n, r.1), r.2)

  pub again_so : (P : World → Type 0) (w v : World) → ArePermuted peers w v → Places P v → Places P w
  again_so P w v one (u, two, shown) = (u, again peers w v u one two, shown)

  pub ended_but_for_places : (P : World → Type 0) (z : World) → Covered P z → HaveEnded z.jobs → Places P z
  ended_but_for_places P z (u, (n, chain), covered) ended = (u, (n, chain), ended_has P u covered (ended_there peers n z u chain ended))

  -- a turn comes of each CPU
  pub next_turn : (P R : World → Type 0) → ((v : World) → P v → R v) → LeadsOn P (Places R) → (w : World) (c : ℕ) → Covered P w
      → (answer : Turn) × (y : World) × TakesTurn w c answer y
  next_turn P R stays_so leads w c (u, (n, chain), covered) =
      let b = turns_back peers n w u chain in
      let r = comes P (Places R) (λ v shown. in_place R v (stays_so v shown)) leads u (b.0 c) covered in
      let t = b.1 c r.0 r.1 r.2 in
      (t.0, t.1, t.2)

  module _ (law : WritesAreDetermined) (begins : OneInstructionBegins) (replies : CallsHaveOneReply) where
    -- a turn leads to what is covered by what turns lead to
    pub turn_covered : (P R : World → Type 0) → ((v : World) → P v → R v) → LeadsOn P (Places R) → (w z : World) (c : ℕ) (answer : Turn)
        → IsWorld w → Covered P w → TakesTurn w c answer z → Covered R z
    turn_covered P R stays_so leads w z c answer world (u, (n, chain), covered) taken =
        let b = turns_back peers n w u chain in
        let r = comes P (Places R) (λ v shown. in_place R v (stays_so v shown)) leads u (b.0 c) covered in
        let t = b.1 c r.0 r.1 r.2 in
        let one = one_turn law begins replies w c answer t.0 z t.1 world taken t.2 in
        again_so (IsCoveredBy R) z r.1 (n, subst (λ (x : World). ArePermutedIn peers n x r.1) (sym one.worlds) t.3) (carry R r.1 r.3)

    pub next_world : (w z : World) (c : ℕ) (answer : Turn) → IsWorld w → TakesTurn w c answer z → IsWorld z
    next_world w z c answer world taken = (one_turn law begins replies w c answer answer z z world taken taken).world

    module _ (P : World → Type 0) (leads : LeadsOn P (Places P)) where
      run_covered : (cs : List ℕ) (w z : World) → IsWorld w → Covered P w → RunsSchedule w cs z → Covered P z
      run_covered [] w z world covered same = subst (Covered P) (sym same) covered
      run_covered (c ∷ cs) w z world covered (answer, m, taken, rest) =
          run_covered cs m z (next_world w m c answer world taken) (turn_covered P P (λ v shown. shown) leads w m c answer world covered taken) rest

      pub covered_but_for_places : (first z : World) (schedule : List ℕ) → IsFresh first → P first → RunsSchedule first schedule z → Covered P z
      covered_but_for_places first z schedule fresh shown runs =
          run_covered schedule first z (fresh_world law begins replies first fresh) (in_place (IsCoveredBy P) first (true_is_covered P first shown)) runs

    -- ---- with richer jobs
    module _ (P : World → Type 0) (leads : LeadsOn P (Places (Richly P))) where
      turn_covered_richly : (w z : World) (c : ℕ) (answer : Turn) → IsWorld w → Richly (Covered P) w → TakesTurn w c answer z → NoneRanOut z.jobs
          → Richly (Covered P) z
      turn_covered_richly w z c answer world (jobs, rich, covered) taken none =
          let t = rich_turn w jobs c answer z rich taken none in
          let r = turn_covered P (Richly P) (λ v shown. (v.jobs, all_same v.jobs, shown)) leads (with_jobs w jobs) (with_jobs z t.0) c answer
          (rich_world w jobs rich world) covered t.1 in
          let e = places_richly peers (IsCoveredBy P) (with_jobs z t.0) (r.0, r.1, enriched P r.0 r.2) in
          (e.0, rich_again z.jobs t.0 e.0 t.2 e.1, e.2)

      run_covered_richly : (cs : List ℕ) (w z : World) → IsWorld w → Richly (Covered P) w → RunsSchedule w cs z → NoneRanOut z.jobs → Richly (Covered P) z
      run_covered_richly [] w z world covered same none = subst (Richly (Covered P)) (sym same) covered
      run_covered_richly (c ∷ cs) w z world covered (answer, m, taken, rest) none =
          let early = none_ran_before cs m z rest none in
          run_covered_richly cs m z (next_world w m c answer world taken) (turn_covered_richly w m c answer world covered taken early) rest none

      pub covered_richly : (first z : World) (schedule : List ℕ) → IsFresh first → P first → RunsSchedule first schedule z → NoneRanOut z.jobs
          → Richly (Covered P) z
      covered_richly first z schedule fresh shown runs none =
          run_covered_richly schedule first z (fresh_world law begins replies first fresh)
          (first.jobs, all_same first.jobs, in_place (IsCoveredBy P) first (true_is_covered P first shown)) runs none

  pub ended_richly : (P : World → Type 0) (z : World) → Richly (Covered P) z → HaveEnded z.jobs → Places P z
  ended_richly P z (jobs, rich, covered) ended =
      let same = rich_ended z.jobs jobs rich ended in
      ended_but_for_places P z (subst (λ (ts : List Task). Covered P (with_jobs z ts)) same covered) ended

-- ---- where a list is closed so
module _ (equal : AlikeIsAnEquivalence) (steps : StepsAreAlike) (one : OneStateIsAlike) (peers : List Peer) (kept : List MachineState) where
  abbrev Shown : World → Type 0
  Shown = IsShown kept

  abbrev Alike : World → Type 0
  Alike = IsShownAlike kept

  closed_leads : IsClosedPermuted peers kept → (c : ℕ) → LeadsBy Shown (λ h u. ButForPlaces peers Alike u) c
  closed_leads closed c v (i, m, at, shows) = let r = closed i m c at in (r.1.0, r.1.1, r.0, r.1.2, r.1.3 v shows, r.1.4, r.2)

  pub permuted_leads : IsClosedPermuted peers kept → LeadsOn Alike (ButForPlaces peers Alike)
  permuted_leads closed v c shown =
      let r = leads_alike equal steps one Shown (λ h u. ButForPlaces peers Alike u) c (closed_leads closed c) v shown in (
        r.0,
        r.1,
        r.2,
        r.3,
        r.4,
        r.5,
        λ y seen.
            let s = dead_places peers equal Alike y (r.6 y seen) in
            (s.0, s.1, dead_once equal Shown s.0 s.2),
      )

  closed_leads_richly : IsClosedPermutedRichly peers kept → (c : ℕ) → LeadsBy Shown (λ h u. ButForPlaces peers (Richly Alike) u) c
  closed_leads_richly closed c v (i, m, at, shows) = let r = closed i m c at in (r.1.0, r.1.1, r.0, r.1.2, r.1.3 v shows, r.1.4, r.2)

  pub permuted_leads_richly : IsClosedPermutedRichly peers kept → LeadsOn Alike (ButForPlaces peers (Richly Alike))
  permuted_leads_richly closed v c shown =
      let r = leads_alike equal steps one Shown (λ h u. ButForPlaces peers (Richly Alike) u) c (closed_leads_richly closed c) v shown in (
        r.0,
        r.1,
        r.2,
        r.3,
        r.4,
        r.5,
        λ y seen.
            let s = dead_places peers equal (Richly Alike) y (r.6 y seen) in
            (s.0, s.1, dead_and_rich equal Shown s.0 s.2),
      )

  -- an end that is shown but for places and dead registers is shown but for places
  pub ends_shown : (z : World) → ButForPlaces peers Alike z → HaveEnded z.jobs → ButForPlaces peers Shown z
  ends_shown z (v, (n, chain), shown) ended = (v, (n, chain), dead_ended equal Shown v shown (ended_there peers n z v chain ended))

-- what a schedule leads to is covered
module _ (equal : AlikeIsAnEquivalence) (steps : StepsAreAlike) (one : OneStateIsAlike) (law : WritesAreDetermined) (begins : OneInstructionBegins)
    (replies : CallsHaveOneReply) (peers : List Peer) (kept : List MachineState) where
  pub covered_permuted : IsClosedPermuted peers kept → (first z : World) (schedule : List ℕ) → IsFresh first → IsShown kept first
      → RunsSchedule first schedule z → Covered peers (IsShownAlike kept) z
  covered_permuted closed first z schedule fresh shown runs =
      covered_but_for_places peers law begins replies (IsShownAlike kept) (permuted_leads equal steps one peers kept closed) first z schedule fresh
      (first.jobs, alike_same equal first.programs first.jobs, shown) runs

  -- with richer jobs, while none runs out of budget
  pub covered_permuted_richly : IsClosedPermutedRichly peers kept → (first z : World) (schedule : List ℕ) → IsFresh first → IsShown kept first
      → RunsSchedule first schedule z → NoneRanOut z.jobs → IsCoveredPermutedRichly peers kept z
  covered_permuted_richly closed first z schedule fresh shown runs none =
      covered_richly peers law begins replies (IsShownAlike kept) (permuted_leads_richly equal steps one peers kept closed) first z schedule fresh
      (first.jobs, alike_same equal first.programs first.jobs, shown) runs none

pub permuted_sets_cover : AlikeIsAnEquivalence → StepsAreAlike → OneStateIsAlike → WritesAreDetermined → OneInstructionBegins → CallsHaveOneReply
    → PermutedSetsCover
permuted_sets_cover equal steps one law begins replies peers kept first z schedule closed fresh shown runs =
    let covered = covered_permuted equal steps one law begins replies peers kept closed first z schedule fresh shown runs in
    (covered, λ ended. ends_shown equal steps one peers kept z (ended_but_for_places peers (IsShownAlike kept) z covered ended) ended)

pub permuted_sets_have_turns : AlikeIsAnEquivalence → StepsAreAlike → OneStateIsAlike → WritesAreDetermined → OneInstructionBegins
    → CallsHaveOneReply → PermutedSetsHaveTurns
permuted_sets_have_turns equal steps one law begins replies peers kept first z schedule c closed fresh shown runs =
    next_turn peers (IsShownAlike kept) (IsShownAlike kept) (λ v shown. shown) (permuted_leads equal steps one peers kept closed) z c
    (covered_permuted equal steps one law begins replies peers kept closed first z schedule fresh shown runs)

pub permuted_patient_sets_cover : AlikeIsAnEquivalence → StepsAreAlike → OneStateIsAlike → WritesAreDetermined → OneInstructionBegins
    → CallsHaveOneReply → PermutedPatientSetsCover
permuted_patient_sets_cover equal steps one law begins replies peers kept first z schedule closed fresh shown runs none =
    let covered = covered_permuted_richly equal steps one law begins replies peers kept closed first z schedule fresh shown runs none in
    (covered, λ ended. ends_shown equal steps one peers kept z (ended_richly peers (IsShownAlike kept) z covered ended) ended)

pub permuted_patient_sets_have_turns : AlikeIsAnEquivalence → StepsAreAlike → OneStateIsAlike → WritesAreDetermined → OneInstructionBegins
    → CallsHaveOneReply → PermutedPatientSetsHaveTurns
permuted_patient_sets_have_turns equal steps one law begins replies peers kept first z schedule closed fresh shown runs none =
    let covered = covered_permuted_richly equal steps one law begins replies peers kept closed first z schedule fresh shown runs none in (
      covered.0,
      covered.1,
      λ c.
          next_turn peers (IsShownAlike kept) (Richly (IsShownAlike kept)) (λ v shown. (v.jobs, all_same v.jobs, shown))
          (permuted_leads_richly equal steps one peers kept closed) (with_jobs z covered.0) c covered.2,
    )

-- ---- where ends are kept after each move
module _ (peers : List Peer) (kept : List MachineState) (keeps : KeepsEnds peers kept) where
  kept_along : (n : ℕ) (v z : World) → ArePermutedIn peers n v z → IsShown kept v → HaveEnded v.jobs → IsShown kept z
  kept_along zero v z same shown ended = subst (IsShown kept) (sym same) shown
  kept_along (suc n) v z (mid, step, rest) shown ended =
      kept_along n mid z rest (keeps v mid shown ended step) (ended_next peers v mid step ended)

pub kept_ends_are_shown : KeptEndsAreShown
kept_ends_are_shown peers kept z keeps (v, (n, chain), shown) ended =
    let r = back peers z v (n, chain) in
    kept_along peers kept keeps r.0 v z r.1 shown (ended_there peers n z v chain ended)
