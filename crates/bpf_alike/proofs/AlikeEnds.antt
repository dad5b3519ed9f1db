-- Machines from which an end can be reached, and from which none can, but for dead registers.
use Rattle.std.proofs.Common.{◌≡◌, ◌∙◌, ℕ, zero, suc, Bool, false, List, Some, sym, ap, subst}
use Rattle.std.specs.Prelude.{slice_get}
use Rattle.bpf_shared.specs.Laws.{CallsHaveOneReply}
use Rattle.bpf_loader.specs.Loaded.{Loaded}
use Rattle.bpf_loader.specs.Laws.{OneInstructionBegins}
use Rattle.bpf_mem.specs.Laws.{WritesAreDetermined}
use Rattle.bpf_cpu.specs.declared.outcome.Outcome.TheVariants.{OutOfBudget}
use Rattle.bpf_cpu.specs.Task.{Task}
use Rattle.bpf_live.specs.Laws.{AlikeIsAnEquivalence, OneStateIsAlike, StepsAreAlike}
use Rattle.bpf_machine.specs.Cover.{TurnsTo}
use Rattle.bpf_machine.specs.Headways.{with_jobs}
use Rattle.bpf_machine.specs.Machine.{MachineState, Shows}
use Rattle.bpf_machine.specs.Patient.{NoneRanOut}
use Rattle.bpf_machine.specs.Rounds.{HaveEnded}
use Rattle.bpf_machine.specs.Schedule.{World}
use Rattle.bpf_machine.proofs.CoverLaws.{LeadsBy, LeadsOn}
use Rattle.bpf_machine.proofs.EndLaws.{EndOn, IsShownAt, are_hung, can_end, one_machine}
use Rattle.bpf_machine.proofs.PatientLaws.{Richly}
use Rattle.bpf_alike.specs.Ends.{AlikeAllCanEnd, AlikeCanEnd, AlikeStuckAreHung, AreStuckAlike, EndsInAlike, IsShownAlikeAt, IsShownAlikeRichlyAt, LeadsToAlike}
use Rattle.bpf_alike.specs.Worlds.{AllAlike, ButForDead}
use Rattle.bpf_alike.proofs.AlikeAhead.{leads_alike}
use Rattle.bpf_alike.proofs.AlikeJobs.{alike_at, alike_ended, all_back, end_alike}
use Rattle.bpf_alike.proofs.AlikeRich.{covered_alike_richly}
use Rattle.bpf_alike.proofs.AlikeRicher.{dead_and_rich}

-- ---- jobs that are alike
pub none_alike : (equal : AlikeIsAnEquivalence) (programs : List Loaded) (xs ys : List Task) → AllAlike programs xs ys → NoneRanOut ys → NoneRanOut xs
none_alike equal programs xs ys all none j task pc at ended =
    let b = alike_at equal programs xs ys j task all at in
    let same = end_alike equal programs task b.0 (OutOfBudget pc) b.2 ended in
    none j b.0 pc b.1 (ap (λ (t : Task). t.stage) same ∙ ended)

pub ended_alike : (equal : AlikeIsAnEquivalence) (programs : List Loaded) (xs ys : List Task) → AllAlike programs xs ys → HaveEnded ys → HaveEnded xs
ended_alike equal programs xs ys all ended =
    subst HaveEnded (sym (alike_ended equal programs ys xs (all_back equal programs xs ys all) ended)) ended

pub works_alike : (equal : AlikeIsAnEquivalence) (v : World) (jobs : List Task) (m : MachineState) → AllAlike v.programs v.jobs jobs
    → Shows m (with_jobs v jobs) → (HaveEnded m.jobs → ⊥) → HaveEnded v.jobs → ⊥
works_alike equal v jobs m all shows works ended =
    let same : jobs ≡ v.jobs = alike_ended equal v.programs v.jobs jobs all ended in
    works (subst HaveEnded shows.jobs (subst HaveEnded (sym same) ended))

module _ (kept : List MachineState) where
  -- where a turn leads from a kept machine to what this is so of
  leads_by : (K : World → Type 0) (i c : ℕ) (m new : MachineState) → slice_get kept i ≡ Some m → TurnsTo m c new → ((y : World) → Shows new y → K y)
      → LeadsBy (IsShownAt kept i) (λ h u. K u) c
  leads_by K i c m new at turns is_kept v (n, there, shows) =
      let same = one_machine kept i n m there at in
      (turns.0, turns.1, new, turns.2, turns.3 v (subst (λ (x : MachineState). Shows x v) same shows), turns.4, is_kept)

  -- an end
  pub end_here : (equal : AlikeIsAnEquivalence) (i : ℕ) → EndsInAlike kept zero i → (z : World) → IsShownAlikeAt kept i z
      → HaveEnded z.jobs × NoneRanOut z.jobs
  end_here equal i (m, at, ended, none) z (jobs, all, (other, there, shows)) =
      let same = one_machine kept i m other at there in
      let are : m.jobs ≡ jobs = ap (λ (x : MachineState). x.jobs) same ∙ sym shows.jobs in (
        ended_alike equal z.programs z.jobs jobs all (subst HaveEnded are ended),
        none_alike equal z.programs z.jobs jobs all (subst NoneRanOut are none),
      )

  module _ (equal : AlikeIsAnEquivalence) (steps : StepsAreAlike) (one : OneStateIsAlike) where
    -- so it does but for dead registers
    pub leads_alike_by : (K : World → Type 0) (i c : ℕ) (m new : MachineState) → slice_get kept i ≡ Some m → TurnsTo m c new
        → ((y : World) → Shows new y → K y) → LeadsBy (IsShownAlikeAt kept i) (λ h u. ButForDead K u) c
    leads_alike_by K i c m new at turns is_kept =
        leads_alike equal steps one (IsShownAt kept i) (λ h u. K u) c (leads_by K i c m new at turns is_kept)

    leads_alike_at : (i c k : ℕ) → LeadsToAlike kept i c k → LeadsBy (IsShownAlikeAt kept i) (λ h u. Richly (IsShownAlikeAt kept k) u) c
    leads_alike_at i c k (m, new, at, turns, is_kept) v shown =
        let r = leads_alike_by (IsShownAlikeRichlyAt kept k) i c m new at turns is_kept v shown in
        (r.0, r.1, r.2, r.3, r.4, r.5, λ y seen. dead_and_rich equal (IsShownAt kept k) y (r.6 y seen))

    -- ---- an end can be reached
    end_on_alike : (n i : ℕ) → EndsInAlike kept n i → EndOn (IsShownAlikeAt kept) n i
    end_on_alike zero i ends = end_here equal i ends
    end_on_alike (suc n) i (c, k, leads, rest) = (c, k, leads_alike_at i c k leads, end_on_alike n k rest)

    -- ---- none can
    module _ (ends : List Bool) (stuck : AreStuckAlike kept ends) where
      abbrev IsStuck : World → Type 0
      IsStuck w = (i : ℕ) × (slice_get ends i ≡ Some false) × IsShownAlikeAt kept i w

      stuck_leads : LeadsOn IsStuck (Richly IsStuck)
      stuck_leads v c (i, off, shown) =
          let next = (stuck i off).turns c in
          let r = leads_alike_at i c next.0 next.1 v shown in
          (r.0, r.1, r.2, r.3, r.4, r.5, λ y seen. (let q = r.6 y seen in (q.0, q.1, (next.0, next.2, q.2))))

      stuck_works : (v : World) → IsStuck v → HaveEnded v.jobs → ⊥
      stuck_works v (i, off, (jobs, all, (m, at, shows))) ended = works_alike equal v jobs m all shows ((stuck i off).works m at) ended

      none_stuck : (v : World) → IsStuck v → NoneRanOut v.jobs
      none_stuck v (i, off, (jobs, all, (m, at, shows))) =
          none_alike equal v.programs v.jobs jobs all (subst NoneRanOut (sym shows.jobs) ((stuck i off).none m at))

pub alike_can_end : AlikeIsAnEquivalence → StepsAreAlike → OneStateIsAlike → AlikeCanEnd
alike_can_end equal steps one kept n i z ends covered =
    can_end (IsShownAlikeAt kept) n i z (end_on_alike kept equal steps one n i ends) covered

pub alike_all_can_end : AlikeIsAnEquivalence → StepsAreAlike → OneStateIsAlike → WritesAreDetermined → OneInstructionBegins → CallsHaveOneReply → AlikeAllCanEnd
alike_all_can_end equal steps one law begins replies kept w z schedule closed ends fresh shown runs none =
    let covered = covered_alike_richly equal steps one kept closed law begins replies w z schedule fresh shown runs none in
    let there = covered.2 in
    let alike = there.2 in
    let at = alike.2 in
    let way = ends at.0 at.1 at.2 in
    alike_can_end equal steps one kept way.0 at.0 z way.1 (covered.0, covered.1, (there.0, there.1, (alike.0, alike.1, (at.1, at.2, at.3)), there.3, there.4))

pub alike_stuck_are_hung : AlikeIsAnEquivalence → StepsAreAlike → OneStateIsAlike → WritesAreDetermined → OneInstructionBegins → CallsHaveOneReply
    → AlikeStuckAreHung
alike_stuck_are_hung equal steps one law begins replies kept ends w z schedule i stuck fresh runs off (jobs, rich, shown) =
    are_hung (IsStuck kept equal steps one ends stuck) (stuck_leads kept equal steps one ends stuck)
    (stuck_works kept equal steps one ends stuck) (none_stuck kept equal steps one ends stuck)
    law begins replies w z schedule fresh runs (jobs, rich, (i, off, shown))
