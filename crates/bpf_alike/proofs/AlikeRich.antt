-- A list that is closed but for dead registers and budgets covers all that schedules lead to while no
-- job runs out of budget.
use Rattle.std.proofs.Common.{ℕ, List}
use Rattle.bpf_shared.specs.Laws.{CallsHaveOneReply}
use Rattle.bpf_loader.specs.Laws.{OneInstructionBegins}
use Rattle.bpf_mem.specs.Laws.{WritesAreDetermined}
use Rattle.bpf_live.specs.Laws.{AlikeIsAnEquivalence, OneStateIsAlike, StepsAreAlike}
use Rattle.bpf_machine.specs.Cover.{IsShown}
use Rattle.bpf_machine.specs.Headways.{with_jobs}
use Rattle.bpf_machine.specs.Laws.{IsFresh}
use Rattle.bpf_machine.specs.Machine.{MachineState}
use Rattle.bpf_machine.specs.Patient.{NoneRanOut}
use Rattle.bpf_machine.specs.Schedule.{World, RunsSchedule}
use Rattle.bpf_machine.proofs.CoverLaws.{LeadsBy, LeadsOn, comes}
use Rattle.bpf_machine.proofs.PatientLaws.{covered_richly, ended_richly}
use Rattle.bpf_machine.proofs.PatientLaws.{all_same as all_rich}
use Rattle.bpf_alike.specs.Covers.{IsShownAlike}
use Rattle.bpf_alike.specs.Patient.{AlikePatientSetsCover, AlikePatientSetsHaveTurns, IsClosedAlikeRichly, IsCoveredAlikeRichly, IsShownAlikeRichly}
use Rattle.bpf_alike.proofs.AlikeAhead.{dead_ended, leads_alike}
use Rattle.bpf_alike.proofs.AlikeJobs.{all_same}
use Rattle.bpf_alike.proofs.AlikeRicher.{dead_and_rich}

module _ (equal : AlikeIsAnEquivalence) (steps : StepsAreAlike) (one : OneStateIsAlike) (kept : List MachineState) (closed : IsClosedAlikeRichly kept) where
  closed_leads : (c : ℕ) → LeadsBy (IsShown kept) (λ h u. IsShownAlikeRichly kept u) c
  closed_leads c v (i, m, at, shows) = let r = closed i m c at in (r.1.0, r.1.1, r.0, r.1.2, r.1.3 v shows, r.1.4, r.2)

  pub rich_leads : LeadsOn (IsShownAlike kept) (IsShownAlikeRichly kept)
  rich_leads v c shown =
      let r = leads_alike equal steps one (IsShown kept) (λ h u. IsShownAlikeRichly kept u) c (closed_leads c) v shown in
      (r.0, r.1, r.2, r.3, r.4, r.5, λ y seen. dead_and_rich equal (IsShown kept) y (r.6 y seen))

  module _ (law : WritesAreDetermined) (begins : OneInstructionBegins) (replies : CallsHaveOneReply) where
    pub covered_alike_richly : (w z : World) (schedule : List ℕ) → IsFresh w → IsShown kept w → RunsSchedule w schedule z → NoneRanOut z.jobs
        → IsCoveredAlikeRichly kept z
    covered_alike_richly w z schedule fresh shown runs none =
        covered_richly law begins replies (IsShownAlike kept) rich_leads w z schedule fresh (w.jobs, all_same equal w.programs w.jobs, shown) runs none

pub alike_patient_sets_cover : AlikeIsAnEquivalence → StepsAreAlike → OneStateIsAlike → WritesAreDetermined → OneInstructionBegins → CallsHaveOneReply
    → AlikePatientSetsCover
alike_patient_sets_cover equal steps one law begins replies kept w z schedule closed fresh shown runs none =
    let covered = covered_alike_richly equal steps one kept closed law begins replies w z schedule fresh shown runs none in
    (covered, λ ended. dead_ended equal (IsShown kept) z (ended_richly (IsShownAlike kept) z covered ended) ended)

pub alike_patient_sets_have_turns : AlikeIsAnEquivalence → StepsAreAlike → OneStateIsAlike → WritesAreDetermined → OneInstructionBegins → CallsHaveOneReply
    → AlikePatientSetsHaveTurns
alike_patient_sets_have_turns equal steps one law begins replies kept w z schedule closed fresh shown runs none =
    let covered = covered_alike_richly equal steps one kept closed law begins replies w z schedule fresh shown runs none in (
      covered.0,
      covered.1,
      λ c.
          let r = comes (IsShownAlike kept) (IsShownAlikeRichly kept) (λ v there. (v.jobs, all_rich v.jobs, there))
          (rich_leads equal steps one kept closed) (with_jobs z covered.0) c covered.2 in
          (r.0, r.1, r.2),
    )
