-- A list that is closed but for dead registers covers all that schedules lead to.
use Rattle.std.proofs.Common.{ℕ, List}
use Rattle.bpf_shared.specs.Laws.{CallsHaveOneReply}
use Rattle.bpf_loader.specs.Laws.{OneInstructionBegins}
use Rattle.bpf_mem.specs.Laws.{WritesAreDetermined}
use Rattle.bpf_live.specs.Laws.{AlikeIsAnEquivalence, OneStateIsAlike, StepsAreAlike}
use Rattle.bpf_machine.specs.Cover.{IsShown}
use Rattle.bpf_machine.specs.Laws.{IsFresh}
use Rattle.bpf_machine.specs.Machine.{MachineState}
use Rattle.bpf_machine.specs.Schedule.{World, RunsSchedule}
use Rattle.bpf_machine.proofs.CoverLaws.{LeadsBy, LeadsOn, comes, covered_by, ended_has}
use Rattle.bpf_alike.specs.Covers.{AlikeSetsCover, AlikeSetsHaveTurns, IsClosedAlike, IsCoveredAlike, IsShownAlike}
use Rattle.bpf_alike.proofs.AlikeAhead.{dead_ended, dead_once, leads_alike}
use Rattle.bpf_alike.proofs.AlikeJobs.{all_same}

module _ (equal : AlikeIsAnEquivalence) (steps : StepsAreAlike) (one : OneStateIsAlike) (kept : List MachineState) (closed : IsClosedAlike kept) where
  closed_leads : (c : ℕ) → LeadsBy (IsShown kept) (λ h u. IsShownAlike kept u) c
  closed_leads c v (i, m, at, shows) = let r = closed i m c at in (r.1.0, r.1.1, r.0, r.1.2, r.1.3 v shows, r.1.4, r.2)

  pub alike_leads : LeadsOn (IsShownAlike kept) (IsShownAlike kept)
  alike_leads v c shown =
      let r = leads_alike equal steps one (IsShown kept) (λ h u. IsShownAlike kept u) c (closed_leads c) v shown in
      (r.0, r.1, r.2, r.3, r.4, r.5, λ y seen. dead_once equal (IsShown kept) y (r.6 y seen))

  module _ (law : WritesAreDetermined) (begins : OneInstructionBegins) (replies : CallsHaveOneReply) where
    pub covered_alike : (w z : World) (schedule : List ℕ) → IsFresh w → IsShown kept w → RunsSchedule w schedule z → IsCoveredAlike kept z
    covered_alike w z schedule fresh shown runs =
        (covered_by law begins replies (IsShownAlike kept) alike_leads w z schedule fresh (w.jobs, all_same equal w.programs w.jobs, shown) runs).0

pub alike_sets_cover : AlikeIsAnEquivalence → StepsAreAlike → OneStateIsAlike → WritesAreDetermined → OneInstructionBegins → CallsHaveOneReply → AlikeSetsCover
alike_sets_cover equal steps one law begins replies kept w z schedule closed fresh shown runs =
    let covered = covered_alike equal steps one kept closed law begins replies w z schedule fresh shown runs in
    (covered, λ ended. dead_ended equal (IsShown kept) z (ended_has (IsShownAlike kept) z covered ended) ended)

pub alike_sets_have_turns : AlikeIsAnEquivalence → StepsAreAlike → OneStateIsAlike → WritesAreDetermined → OneInstructionBegins → CallsHaveOneReply
    → AlikeSetsHaveTurns
alike_sets_have_turns equal steps one law begins replies kept w z schedule c closed fresh shown runs =
    let covered = covered_alike equal steps one kept closed law begins replies w z schedule fresh shown runs in
    let r = comes (IsShownAlike kept) (IsShownAlike kept) (λ v there. there) (alike_leads equal steps one kept closed) z c covered in
    (r.0, r.1, r.2)
