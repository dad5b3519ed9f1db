-- A race in a world is one in each that is alike, so lists that are closed but for dead registers keep
-- them.
use Rattle.std.proofs.Common.{◌∙◌, ℕ, List, ap}
use Rattle.std.specs.Prelude.{slice_get}
use Rattle.bpf_shared.specs.declared.events.Event.{Event}
use Rattle.bpf_shared.specs.Laws.{CallsHaveOneReply}
use Rattle.bpf_loader.specs.Laws.{OneInstructionBegins}
use Rattle.bpf_mem.specs.Laws.{WritesAreDetermined}
use Rattle.bpf_cpu.specs.Task.{Task}
use Rattle.bpf_live.specs.Laws.{AlikeIsAnEquivalence, OneStateIsAlike, StepsAreAlike}
use Rattle.bpf_machine.specs.declared.machine.Stand.{Stand}
use Rattle.bpf_machine.specs.Headways.{with_jobs}
use Rattle.bpf_machine.specs.Machine.{MachineState}
use Rattle.bpf_machine.specs.Race.{HasNext, IsRace, IsRaceKept}
use Rattle.bpf_machine.specs.Schedule.{World}
use Rattle.bpf_machine.proofs.CoverLaws.{IsCoveredBy}
use Rattle.bpf_machine.proofs.PatientRaceLaws.{race_rich}
use Rattle.bpf_machine.proofs.RaceLaws.{race_is_kept}
use Rattle.bpf_alike.specs.Covers.{AlikeRacesAreKept, IsShownAlike}
use Rattle.bpf_alike.specs.Patient.{AlikePatientRacesAreKept}
use Rattle.bpf_alike.specs.Worlds.{AllAlike}
use Rattle.bpf_alike.proofs.AlikeCovers.{covered_alike}
use Rattle.bpf_alike.proofs.AlikeJobs.{alike_at, alike_cpu, alike_hand}
use Rattle.bpf_alike.proofs.AlikeRich.{covered_alike_richly}
use Rattle.bpf_alike.proofs.Like.{like_pc, like_steps}

module _ (equal : AlikeIsAnEquivalence) (steps : StepsAreAlike) (w : World) (jobs : List Task) (all : AllAlike w.programs w.jobs jobs) where
  next_alike : (here : Stand) (event : Event) → HasNext w here event → HasNext (with_jobs w jobs) here event
  next_alike here event next =
      let b = alike_at equal w.programs w.jobs jobs next.job next.task all next.at.listed in
      let h = alike_hand equal w.programs next.task b.0 next.state next.left b.2 next.at.at in
      let alike = h.2 next.program next.loaded in
      let s = like_steps next.program steps w.store.shape next.state h.0 next.after next.events next.answer alike next.step in
      record {
        job = next.job;
        task = b.0;
        state = h.0;
        left = next.left;
        at = record { listed = b.1; of = alike_cpu equal w.programs next.task b.0 b.2 ∙ next.at.of; at = ap (λ (t : Task). t.stage) h.1 };
        runs = ap (λ (t : Task). t.program) h.1 ∙ next.runs;
        stands = like_pc next.program next.state h.0 alike ∙ next.stands;
        may = next.may;
        program = next.program;
        loaded = ap (λ (t : Task). slice_get w.programs t.program) h.1 ∙ next.loaded;
        events = next.events;
        answer = next.answer;
        after = s.0;
        step = s.1;
        store = next.store;
        legal = next.legal;
        place = next.place;
        among = next.among;
      }

  race_alike : (one other : Stand) (b : ℕ) → IsRace w one other b → IsRace (with_jobs w jobs) one other b
  race_alike one other b race = record {
    apart = race.apart;
    first = race.first;
    second = race.second;
    next = next_alike one race.first race.next;
    next_too = next_alike other race.second race.next_too;
    writes = race.writes;
    writes_too = race.writes_too;
    atomic = race.atomic;
    atomic_too = race.atomic_too;
    touches = race.touches;
    touches_too = race.touches_too;
    one_writes = race.one_writes;
    not_both = race.not_both;
  }

-- a race in a world that is covered is one in what a kept machine shows
module _ (equal : AlikeIsAnEquivalence) (steps : StepsAreAlike) (begins : OneInstructionBegins) (kept : List MachineState) where
  pub covered_race : (z : World) (one other : Stand) (b : ℕ) → IsCoveredBy (IsShownAlike kept) z → IsRace z one other b → IsRaceKept kept z one other b
  covered_race z one other b (v, headways, (jobs, all, shown), same, ahead) race =
      let held = race_is_kept begins z v headways same ahead one other b race in
      (with_jobs v jobs, shown, held.0, race_alike equal steps v jobs all one other b held.1)

pub alike_races_are_kept : AlikeIsAnEquivalence → StepsAreAlike → OneStateIsAlike → WritesAreDetermined → OneInstructionBegins → CallsHaveOneReply
    → AlikeRacesAreKept
alike_races_are_kept equal steps once law begins replies kept w z schedule closed fresh shown runs one other b race =
    covered_race equal steps begins kept z one other b (covered_alike equal steps once kept closed law begins replies w z schedule fresh shown runs) race

pub alike_patient_races_are_kept : AlikeIsAnEquivalence → StepsAreAlike → OneStateIsAlike → WritesAreDetermined → OneInstructionBegins → CallsHaveOneReply
    → AlikePatientRacesAreKept
alike_patient_races_are_kept equal steps once law begins replies kept w z schedule closed fresh shown runs none one other b race =
    let covered = covered_alike_richly equal steps once kept closed law begins replies w z schedule fresh shown runs none in
    covered_race equal steps begins kept (with_jobs z covered.0) one other b covered.2 (race_rich z covered.0 covered.1 one other b race)
