-- Races that schedules lead to while no job runs out of budget.
use Rattle.std.proofs.Common.{◌∙◌, ◌+◌, ℕ, List, [], ◌∷◌, sym, ap, subst, arith}
use Rattle.std.specs.Prelude.{slice_get}
use Rattle.bpf_shared.specs.Laws.{CallsHaveOneReply}
use Rattle.bpf_shared.specs.declared.events.Event.{Event}
use Rattle.bpf_loader.specs.Laws.{OneInstructionBegins}
use Rattle.bpf_mem.specs.Laws.{WritesAreDetermined}
use Rattle.bpf_cpu.specs.Task.{Task}
use Rattle.bpf_machine.specs.declared.machine.Stand.{Stand}
use Rattle.bpf_machine.specs.Schedule.{World, RunsSchedule}
use Rattle.bpf_machine.specs.Headways.{with_jobs}
use Rattle.bpf_machine.specs.Race.{HasNext, IsRace}
use Rattle.bpf_machine.specs.Patient.{AsRich, PatientRacesAreKept}
use Rattle.bpf_machine.proofs.DeterminedTurns.{IsWorld, one_turn}
use Rattle.bpf_machine.proofs.RaceLaws.{race_is_kept}
use Rattle.bpf_machine.proofs.PatientLaws.{rich_at, richer_hand, richer_cpu, patient_covered}

-- with more steps left a CPU's next step is the same
module _ (w : World) (jobs : List Task) (rich : AsRich w.jobs jobs) where
  next_rich : (here : Stand) (event : Event) → HasNext w here event → HasNext (with_jobs w jobs) here event
  next_rich here event next =
      let b = rich_at w.jobs jobs next.job next.task rich next.at.listed in
      let h = richer_hand next.task b.0 next.state next.left b.2 next.at.at in
      let may = next.may in
      record {
        job = next.job;
        task = b.0;
        state = next.state;
        left = next.left + h.0;
        at = record { listed = b.1; of = richer_cpu next.task b.0 b.2 ∙ next.at.of; at = ap (λ (t : Task). t.stage) h.1 };
        runs = ap (λ (t : Task). t.program) h.1 ∙ next.runs;
        stands = next.stands;
        may = omega arith;
        program = next.program;
        loaded = ap (slice_get w.programs) (ap (λ (t : Task). t.program) h.1) ∙ next.loaded;
        events = next.events;
        answer = next.answer;
        after = next.after;
        step = next.step;
        store = next.store;
        legal = next.legal;
        place = next.place;
        among = next.among;
      }

  pub race_rich : (one other : Stand) (b : ℕ) → IsRace w one other b → IsRace (with_jobs w jobs) one other b
  race_rich one other b race = record {
    apart = race.apart;
    first = race.first;
    second = race.second;
    next = next_rich one race.first race.next;
    next_too = next_rich other race.second race.next_too;
    writes = race.writes;
    writes_too = race.writes_too;
    atomic = race.atomic;
    atomic_too = race.atomic_too;
    touches = race.touches;
    touches_too = race.touches_too;
    one_writes = race.one_writes;
    not_both = race.not_both;
  }

module _ (law : WritesAreDetermined) (begins : OneInstructionBegins) (replies : CallsHaveOneReply) where
  pub world_after : (cs : List ℕ) (w z : World) → IsWorld w → RunsSchedule w cs z → IsWorld z
  world_after [] w z world runs = subst IsWorld (sym runs) world
  world_after (c ∷ cs) w z world runs = world_after cs runs.1 z (one_turn law begins replies w c runs.0 runs.0 runs.1 runs.1 world runs.2 runs.2).world runs.3

  pub patient_races_are_kept : PatientRacesAreKept
  patient_races_are_kept kept w z schedule closed fresh shown runs none one other b race =
      let r = patient_covered law begins replies kept closed w z schedule fresh shown runs none in
      let jobs = r.0 in
      let covered = r.2 in
      let held = race_is_kept begins (with_jobs z jobs) covered.0 covered.1 covered.3 covered.4 one other b (race_rich z jobs r.1 one other b race) in
      (covered.0, covered.2, held.0, held.1)
