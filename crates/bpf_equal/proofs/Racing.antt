-- Where CPUs change places, races go with them.
use Rattle.std.proofs.Common.{◌≡◌, ◌∙◌, ℕ, zero, suc, List, [], ◌∷◌, ◌++◌, map, inl, inr, refl, sym, ap, subst, arith}
use Rattle.std.specs.Prelude.{slice_get}
use Rattle.std.proofs.lemmas.Bool.{cases_lt}
use mathlib.Core.Path.{fun_ext}
use Rattle.bpf_shared.specs.declared.events.Event.{Event}
use Rattle.bpf_shared.specs.History.{PlainlyLegal, entry}
use Rattle.bpf_shared.specs.Laws.{CallsHaveOneReply}
use Rattle.bpf_shared.specs.Store.{Plain}
use Rattle.bpf_shared.proofs.Puts.{equal_or_not}
use Rattle.bpf_loader.specs.Loaded.{Loaded}
use Rattle.bpf_loader.specs.Laws.{OneInstructionBegins}
use Rattle.bpf_mem.specs.Laws.{WritesAreDetermined}
use Rattle.bpf_cpu.specs.Step.{Step}
use Rattle.bpf_live.specs.Laws.{AlikeIsAnEquivalence, OneStateIsAlike, StepsAreAlike}
use Rattle.bpf_machine.specs.declared.machine.Stand.{Stand}
use Rattle.bpf_machine.specs.Headways.{with_jobs}
use Rattle.bpf_machine.specs.Machine.{MachineState}
use Rattle.bpf_machine.specs.Race.{HasNext, IsRace}
use Rattle.bpf_machine.specs.Schedule.{RunsSchedule, World}
use Rattle.bpf_machine.proofs.PatientRaceLaws.{race_rich}
use Rattle.bpf_alike.proofs.AlikeRaces.{covered_race}
use Rattle.bpf_equal.specs.Covers.{IsCoveredPermuted}
use Rattle.bpf_equal.specs.Peers.{AreOneGroup, Peer}
use Rattle.bpf_equal.specs.Permutations.{Permutation, exchanged}
use Rattle.bpf_equal.specs.Races.{AreAllEqual, IsRaceIn, IsRaceKeptElsewhere, PermutedPatientRacesAreKept, PermutedRacesAreKept, RacesAreExchanged}
use Rattle.bpf_equal.specs.Races.{stand_after, stand_exchanged}
use Rattle.bpf_equal.specs.Stores.{store_permuted}
use Rattle.bpf_equal.specs.Worlds.{AreNeighbours, ArePermutedIn, IsPermuted}
use Rattle.bpf_equal.proofs.Back.{composed, inverse, none_moves, permuted_back}
use Rattle.bpf_equal.proofs.Covering.{covered_permuted, covered_permuted_richly}
use Rattle.bpf_equal.proofs.Exchanging.{either_way, exchanged_itself}
use Rattle.bpf_equal.proofs.Partners.{hand_there, partner_at}
use Rattle.bpf_equal.proofs.Turns.{history_there, same_pc, schedules_are_permuted, step_there}

-- where a CPU is, in the place to which it goes
abbrev pub stand_permuted : Permutation → Stand → Stand
stand_permuted cpus here = record here { cpu = cpus.to here.cpu }

-- ---- one permutation
module _ (cpus jobs : Permutation) (w v : World) (p : IsPermuted cpus jobs w v) where
  next_permuted : (here : Stand) (event : Event) → HasNext w here event → HasNext v (stand_permuted cpus here) event
  next_permuted here event next =
      let h = w.store.shape in
      let ps = w.programs in
      let b = partner_at h ps cpus jobs w.jobs v.jobs p.each next.job next.task next.at.listed in
      let k = hand_there h ps cpus next.task b.0 b.2 next.state next.left next.at.at in
      let s = step_there h ps cpus next.task b.0 h next.program next.state k.0 next.after next.events next.answer refl next.loaded k.2 next.step in
      let legal = history_there h ps cpus next.task b.0 here.cpu w.store next.store next.events p.stays next.legal in
      let back : store_permuted cpus w.store ≡ v.store = sym p.store in
      record {
        job = jobs.to next.job;
        task = b.0;
        state = k.0;
        left = next.left;
        at = record { listed = b.1; of = b.2.cpu ∙ ap cpus.to next.at.of; at = k.1 };
        runs = b.2.program ∙ next.runs;
        stands = same_pc h ps cpus next.task b.0 next.state k.0 k.2 ∙ next.stands;
        may = next.may;
        program = next.program;
        loaded = ap (λ (ls : List Loaded). slice_get ls b.0.program) p.programs ∙ ap (slice_get ps) b.2.program ∙ next.loaded;
        events = next.events;
        answer = next.answer;
        after = s.0;
        step = subst (λ (t : Plain). Step t.shape next.program k.0 next.events next.answer s.0) back s.1;
        store = store_permuted cpus next.store;
        legal = subst (λ (t : Plain). PlainlyLegal t (map (entry (cpus.to here.cpu)) next.events) (store_permuted cpus next.store)) back legal;
        place = next.place;
        among = next.among;
      }

  pub race_permuted : (one other : Stand) (b : ℕ) → IsRace w one other b → IsRace v (stand_permuted cpus one) (stand_permuted cpus other) b
  race_permuted one other b race = record {
    apart = λ e. race.apart (sym (cpus.back one.cpu) ∙ ap cpus.from e ∙ cpus.back other.cpu);
    first = race.first;
    second = race.second;
    next = next_permuted one race.first race.next;
    next_too = next_permuted other race.second race.next_too;
    writes = race.writes;
    writes_too = race.writes_too;
    atomic = race.atomic;
    atomic_too = race.atomic_too;
    touches = race.touches;
    touches_too = race.touches_too;
    one_writes = race.one_writes;
    not_both = race.not_both;
  }

-- ---- exchanges
stand_moved : (cpus : Permutation) (c d : ℕ) → ((x : ℕ) → cpus.to x ≡ exchanged c d x) → (here : Stand) → stand_permuted cpus here ≡ stand_exchanged c d here
stand_moved cpus c d is here = ap (λ (n : ℕ). record here { cpu = n }) (is here.cpu)

module _ (peers : List Peer) where
  all_joined : (xs ys : List (ℕ × ℕ)) → AreAllEqual peers xs → AreAllEqual peers ys → AreAllEqual peers (xs ++ ys)
  all_joined [] ys these those = those
  all_joined ((c, d) ∷ xs) ys (first, these) those = (first, all_joined xs ys these those)

  -- exchanges lead from the one race to the other
  record Leads (w v : World) (one other : Stand) (b : ℕ) : Type 0 where
    pairs : List (ℕ × ℕ)
    equal : AreAllEqual peers pairs
    race : IsRaceIn v w (stand_after pairs one) (stand_after pairs other) b

  module _ (w v : World) (one other : Stand) (b : ℕ) (race : IsRace w one other b) (j k : ℕ) (p q : Peer) (group : AreOneGroup peers j k p q) where
    moved_by : (c d : ℕ) (cpus jobs : Permutation) → ((x : ℕ) → cpus.to x ≡ exchanged c d x) → IsPermuted cpus jobs w v
        → IsRaceIn v w (stand_exchanged c d one) (stand_exchanged c d other) b
    moved_by c d cpus jobs is permuted = record {
      cpus = cpus;
      store = permuted.store;
      race = subst (λ (x : Stand). IsRace v x (stand_exchanged c d other) b) (stand_moved cpus c d is one)
          (subst (λ (x : Stand). IsRace v (stand_permuted cpus one) x b) (stand_moved cpus c d is other)
          (race_permuted cpus jobs w v permuted one other b race));
    }

    one_moves : (cpus jobs : Permutation) → ((x : ℕ) → cpus.to x ≡ exchanged p.cpu q.cpu x) → IsPermuted cpus jobs w v → Leads w v one other b
    one_moves cpus jobs is permuted = elim (cases_lt j k) [
      | inl less ↦ record {
        pairs = (p.cpu, q.cpu) ∷ [];
        equal = ((j, k, p, q, less, group, refl, refl), tt);
        race = moved_by p.cpu q.cpu cpus jobs is permuted;
      }
      | inr past ↦ elim (equal_or_not j k) [
        | inl same ↦
            let two : slice_get peers j ≡ slice_get peers k = ap (slice_get peers) same in
            let one_peer : p ≡ q = cc in
            let stays : (x : ℕ) → cpus.to x ≡ x = λ x. is x ∙ (ap (λ (r : Peer). exchanged p.cpu r.cpu x) (sym one_peer) ∙ exchanged_itself p.cpu x) in
            let here : (s : Stand) → stand_permuted cpus s ≡ s = λ s. ap (λ (n : ℕ). record s { cpu = n }) (stays s.cpu) in
            record {
              pairs = [];
              equal = tt;
              race = record {
                cpus = cpus;
                store = permuted.store;
                race = subst (λ (x : Stand). IsRace v x other b) (here one)
                    (subst (λ (x : Stand). IsRace v (stand_permuted cpus one) x b) (here other)
                    (race_permuted cpus jobs w v permuted one other b race));
              };
            }
        | inr apart ↦ record {
          pairs = (q.cpu, p.cpu) ∷ [];
          equal = (
            (k, j, q, p, omega (arith, past, apart), record { first = group.second; second = group.first; group = sym group.group }, refl, refl),
            tt,
          );
          race = moved_by q.cpu p.cpu cpus jobs (λ x. is x ∙ either_way p.cpu q.cpu x) permuted;
        }
      ]
    ]

  one_step : (w v : World) → AreNeighbours peers w v → (one other : Stand) (b : ℕ) → IsRace w one other b → Leads w v one other b
  one_step w v (cpus, jobs, (j, k, p, q, group, on_cpus, on_jobs), inl permuted) one other b race =
      one_moves w v one other b race j k p q group cpus jobs (λ x. (on_cpus x).0) permuted
  one_step w v (cpus, jobs, (j, k, p, q, group, on_cpus, on_jobs), inr permuted) one other b race =
      one_moves w v one other b race j k p q group (inverse cpus) (inverse jobs) (λ x. (on_cpus x).1) (permuted_back cpus jobs v w permuted)

  stand_on : (xs ys : List (ℕ × ℕ)) (here : Stand) → stand_after ys (stand_after xs here) ≡ stand_after (xs ++ ys) here
  stand_on [] ys here = refl
  stand_on ((c, d) ∷ xs) ys here = stand_on xs ys (stand_exchanged c d here)

  race_along : (n : ℕ) (w v : World) → ArePermutedIn peers n w v → (one other : Stand) (b : ℕ) → IsRace w one other b → Leads w v one other b
  race_along zero w v same one other b race = record {
    pairs = [];
    equal = tt;
    race = record {
      cpus = none_moves;
      store = ap (λ (x : World). x.store) same;
      race = subst (λ (x : World). IsRace x one other b) (sym same) race;
    };
  }
  race_along (suc n) w v (mid, step, rest) one other b race =
      let first = one_step w mid step one other b race in
      let far = race_along n mid v rest (stand_after first.pairs one) (stand_after first.pairs other) b first.race.race in
      let all = first.pairs ++ far.pairs in
      record {
        pairs = all;
        equal = all_joined first.pairs far.pairs first.equal far.equal;
        race = record {
          cpus = composed first.race.cpus far.race.cpus;
          store = far.race.store ∙ ap (store_permuted far.race.cpus) first.race.store;
          race = subst (λ (x : Stand). IsRace v x (stand_after all other) b) (stand_on first.pairs far.pairs one)
              (subst (λ (x : Stand). IsRace v (stand_after far.pairs (stand_after first.pairs one)) x b) (stand_on first.pairs far.pairs other)
              far.race.race);
        };
      }

-- a race in a world that is covered but for places is kept, but for places
module _ (equal : AlikeIsAnEquivalence) (steps : StepsAreAlike) (begins : OneInstructionBegins) (peers : List Peer) (kept : List MachineState) where
  race_elsewhere : (z : World) (one other : Stand) (b : ℕ) → IsCoveredPermuted peers kept z → IsRace z one other b
      → IsRaceKeptElsewhere peers kept z one other b
  race_elsewhere z one other b (u, (n, chain), covered) race =
      let far = race_along peers n z u chain one other b race in
      let there = far.race in
      let held = covered_race equal steps begins kept u (stand_after far.pairs one) (stand_after far.pairs other) b covered there.race in
      record {
        pairs = far.pairs;
        equal = far.equal;
        world = held.0;
        shown = held.1;
        race = record { cpus = there.cpus; store = held.2 ∙ there.store; race = held.3 };
      }

pub permuted_races_are_kept : AlikeIsAnEquivalence → StepsAreAlike → OneStateIsAlike → WritesAreDetermined → OneInstructionBegins
    → CallsHaveOneReply → PermutedRacesAreKept
permuted_races_are_kept equal steps once law begins replies peers kept first z schedule closed fresh shown runs one other b race =
    let covered = covered_permuted equal steps once law begins replies peers kept closed first z schedule fresh shown runs in
    race_elsewhere equal steps begins peers kept z one other b covered race

pub permuted_patient_races_are_kept : AlikeIsAnEquivalence → StepsAreAlike → OneStateIsAlike → WritesAreDetermined → OneInstructionBegins
    → CallsHaveOneReply → PermutedPatientRacesAreKept
permuted_patient_races_are_kept equal steps once law begins replies peers kept first z schedule closed fresh shown runs none one other b race =
    let covered = covered_permuted_richly equal steps once law begins replies peers kept closed first z schedule fresh shown runs none in
    let far = race_elsewhere equal steps begins peers kept (with_jobs z covered.0) one other b covered.2
    (race_rich z covered.0 covered.1 one other b race) in
    let there = far.race in
    record {
      pairs = far.pairs;
      equal = far.equal;
      world = far.world;
      shown = far.shown;
      race = record { cpus = there.cpus; store = there.store; race = there.race };
    }

pub races_are_exchanged : RacesAreExchanged
races_are_exchanged peers first z schedule c d stay equal runs one other b race =
    let (cpus, jobs, on_cpus, permuted) = stay c d equal in
    let r = schedules_are_permuted cpus jobs first first z schedule permuted runs in
    let is : cpus.to ≡ exchanged c d = fun_ext (λ x. (on_cpus x).0) in (
      r.0,
      subst (λ (f : ℕ → ℕ). RunsSchedule first (map f schedule) r.0) is r.1,
      record {
        cpus = cpus;
        store = r.2.store;
        race = subst (λ (x : Stand). IsRace r.0 x (stand_exchanged c d other) b) (stand_moved cpus c d (λ x. (on_cpus x).0) one)
            (subst (λ (x : Stand). IsRace r.0 (stand_permuted cpus one) x b) (stand_moved cpus c d (λ x. (on_cpus x).0) other)
            (race_permuted cpus jobs z r.0 r.2 one other b race));
      },
    )
