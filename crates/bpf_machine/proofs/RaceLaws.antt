-- Races that schedules lead to are races in what a closed list of machines shows.
use Rattle.std.proofs.Common.{◌≡◌, ◌∙◌, ◌<◌, ◌⊎◌, ℕ, zero, suc, true, false, List, [], ◌∷◌, Some, None, inl, inr, refl, sym, ap, subst, arith}
use Rattle.std.specs.Prelude.{map, slice_get}
use Rattle.bpf_shared.specs.Laws.{CallsHaveOneReply}
use Rattle.bpf_shared.specs.declared.events.Event.{Event}
use Rattle.bpf_shared.specs.declared.events.Event.TheVariants.{Begin, End, Lookup, Update, Delete, Keys, Load, Store, Atomic}
use Rattle.bpf_shared.specs.Shape.{Shape}
use Rattle.bpf_insn.specs.declared.instruction.Insn.{Insn}
use Rattle.bpf_shared.specs.Store.{Plain, as_made}
use Rattle.bpf_shared.specs.Events.{Allowed}
use Rattle.bpf_shared.specs.History.{PlainlyLegal, entry}
use Rattle.bpf_loader.specs.Loaded.{Loaded}
use Rattle.bpf_loader.specs.Laws.{OneInstructionBegins}
use Rattle.bpf_mem.specs.Laws.{WritesAreDetermined}
use Rattle.bpf_cpu.specs.declared.cpu.Cpu.{Cpu}
use Rattle.bpf_cpu.specs.declared.outcome.Progress.{Progress}
use Rattle.bpf_cpu.specs.declared.outcome.Progress.TheVariants.{On, Done}
use Rattle.bpf_cpu.specs.Step.{Executes, Step}
use Rattle.bpf_cpu.specs.Task.{Task, InHand}
use Rattle.bpf_machine.specs.declared.machine.Stand.{Stand}
use Rattle.bpf_machine.specs.declared.machine.ahead.Headway.{Headway}
use Rattle.bpf_machine.specs.Schedule.{World, Advances, outcome_after}
use Rattle.bpf_machine.specs.Headways.{TakesQuietTurns, turns_in, Precedes, with_jobs, IsAheadOf}
use Rattle.bpf_machine.specs.Cover.{IsAhead}
use Rattle.bpf_machine.specs.Race.{HasNext, IsRace, RacesAreKept}
use Rattle.bpf_machine.proofs.NoStore.{no_store, none_anywhere}
use Rattle.bpf_machine.proofs.HeadwayLaws.{before, not_ahead}
use Rattle.bpf_machine.proofs.CoverLaws.{covered_from}

-- ---- a store without CPUs allows nothing
abbrev no_cpus : Plain
no_cpus = as_made no_store

not_allowed : (c : ℕ) (e : Event) (t : Plain) → Allowed no_cpus c e t → ⊥
not_allowed c Begin t a = let less = a.0 in absurd (omega arith)
not_allowed c End t a = let no : false ≡ true = a.0 in cc
not_allowed c (Lookup m key answer) t a = let no : false ≡ true = a.0 in cc
not_allowed c (Update m key bytes flags answer) t a = let no : false ≡ true = a.0 in cc
not_allowed c (Delete m key answer) t a = let no : false ≡ true = a.0 in cc
not_allowed c (Keys m ks) t a = let less = a.0 in absurd (omega arith)
not_allowed c (Load a size found) t h' = let no : false ≡ true = h'.0 in cc
not_allowed c (Store a size word) t h' = let no : false ≡ true = h'.0 in cc
not_allowed c (Atomic a size op operand expected found) t h' = let no : false ≡ true = h'.0 in cc

no_events : (c : ℕ) (events : List Event) (t : Plain) → PlainlyLegal no_cpus (map (entry c) events) t → events ≡ []
no_events c [] t legal = refl
no_events c (e ∷ es) t legal = absurd (not_allowed c e legal.0 legal.1.0)

-- ---- a step that no store sees has no events, wherever it is made
module _ (begins : OneInstructionBegins) where
  advance_events : (program : Loaded) (c : ℕ) (h : Shape) (old mid after : Cpu) (left more : ℕ) (events : List Event) (answer : Progress) → 0 < left
      → Advances program c no_cpus old left None no_cpus mid more → Step h program old events answer after → events ≡ []
  advance_events program c h old mid after zero more events answer may a step = absurd (omega arith)
  advance_events program c h old mid after (suc n) more events answer may a step =
      let none = no_events c a.0 no_cpus a.3 in
      let goes : a.1 ≡ On = goes_on a.1 n mid a.4 in
      let P : List Event → Type 0 = λ es. Step no_store program old es a.1 mid in
      let Q : Progress → Type 0 = λ p. Step no_store program old [] p mid in
      let quiet = subst Q goes (subst P none a.2) in
      let E : Insn → Type 0 = λ i. Executes h i old events answer after in
      let same = begins program.instructions old.pc step.instruction quiet.instruction step.begins quiet.begins in
      none_anywhere h old after events answer quiet.instruction mid quiet.row (subst E same step.row)
    where
      goes_on : (p : Progress) (n : ℕ) (new : Cpu) → None ≡ outcome_after p n new → p ≡ On
      goes_on (Done end) n new e = cc
      goes_on On n new e = refl

  quiet_has_none : (program : Loaded) (c n : ℕ) (h : Shape) (old : Cpu) (left : ℕ) (later : Cpu) (rest : ℕ) (events : List Event)
      (answer : Progress) (after : Cpu) → 0 < left
      → TakesQuietTurns program c n old left later rest → Step h program old events answer after → (n ≡ 0) ⊎ (events ≡ [])
  quiet_has_none program c zero h old left later rest events answer after may made step = inl refl
  quiet_has_none program c (suc n) h old left later rest events answer after may made step =
      inr (advance_events program c h old made.0 after left made.1 events answer may (made.2 no_cpus) step)

  -- ---- a CPU whose next step has an event isn't ahead
  module _ (z v : World) (headways : ℕ → Headway) (same : with_jobs v z.jobs ≡ z) (ahead : IsAheadOf (IsAhead headways) headways z.jobs v) where
    next_is_kept : (here : Stand) (event : Event) → HasNext z here event → HasNext v here event
    next_is_kept here event next =
        let b = before v.programs (λ c. turns_in (headways c)) z.jobs v.jobs ahead.each next.job next.task next.at.listed in
        let store : z.store ≡ v.store = ap (λ (x : World). x.store) (sym same) in
        let programs : z.programs ≡ v.programs = ap (λ (x : World). x.programs) (sym same) in
        let loaded : slice_get v.programs next.task.program ≡ Some next.program = subst
        (λ (ps : List Loaded). slice_get ps next.task.program ≡ Some next.program) programs next.loaded in
        let step : Step v.store.shape next.program next.state next.events next.answer next.after = subst
        (λ (s : Plain). Step s.shape next.program next.state next.events next.answer next.after) store next.step in
        let kept : b.0 ≡ next.task = stays b.0 loaded step b.2 in
        record {
          job = next.job;
          task = next.task;
          state = next.state;
          left = next.left;
          at = record { listed = b.1 ∙ ap Some kept; of = next.at.of; at = next.at.at };
          runs = next.runs;
          stands = next.stands;
          may = next.may;
          program = next.program;
          loaded = loaded;
          events = next.events;
          answer = next.answer;
          after = next.after;
          step = step;
          store = next.store;
          legal = subst (λ (s : Plain). PlainlyLegal s (map (entry here.cpu) next.events) next.store) store next.legal;
          place = next.place;
          among = next.among;
        }
      where
        stays : (new : Task) → slice_get v.programs next.task.program ≡ Some next.program → Step v.store.shape next.program next.state
            next.events next.answer next.after
            → Precedes v.programs (turns_in (headways next.task.cpu)) next.task new → new ≡ next.task
        stays new loaded step (inl a) = a.0
        stays new loaded step (inr (program, state, left, later, rest, loaded', was, is, made)) =
            let programs : Some program ≡ Some next.program = sym loaded' ∙ loaded in
            let one : program ≡ next.program = cc in
            let stages : InHand state left ≡ InHand next.state next.left = sym was ∙ next.at.at in
            let states : state ≡ next.state = cc in
            let lefts : left ≡ next.left = cc in
            let n = turns_in (headways next.task.cpu) in
            let made' : TakesQuietTurns next.program next.task.cpu n next.state next.left later rest = subst
            (λ (p : Loaded). TakesQuietTurns p next.task.cpu n next.state next.left later rest) one
            (subst (λ (x : Cpu). TakesQuietTurns program next.task.cpu n x next.left later rest) states
            (subst (λ (i : ℕ). TakesQuietTurns program next.task.cpu n state i later rest) lefts made)) in
            elim (quiet_has_none next.program next.task.cpu n v.store.shape next.state next.left later rest next.events next.answer
            next.after next.may made' step) [
              | inl none ↦ not_ahead v.programs (λ c. turns_in (headways c)) n next.task new none
                  (inr (program, state, left, later, rest, loaded', was, is, made))
              | inr none ↦ let no : None ≡ Some event = subst (λ (es : List Event). slice_get es next.place ≡ Some event) none next.among in cc
            ]

    pub race_is_kept : (one other : Stand) (b : ℕ) → IsRace z one other b → (v.store ≡ z.store) × IsRace v one other b
    race_is_kept one other b race = (
      ap (λ (x : World). x.store) same,
      record {
        apart = race.apart;
        first = race.first;
        second = race.second;
        next = next_is_kept one race.first race.next;
        next_too = next_is_kept other race.second race.next_too;
        writes = race.writes;
        writes_too = race.writes_too;
        atomic = race.atomic;
        atomic_too = race.atomic_too;
        touches = race.touches;
        touches_too = race.touches_too;
        one_writes = race.one_writes;
        not_both = race.not_both;
      },
    )

pub races_are_kept : WritesAreDetermined → OneInstructionBegins → CallsHaveOneReply → RacesAreKept
races_are_kept law begins replies kept w z schedule closed fresh shown runs one other b race =
    let r = covered_from law begins replies kept closed w z schedule fresh shown runs in
    let covered = r.0 in
    let held = race_is_kept begins z covered.0 covered.1 covered.3 covered.4 one other b race in
    (covered.0, covered.2, held.0, held.1)
