-- The next step of a CPU that was watched.
use Rattle.std.proofs.Common.{◌≡◌, ◌∙◌, ℕ, zero, suc, ◌<◌, ◌≤◌, true, false, List, [], ◌∷◌, ◌++◌, Option, Some, None, map, length}
use Rattle.std.proofs.Common.{length-append, ◌+◌, inl, inr, refl, sym, ap, subst, arith}
use Rattle.std.specs.Prelude.{nat_lt, option_map, slice_get}
use Rattle.std.proofs.lemmas.Bool.{le-ltb}
use Rattle.bpf_shared.specs.Laws.{CallsHaveOneReply}
use Rattle.bpf_shared.specs.declared.events.Event.{Event}
use Rattle.bpf_shared.specs.Sound.{IsSoundStore}
use Rattle.bpf_shared.specs.Store.{Plain}
use Rattle.bpf_shared.specs.Shape.{Shape}
use Rattle.bpf_shared.specs.History.{PlainlyLegal, entry}
use Rattle.bpf_plain.specs.PlainStore.{Contents, has_cpu}
use Rattle.bpf_plain.specs.Alike.{IsSameShape}
use Rattle.bpf_loader.specs.Loaded.{Loaded}
use Rattle.bpf_loader.specs.Laws.{OneInstructionBegins}
use Rattle.bpf_mem.specs.Laws.{IsMemory, WritesAreDetermined}
use Rattle.bpf_cpu.specs.declared.cpu.Cpu.{Cpu}
use Rattle.bpf_cpu.specs.declared.outcome.Progress.{Progress}
use Rattle.bpf_cpu.specs.Step.{Step}
use Rattle.bpf_cpu.specs.Task.{Task, InHand}
use Rattle.bpf_cpu.proofs.DeterminedRuns.{step_agrees, same_replies}
use Rattle.bpf_machine.specs.declared.machine.Turn.TheVariants.{Ran}
use Rattle.bpf_machine.specs.declared.machine.Stand.{Stand}
use Rattle.bpf_machine.specs.Hands.{IsAt, IsFree}
use Rattle.bpf_machine.specs.Happenings.{Happening, happening, HasEvents}
use Rattle.bpf_machine.specs.Machine.{MachineState, Shows}
use Rattle.bpf_machine.specs.Parts.{CanStand}
use Rattle.bpf_machine.specs.Race.{HasNext}
use Rattle.bpf_machine.specs.Schedule.{World}
use Rattle.bpf_machine.specs.Work.{HasInHand}
use Rattle.bpf_machine.proofs.DeterminedTurns.{same_stage}
use Rattle.bpf_events.specs.Watched.{Recording, IsRecorderOf}
use Rattle.bpf_events.specs.Watched.{IsWatched, noted}
use Rattle.bpf_explore.specs.Stores.{IsOfShape}
use Rattle.bpf_races.specs.declared.access.Access.{Access}
use Rattle.bpf_races.specs.Touch.{IsAmong}
use Rattle.bpf_races.specs.Next.{NextStep, IsNext}
use Rattle.bpf_races.specs.Private.Accesses.{AreAccesses, seen}
use Rattle.bpf_races.specs.Private.Searching.{AreNexts, IsNextOf}
use Rattle.bpf_races.proofs.Lists.{at_cases}

-- ---- what was noted
same_events : (c i p j q : ℕ) (xs ys : List Event) → map (happening c i p) (xs ++ []) ≡ map (happening c j q) (ys ++ []) → xs ≡ ys
same_events c i p j q [] [] e = refl
same_events c i p j q [] (y ∷ ys) e = cc
same_events c i p j q (x ∷ xs) [] e = cc
same_events c i p j q (x ∷ xs) (y ∷ ys) e =
    let heads : happening c i p x ≡ happening c j q y = cc in
    let head : x ≡ y = ap (λ (h : Happening). h.event) heads in
    let tails : map (happening c i p) (xs ++ []) ≡ map (happening c j q) (ys ++ []) = cc in
    let tail : xs ≡ ys = same_events c i p j q xs ys tails in
    cc

no_events : (c j q : ℕ) (ys : List Event) → [] ≡ map (happening c j q) (ys ++ []) → [] ≡ ys
no_events c j q [] e = refl
no_events c j q (y ∷ ys) e = cc

seen_are : (c j q : ℕ) (at : Option (ℕ × ℕ)) (events ys : List Event) → noted c at events Ran ≡ map (happening c j q) (ys ++ []) → seen at events ≡ ys
seen_are c j q None events ys e = no_events c j q ys e
seen_are c j q (Some at) events ys e = same_events c at.0 at.1 j q events ys e

-- the events are those of the step
abbrev pub HasStep : World → ℕ → Task → Cpu → ℕ → List Event → Type 0
HasStep w c task state left events = (program : Loaded) × (slice_get w.programs task.program ≡ Some program) × HasEvents program c w.store state left events

watched_step : (m : MachineState) (c : ℕ) (at : Option (ℕ × ℕ)) (events : List Event) (j : ℕ) (task : Task) (state : Cpu) (left : ℕ)
    (w : World) → CanStand m → IsAt m.jobs c j task (InHand state left)
    → IsWatched m c at events → Shows m w → IsAt w.jobs c j task (InHand state left) → HasStep w c task state left (seen at events)
watched_step m c at events j task state left w stands hand watched shows here = elim (watched w shows Ran) [
  | inl (k, other, now, rest, there, (program, ys, loaded, has, log)) ↦
      let there' : IsAt m.jobs c k other (InHand now rest) = subst (λ (jobs : List Task). IsAt jobs c k other (InHand now rest)) shows.jobs there in
      let jobs : k ≡ j = stands.one c k j (other, now, rest, there') (task, state, left, hand) in
      let same = same_stage w.jobs c j other task (InHand now rest) (InHand state left)
      (subst (λ (n : ℕ). IsAt w.jobs c n other (InHand now rest)) jobs there) here in
      let tasks : other ≡ task = same.0 in
      let stages : InHand now rest ≡ InHand state left = same.1 in
      let states : now ≡ state = cc in
      let lefts : rest ≡ left = cc in
      let is : seen at events ≡ ys = seen_are c k now.pc at events ys log in
      let has' : HasEvents program c w.store state left ys = subst (λ (n : ℕ). HasEvents program c w.store state n ys) lefts
      (subst (λ (x : Cpu). HasEvents program c w.store x rest ys) states has) in (
        program,
        subst (λ (t : Task). slice_get w.programs t.program ≡ Some program) tasks loaded,
        subst
            (λ (es : List Event). HasEvents program c w.store state left es) (sym is) has',
      )
  | inr (inl (free, more)) ↦ absurd (free j task state left here)
  | inr (inr (free, none, nothing)) ↦ absurd (free j task state left here)
]

-- each of them is next
step_next : (w : World) (c j : ℕ) (task : Task) (state : Cpu) (left : ℕ) (program : Loaded) (ys : List Event) → IsAt w.jobs c j task
    (InHand state left) → slice_get w.programs task.program ≡ Some program
    → HasEvents program c w.store state left ys → (event : Event) → IsAmong ys event → HasNext w
    (record { cpu = c; program = task.program; pc = state.pc }) event
step_next w c j task state zero program ys at loaded has event (i, there) =
    let no : None ≡ Some event = sym (ap (λ (es : List Event). slice_get es i) has) ∙ there in
    cc
step_next w c j task state (suc n) program ys at loaded (answer, new, t, step, legal) event (i, there) = record {
  job = j;
  task = task;
  state = state;
  left = suc n;
  at = at;
  runs = refl;
  stands = refl;
  may = omega arith;
  program = program;
  loaded = loaded;
  events = ys;
  answer = answer;
  after = new;
  step = step;
  store = t;
  legal = legal;
  place = i;
  among = there;
}

same_stand : (own : Stand) (c program pc : ℕ) → own.cpu ≡ c → own.program ≡ program → own.pc ≡ pc → own ≡ record { cpu = c; program = program; pc = pc }
same_stand own c program pc cpu number at =
    ap (λ (n : ℕ). record { cpu = n; program = own.program; pc = own.pc }) cpu ∙
    (ap (λ (n : ℕ). record { cpu = c; program = n; pc = own.pc }) number ∙ ap (λ (n : ℕ). record { cpu = c; program = program; pc = n }) at)

-- the CPU has this job in hand, and is in this state
abbrev pub HasState : MachineState → ℕ → ℕ → Cpu → Type 0
HasState m c j state = (task : Task) × (left : ℕ) × IsAt m.jobs c j task (InHand state left)

module _ (law : WritesAreDetermined) (begins : OneInstructionBegins) (replies : CallsHaveOneReply) where
  one_events : (program : Loaded) (c : ℕ) (s : Plain) (old new other : Cpu) (events others : List Event) (answer end : Progress)
      (t u : Plain) → IsSoundStore s → IsMemory old.memory
      → Step s.shape program old events answer new → PlainlyLegal s (map (entry c) events) t → Step s.shape program old others end other →
      PlainlyLegal s (map (entry c) others) u → events ≡ others
  one_events program c s old new other events others answer end t u store sound a legal b legal_too =
      let agrees = step_agrees law begins s.shape program old new other answer end events others sound a b in
      (same_replies law begins s.shape program replies c events others s t u store legal legal_too agrees.asks).0

  -- and what is next is one of them
  next_among : (w : World) (c j : ℕ) (task : Task) (state : Cpu) (left : ℕ) (program : Loaded) (ys : List Event) → IsSoundStore w.store →
      IsMemory state.memory → ((k : ℕ) → HasInHand w.jobs c k → k ≡ j)
      → IsAt w.jobs c j task (InHand state left) → slice_get w.programs task.program ≡ Some program → HasEvents program c w.store state left ys
      → (pc number : ℕ) (event : Event) → HasNext w (record { cpu = c; program = number; pc = pc }) event → (number ≡ task.program) ×
      (pc ≡ state.pc) × IsAmong ys event
  next_among w c j task state left program ys store sound one at loaded has pc number event next =
      let jobs : next.job ≡ j = one next.job (next.task, next.state, next.left, next.at) in
      let same = same_stage w.jobs c j next.task task (InHand next.state next.left) (InHand state left)
      (subst (λ (n : ℕ). IsAt w.jobs c n next.task (InHand next.state next.left)) jobs next.at) at in
      let stages : InHand next.state next.left ≡ InHand state left = same.1 in
      let states : next.state ≡ state = cc in
      let lefts : next.left ≡ left = cc in
      let programs : Some next.program ≡ Some program = sym next.loaded ∙ (ap (λ (t : Task). slice_get w.programs t.program) same.0 ∙ loaded) in
      let program' : next.program ≡ program = cc in
      let step : Step w.store.shape program state next.events next.answer next.after =
      subst (λ (p : Loaded). Step w.store.shape p state next.events next.answer next.after) program'
      (subst (λ (x : Cpu). Step w.store.shape next.program x next.events next.answer next.after) states next.step)
      in (
        sym next.runs ∙ ap (λ (t : Task). t.program) same.0,
        sym next.stands ∙ ap (λ (x : Cpu). x.pc) states,
        among left
            (subst (λ (n : ℕ). 0 < n) lefts next.may) has step,
      )
    where
      among : (left : ℕ) → 0 < left → HasEvents program c w.store state left ys → Step w.store.shape program state next.events next.answer
          next.after → IsAmong ys event
      among zero may has step = absurd (omega arith)
      among (suc n) may (answer, new, t, made, legal) step =
          let same : ys ≡ next.events = one_events program c w.store state new next.after ys next.events answer next.answer t next.store
          store sound made legal step next.legal in
          (next.place, ap (λ (es : List Event). slice_get es next.place) same ∙ next.among)

  pub watched_next : (m : MachineState) (c j : ℕ) (number : Option ℕ) (program : ℕ) (at : Option (ℕ × ℕ)) (events : List Event)
      (state : Cpu) (accesses : List Access) → CanStand m → HasState m c j state → number ≡ option_map (λ task. task.program)
      (slice_get m.jobs j) → number ≡ Some program → IsMemory state.memory
      → IsWatched m c at events → AreAccesses (seen at events) accesses → IsNextOf m c
      (record { here = record { cpu = c; program = program; pc = state.pc }; accesses = accesses })
  watched_next m c j number program at events state accesses stands (task, left, hand) told is_so sound watched are = record
      { of = refl; is = λ w shows. next_in w shows }
    where
      same_program : task.program ≡ program
      same_program =
          let two : Some task.program ≡ Some program = sym (ap (λ (o : Option Task). option_map (λ task. task.program) o) hand.listed) ∙ (sym told ∙ is_so) in
          cc

      there : Stand
      there = record { cpu = c; program = program; pc = state.pc }

      next_in : (w : World) → Shows m w → IsNext w (record { here = record { cpu = c; program = program; pc = state.pc }; accesses = accesses })
      next_in w shows =
          let here : IsAt w.jobs c j task (InHand state left) = subst (λ (jobs : List Task). IsAt jobs c j task (InHand state left)) (sym shows.jobs) hand in
          let step = watched_step m c at events j task state left w stands hand watched shows here in
          let one : (k : ℕ) → HasInHand w.jobs c k → k ≡ j = λ k has. stands.one c k j
          (subst (λ (jobs : List Task). HasInHand jobs c k) shows.jobs has) (task, state, left, hand) in
          record {
            each = λ a in_there. (let r = are.each a in_there in (
              r.0,
              subst (λ (n : ℕ). HasNext w (record { cpu = c; program = n; pc = state.pc }) r.0) same_program
                  (step_next w c j task state left step.0 (seen at events) here step.1 step.2 r.0 r.1),
              r.2,
            ));
            all = λ own event a cpu next is.
                (let r = next_among w c j task state left step.0 (seen at events) shows.sound sound one here step.1 step.2 own.pc own.program event
                (subst (λ (n : ℕ). HasNext w (record { cpu = n; program = own.program; pc = own.pc }) event) cpu next) in
                (same_stand own c program state.pc cpu (r.0 ∙ same_program) r.1, are.all a (event, r.2, is)));
          }

-- a CPU with no job in hand has none
pub free_next : (m : MachineState) (c : ℕ) → IsFree m.jobs c → IsNextOf m c (record { here = record { cpu = c; program = 0; pc = 0 }; accesses = [] })
free_next m c free = record {
  of = refl;
  is = λ w shows. record {
    each = λ a (i, at). cc;
    all = λ own event a cpu next is.
        absurd (free next.job next.task next.state next.left (subst
        (λ (jobs : List Task). IsAt jobs c next.job next.task (InHand next.state next.left)) shows.jobs
        (subst (λ (n : ℕ). IsAt w.jobs n next.job next.task (InHand next.state next.left)) cpu next.at)));
  };
}

-- a job that is there has a program
pub has_program : (m : MachineState) (c j : ℕ) (state : Cpu) (number : Option ℕ) → HasState m c j state → number ≡ option_map
    (λ task. task.program) (slice_get m.jobs j) → number ≡ None → ⊥
has_program m c j state number (task, left, hand) told none =
    let no : Some task.program ≡ None = sym (ap (λ (o : Option Task). option_map (λ task. task.program) o) hand.listed) ∙ (sym told ∙ none) in
    cc

-- ---- the recorder's store
pub recorder_fits : (h : Shape) (p : Contents) (r : Recording) → IsOfShape h p → IsRecorderOf h r → IsSameShape p r.store
recorder_fits h p r is record_of = (λ c. record_of.0 c ∙ sym (is.1 c), record_of.1 ∙ sym is.0)

pub recorder_stays : (h : Shape) (p : Contents) (r : Recording) → IsOfShape h p → IsSameShape p r.store → IsRecorderOf h r
recorder_stays h p r is same = (λ c. same.0 c ∙ is.1 c, same.1 ∙ is.0)

-- ---- CPUs that the store doesn't have
pub beyond_free : (m : MachineState) (cpus c : ℕ) → CanStand m → ((d : ℕ) → has_cpu m.store d ≡ nat_lt d cpus) → nat_lt c cpus ≡ false → IsFree m.jobs c
beyond_free m cpus c stands serves past j task state left at =
    let served : has_cpu m.store task.cpu ≡ true = stands.served j task at.listed in
    let not : has_cpu m.store task.cpu ≡ false = ap (λ (d : ℕ). has_cpu m.store d) at.of ∙ (serves c ∙ past) in
    let no : true ≡ false = sym served ∙ not in
    cc

-- ---- the next steps of CPUs, one by one
abbrev pub NextsBelow : MachineState → List NextStep → ℕ → Type 0
NextsBelow m nexts n = (length nexts ≡ n) × ((c : ℕ) (next : NextStep) → slice_get nexts c ≡ Some next → IsNextOf m c next)

pub next_more : (m : MachineState) (old new : List NextStep) (n : ℕ) (next : NextStep) → NextsBelow m old n → IsNextOf m n next → new ≡ old
    ++ next ∷ [] → NextsBelow m new (n + 1)
next_more m old new n next (count, far) is same = subst (λ (xs : List NextStep). NextsBelow m xs (n + 1)) (sym same) (
  (let both = length-append old (next ∷ []) in omega arith),
  λ c one at. elim (at_cases old next one c at) [
    | inl there ↦ far c one there
    | inr (last, this) ↦ subst (λ (k : ℕ). IsNextOf m k one) (sym (last ∙ count)) (subst (λ (x : NextStep). IsNextOf m n x) (sym this) is)
  ],
)

pub all_nexts : (m : MachineState) (nexts : List NextStep) (n cpus : ℕ) → CanStand m → ((d : ℕ) → has_cpu m.store d ≡ nat_lt d cpus) →
    NextsBelow m nexts n → cpus ≤ n → AreNexts m nexts
all_nexts m nexts n cpus stands serves (count, far) past = record {
  each = far;
  none = λ c beyond. beyond_free m cpus c stands serves (le-ltb c cpus (omega arith));
}
