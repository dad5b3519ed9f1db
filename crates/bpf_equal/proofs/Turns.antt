-- The turn of the CPU that a CPU goes to leads to what its turn leads to.
use Rattle.std.proofs.Common.{◌≡◌, ◌∙◌, ℕ, zero, suc, List, [], ◌∷◌, map, Option, Some, None, inl, inr, refl, sym, ap, subst}
use Rattle.std.specs.Prelude.{slice_get, slice_set}
use Rattle.bpf_shared.specs.declared.events.Event.{Event}
use Rattle.bpf_shared.specs.declared.events.Event.TheVariants.{Begin, End}
use Rattle.bpf_shared.specs.Choice.{PlainlyAllowed}
use Rattle.bpf_shared.specs.History.{PlainlyLegal, entry}
use Rattle.bpf_shared.specs.Shape.{Shape}
use Rattle.bpf_shared.specs.Store.{Plain, put}
use Rattle.bpf_shared.proofs.Leaving.{event_shape, history_shape}
use Rattle.bpf_loader.specs.Loaded.{Loaded}
use Rattle.bpf_cpu.specs.declared.cpu.Cpu.{Cpu}
use Rattle.bpf_cpu.specs.declared.input.Input.{Input}
use Rattle.bpf_cpu.specs.declared.outcome.Outcome.{Outcome}
use Rattle.bpf_cpu.specs.declared.outcome.Outcome.TheVariants.{OutOfBudget}
use Rattle.bpf_cpu.specs.declared.outcome.Progress.{Progress}
use Rattle.bpf_cpu.specs.declared.outcome.Progress.TheVariants.{On, Done}
use Rattle.bpf_cpu.specs.State.{start}
use Rattle.bpf_cpu.specs.Step.{Step}
use Rattle.bpf_cpu.specs.Task.{Stage, Task, InHand, Ended}
use Rattle.bpf_machine.specs.declared.machine.Turn.{Turn}
use Rattle.bpf_machine.specs.Hands.{IsAt}
use Rattle.bpf_machine.specs.Listings.{Listing, Never, Due, Made, listed_now}
use Rattle.bpf_machine.specs.Schedule.{World, outcome_after, Advances, GoesOn, Lists, Settles, TakesTurn}
use Rattle.bpf_equal.specs.Permutations.{Permutation, StaysBelow}
use Rattle.bpf_equal.specs.States.{HasNoOwnValues, marked, marks_of}
use Rattle.bpf_equal.specs.Stores.{store_permuted}
use Rattle.bpf_equal.specs.Worlds.{ArePartners, IsAsFar, IsPartner, IsPermuted, turn_permuted}
use Rattle.bpf_equal.specs.Laws.{SchedulesArePermuted, TurnsArePermuted}
use Rattle.bpf_equal.proofs.Events.{events_are_permuted, put_permuted}
use Rattle.bpf_equal.proofs.Partners.{Awaits, Follows, free_there, hand_there, none_below, none_there, partner_at, set_order, set_partners, some_there, wait_at}
use Rattle.bpf_equal.proofs.Marking.{steps_are_marked}

pub same_outcome : (answer : Progress) (n : ℕ) (new next : Cpu) → next.pc ≡ new.pc → outcome_after answer n next ≡ outcome_after answer n new
same_outcome (Done end) n new next e = refl
same_outcome On zero new next e = ap (λ (pc : ℕ). Some (OutOfBudget pc)) e
same_outcome On (suc n) new next e = refl

listed_too : (cpus : Permutation) (s : Plain) (l : Listing) → listed_now (store_permuted cpus s) l ≡ listed_now s l
listed_too cpus s Never = refl
listed_too cpus s Due = refl
listed_too cpus s (Made all) = refl

-- ---- a step of a job in hand
module _ (h : Shape) (programs : List Loaded) (cpus : Permutation) (task new : Task) where
  abbrev Both : Cpu → Cpu → Type 0
  Both = Follows h programs cpus task new

  pub same_pc : (state other : Cpu) → Both state other → other.pc ≡ state.pc
  same_pc state other (inl same) = ap (λ (c : Cpu). c.pc) same.1
  same_pc state other (inr one) = ap (λ (c : Cpu). c.pc) one.1

  pub step_there : (shape : Shape) (program : Loaded) (old other last : Cpu) (events : List Event) (answer : Progress) → h ≡ shape
      → slice_get programs task.program ≡ Some program → Both old other → Step shape program old events answer last
      → (next : Cpu) × Step shape program other events answer next × Both last next
  step_there shape program old other last events answer same loaded (inl (cpu, one)) step =
      (last, subst (λ (c : Cpu). Step shape program c events answer last) (sym one) step, inl (cpu, refl))
  step_there shape program old other last events answer same loaded (inr (blind, one)) step = (
    marked (marks_of other) last,
    subst (λ (c : Cpu). Step shape program c events answer (marked (marks_of other) last)) (sym one)
        (steps_are_marked shape program (marks_of other) old last events answer (blind.1 program loaded) (subst HasNoOwnValues same blind.0) step),
    inr (blind, refl),
  )

  pub history_there : (c : ℕ) (s t : Plain) (events : List Event) → StaysBelow s.shape.cpus cpus → PlainlyLegal s (map (entry c) events) t
      → PlainlyLegal (store_permuted cpus s) (map (entry (cpus.to c)) events) (store_permuted cpus t)
  history_there c s t [] stays same = ap (store_permuted cpus) same
  history_there c s t (e ∷ es) stays (m, allowed, rest) = (
    store_permuted cpus m,
    events_are_permuted cpus s m c e stays allowed,
    history_there c m t es (subst (λ (k : Shape). StaysBelow k.cpus cpus) (sym (event_shape s m c e allowed.0)) stays) rest,
  )

  pub advance_there : (program : Loaded) (c : ℕ) (s : Plain) (old other : Cpu) (left : ℕ) (end : Option Outcome) (t : Plain) (last : Cpu) (rest : ℕ)
      → h ≡ s.shape → StaysBelow s.shape.cpus cpus → slice_get programs task.program ≡ Some program → Both old other
      → Advances program c s old left end t last rest
      → (next : Cpu) × Advances program (cpus.to c) (store_permuted cpus s) other left end (store_permuted cpus t) next rest × Both last next
  advance_there program c s old other zero end t last rest same stays loaded both a = (
    other,
    (a.0 ∙ ap (λ (pc : ℕ). Some (OutOfBudget pc)) (sym (same_pc old other both)), ap (store_permuted cpus) a.1, refl, a.3),
    subst (λ (x : Cpu). Both x other) (sym a.2) both,
  )
  advance_there program c s old other (suc n) end t last rest same stays loaded both a =
      let r = step_there s.shape program old other last a.0 a.1 same loaded both a.2 in (
        r.0,
        (
          a.0,
          a.1,
          r.1,
          history_there c s t a.0 stays a.3,
          a.4 ∙ sym (same_outcome a.1 n last r.0 (same_pc last r.0 r.2)),
          a.5,
        ),
        r.2,
      )

  -- the job is as far then
  as_far : (old other : Cpu) (left : ℕ) → Both old other → IsAsFar h programs (record task { stage = InHand old left }) (record new
      { stage = InHand other left })
  as_far old other left (inl (cpu, one)) = inl (cpu, ap (λ (c : Cpu). InHand c left) one)
  as_far old other left (inr (blind, one)) = inr (blind, (one, refl))

  as_ended : (old other : Cpu) (end : Outcome) → Both old other → IsAsFar h programs (record task { stage = Ended end }) (record new { stage = Ended end })
  as_ended old other end (inl (cpu, one)) = inl (cpu, refl)
  as_ended old other end (inr (blind, one)) = inr (blind, refl)

  pub at_stage : (a b : Stage) → IsPartner h programs cpus task new → IsAsFar h programs (record task { stage = a }) (record new { stage = b })
      → IsPartner h programs cpus (record task { stage = a }) (record new { stage = b })
  at_stage a b partner far = record { cpu = partner.cpu; program = partner.program; budget = partner.budget; stage = far }

-- ---- a turn
module _ (cpus jobs : Permutation) where
  abbrev Goes : World → World → Type 0
  Goes = IsPermuted cpus jobs

  -- over another store of this shape
  over_store : (w v : World) (s : Plain) → Goes w v → s.shape ≡ w.store.shape → Goes (record w { store = s }) (record v { store = store_permuted cpus s })
  over_store w v s p same = record {
    store = refl;
    programs = p.programs;
    each = λ j. subst (λ (h : Shape). ArePartners h w.programs cpus (slice_get w.jobs j) (slice_get v.jobs (jobs.to j))) (sym same) (p.each j);
    order = p.order;
    lists = p.lists;
    stays = subst (λ (h : Shape). StaysBelow h.cpus cpus) (sym same) p.stays;
  }

  -- a job and its partner change
  with_jobs_set : (w v : World) (j : ℕ) (was is x y : Task) → Goes w v → slice_get w.jobs j ≡ Some was → slice_get v.jobs (jobs.to j) ≡ Some is
      → x.cpu ≡ was.cpu → IsPartner w.store.shape w.programs cpus x y
      → Goes (record w { jobs = slice_set w.jobs j x }) (record v { jobs = slice_set v.jobs (jobs.to j) y })
  with_jobs_set w v j was is x y p listed there cpu partner = record {
    store = p.store;
    programs = p.programs;
    each = set_partners w.store.shape w.programs cpus jobs w.jobs v.jobs p.each j was is listed there x y partner;
    order = set_order w.store.shape w.programs cpus jobs w.jobs v.jobs p.each j was is listed there x y cpu p.order;
    lists = p.lists;
    stays = p.stays;
  }

  lists_there : (w v : World) (c : ℕ) (z : World) → Goes w v → Lists w c z → (y : World) × Lists v (cpus.to c) y × Goes z y
  lists_there w v c z p (inl (some, same)) = (
    v,
    inl (some_there w.store.shape w.programs cpus jobs w.jobs v.jobs p.each c some, refl),
    subst (λ (x : World). Goes x v) (sym same) p,
  )
  lists_there w v c z p (inr (none, same)) =
      let mine = listed_now w.store (w.lists c) in
      let its : listed_now v.store (v.lists (cpus.to c)) ≡ mine =
      ap (λ (s : Plain). listed_now s (v.lists (cpus.to c))) p.store ∙ listed_too cpus w.store (v.lists (cpus.to c))
      ∙ ap (λ (f : ℕ → Listing). listed_now w.store (f (cpus.to c))) p.lists ∙ ap (λ (d : ℕ). listed_now w.store (w.lists d)) (cpus.back c) in
      let now : put v.lists (cpus.to c) (listed_now v.store (v.lists (cpus.to c))) ≡ (λ x. put w.lists c mine (cpus.from x)) =
      ap (put v.lists (cpus.to c)) its ∙ ap (λ (f : ℕ → Listing). put f (cpus.to c) mine) p.lists ∙ sym (put_permuted cpus w.lists c mine) in (
        record v { lists = put v.lists (cpus.to c) (listed_now v.store (v.lists (cpus.to c))) },
        inr (none_there w.store.shape w.programs cpus jobs w.jobs v.jobs p.each c none, refl),
        subst (λ (x : World). Goes x (record v { lists = put v.lists (cpus.to c) (listed_now v.store (v.lists (cpus.to c))) })) (sym same)
            (record { store = p.store; programs = p.programs; each = p.each; order = p.order; lists = now; stays = p.stays }),
      )

  -- a job, its partner, and how far each is
  record Meets (w v : World) (j : ℕ) (task new : Task) (state other : Cpu) : Type 0 where
    listed : slice_get w.jobs j ≡ Some task
    there : slice_get v.jobs (jobs.to j) ≡ Some new
    partner : IsPartner w.store.shape w.programs cpus task new
    both : Follows w.store.shape w.programs cpus task new state other

  settles_there : (w v : World) (c j : ℕ) (task new : Task) (state other : Cpu) (left : ℕ) (end : Option Outcome) (answer : Turn) (z : World)
      → Goes w v → Meets w v j task new state other → Settles w c j task state left end answer z
      → (y : World) × Settles v (cpus.to c) (jobs.to j) new other left end (turn_permuted jobs answer) y × Goes z y
  settles_there w v c j task new state other left None answer z p m s =
      let x : Task = record task { stage = InHand state left } in
      let y : Task = record new { stage = InHand other left } in
      let far = as_far w.store.shape w.programs cpus task new state other left m.both in
      let partner = at_stage w.store.shape w.programs cpus task new (InHand state left) (InHand other left) m.partner far in (
        record v { jobs = slice_set v.jobs (jobs.to j) y },
        (ap (turn_permuted jobs) s.0, refl),
        subst (λ (u : World). Goes u (record v { jobs = slice_set v.jobs (jobs.to j) y })) (sym s.1)
            (with_jobs_set w v j task new x y p m.listed m.there refl partner),
      )
  settles_there w v c j task new state other left (Some end) answer z p m s =
      let x : Task = record task { stage = Ended end } in
      let y : Task = record new { stage = Ended end } in
      let far = as_ended w.store.shape w.programs cpus task new state other end m.both in
      let partner = at_stage w.store.shape w.programs cpus task new (Ended end) (Ended end) m.partner far in
      let allowed = subst (λ (t : Plain). PlainlyAllowed t (cpus.to c) End (store_permuted cpus s.0)) (sym p.store)
      (events_are_permuted cpus w.store s.0 c End p.stays s.1) in
      let set = with_jobs_set w v j task new x y p m.listed m.there refl partner in
      let over = over_store (record w { jobs = slice_set w.jobs j x }) (record v { jobs = slice_set v.jobs (jobs.to j) y }) s.0 set
      (event_shape w.store s.0 c End s.1.0) in
      let r = lists_there (record w { store = s.0; jobs = slice_set w.jobs j x }) (record v
      { store = store_permuted cpus s.0; jobs = slice_set v.jobs (jobs.to j) y }) c z over s.3 in
      (r.0, (store_permuted cpus s.0, allowed, ap (turn_permuted jobs) s.2, r.1), r.2)

  goes_there : (w v : World) (c j : ℕ) (task new : Task) (state other : Cpu) (left : ℕ) (answer : Turn) (z : World)
      → Goes w v → Meets w v j task new state other → GoesOn w c j task state left answer z
      → (y : World) × GoesOn v (cpus.to c) (jobs.to j) new other left (turn_permuted jobs answer) y × Goes z y
  goes_there w v c j task new state other left answer z p m (program, end, s, last, rest, loaded, advances, settles) =
      let a = advance_there w.store.shape w.programs cpus task new program c w.store state other left end s last rest refl p.stays loaded m.both advances in
      let shape = advance_shape program c w.store state left end s last rest advances in
      let back : w.store.shape ≡ s.shape = sym shape in
      let meets : Meets (record w { store = s }) (record v { store = store_permuted cpus s }) j task new last a.0 = record {
        listed = m.listed;
        there = m.there;
        partner = subst (λ (h : Shape). IsPartner h w.programs cpus task new) back m.partner;
        both = subst (λ (h : Shape). Follows h w.programs cpus task new last a.0) back a.2;
      } in
      let r = settles_there (record w { store = s }) (record v { store = store_permuted cpus s }) c j task new last a.0 rest end answer z
      (over_store w v s p shape) meets settles in (
        r.0,
        (
          program,
          end,
          store_permuted cpus s,
          a.0,
          rest,
          ap (λ (ps : List Loaded). slice_get ps new.program) p.programs ∙ ap (slice_get w.programs) m.partner.program ∙ loaded,
          subst (λ (t : Plain). Advances program (cpus.to c) t other left end (store_permuted cpus s) a.0 rest) (sym p.store) a.1,
          r.1,
        ),
        r.2,
      )
    where
      advance_shape : (program : Loaded) (c : ℕ) (s : Plain) (old : Cpu) (left : ℕ) (end : Option Outcome) (t : Plain) (last : Cpu) (rest : ℕ)
          → Advances program c s old left end t last rest → t.shape ≡ s.shape
      advance_shape program c s old zero end t last rest a = ap (λ (x : Plain). x.shape) a.1
      advance_shape program c s old (suc n) end t last rest a = history_shape PlainlyAllowed (λ x y d e k. k.0) s t (map (entry c) a.0) a.3

  turn_there : (w v z : World) (c : ℕ) (answer : Turn) → Goes w v → TakesTurn w c answer z
      → (y : World) × TakesTurn v (cpus.to c) (turn_permuted jobs answer) y × Goes z y
  turn_there w v z c answer p (inl (j, task, state, left, at, goes)) =
      let b = partner_at w.store.shape w.programs cpus jobs w.jobs v.jobs p.each j task at.listed in
      let k = hand_there w.store.shape w.programs cpus task b.0 b.2 state left at.at in
      let r = goes_there w v c j task b.0 state k.0 left answer z p (record { listed = at.listed; there = b.1; partner = b.2; both = k.2 }) goes in
      let there : IsAt v.jobs (cpus.to c) (jobs.to j) b.0 (InHand k.0 left) = record { listed = b.1; of = b.2.cpu ∙ ap cpus.to at.of; at = k.1 } in
      (r.0, inl (jobs.to j, b.0, k.0, left, there, r.1), r.2)
  turn_there w v z c answer p (inr (inl (free, (j, task, input, s, at, none, begins, goes)))) =
      let b = wait_at w.store.shape w.programs cpus jobs w.jobs v.jobs p.each c j task input at in
      let shape = event_shape w.store s c Begin begins.0 in
      let back : w.store.shape ≡ s.shape = sym shape in
      let meets : Meets (record w { store = s }) (record v { store = store_permuted cpus s }) j task b.0 (start c input) (start (cpus.to c) b.1) = record {
        listed = at.listed;
        there = b.2.listed;
        partner = subst (λ (h : Shape). IsPartner h w.programs cpus task b.0) back b.3;
        both = subst (λ (h : Shape). Follows h w.programs cpus task b.0 (start c input) (start (cpus.to c) b.1)) back (both b.0 b.1 b.2.of b.4);
      } in
      let r = goes_there (record w { store = s }) (record v { store = store_permuted cpus s }) c j task b.0 (start c input) (start (cpus.to c) b.1)
      task.budget answer z (over_store w v s p shape) meets goes in
      let allowed = subst (λ (t : Plain). PlainlyAllowed t (cpus.to c) Begin (store_permuted cpus s)) (sym p.store)
      (events_are_permuted cpus w.store s c Begin p.stays begins) in (
        r.0,
        inr (inl (
          free_there w.store.shape w.programs cpus jobs w.jobs v.jobs p.each c free,
          (
            jobs.to j,
            b.0,
            b.1,
            store_permuted cpus s,
            b.2,
            none_below w.store.shape w.programs cpus jobs w.jobs v.jobs p.each c j task input p.order at none,
            allowed,
            subst (λ (n : ℕ). GoesOn (record v { store = store_permuted cpus s }) (cpus.to c) (jobs.to j) b.0 (start (cpus.to c) b.1) n
                (turn_permuted jobs answer) r.0) (sym b.3.budget) r.1,
          ),
        )),
        r.2,
      )
    where
      both : (new : Task) (other : Input) → new.cpu ≡ cpus.to c → Awaits w.store.shape w.programs cpus task new input other
          → Follows w.store.shape w.programs cpus task new (start c input) (start (cpus.to c) other)
      both new other of (inl (cpu, same)) = inl (cpu, ap (start (cpus.to c)) same ∙ ap (λ (n : ℕ). start n input) (sym of ∙ cpu ∙ at.of))
      both new other of (inr (blind, one)) = inr (blind, ap (start (cpus.to c)) one)
  turn_there w v z c answer p (inr (inr (free, none, idle, same))) = (
    v,
    inr (inr (
      free_there w.store.shape w.programs cpus jobs w.jobs v.jobs p.each c free,
      none_there w.store.shape w.programs cpus jobs w.jobs v.jobs p.each c none,
      ap (turn_permuted jobs) idle,
      refl,
    )),
    subst (λ (x : World). Goes x v) (sym same) p,
  )

pub turns_are_permuted : TurnsArePermuted
turns_are_permuted cpus jobs w v z c answer p taken = turn_there cpus jobs w v z c answer p taken

pub schedules_are_permuted : SchedulesArePermuted
schedules_are_permuted cpus jobs w v z [] p same = (v, refl, subst (λ (x : World). IsPermuted cpus jobs x v) (sym same) p)
schedules_are_permuted cpus jobs w v z (c ∷ cs) p (answer, m, taken, rest) =
    let t = turns_are_permuted cpus jobs w v m c answer p taken in
    let r = schedules_are_permuted cpus jobs m t.0 z cs t.2 rest in
    (r.0, (turn_permuted jobs answer, t.0, t.1, r.1), r.2)
