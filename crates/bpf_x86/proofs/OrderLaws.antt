-- Each outcome of sequential consistency is one of x86: flush after each step with a store.
use Rattle.std.proofs.Common.{◌≡◌, ℕ, zero, suc, true, false, List, [], ◌∷◌, ◌++◌, Option, Some, None, ◌⊎◌, inl, inr, refl, sym, ap, subst, ◌∙◌}
use Rattle.std.specs.Prelude.{map}
use Rattle.std.proofs.lemmas.List.{map-append}
use Rattle.bpf_shared.specs.declared.events.Entry.{Entry}
use Rattle.bpf_shared.specs.declared.events.Event.{Event}
use Rattle.bpf_shared.specs.declared.events.Event.TheVariants.{Begin, Lookup, Update, Load, Store}
use Rattle.bpf_shared.specs.declared.events.MapAnswer.TheVariants.{Invalid}
use Rattle.bpf_shared.specs.Store.{Plain, put}
use Rattle.bpf_shared.specs.Choice.{PlainlyAllowed}
use Rattle.bpf_shared.specs.History.{PlainlyLegal, entry}
use Rattle.bpf_shared.proofs.Histories.{history-append}
use Rattle.bpf_shared.proofs.Puts.{put-same}
use Rattle.bpf_loader.specs.Loaded.{Loaded}
use Rattle.bpf_cpu.specs.declared.cpu.Cpu.{Cpu}
use Rattle.bpf_cpu.specs.declared.outcome.Outcome.{Outcome}
use Rattle.bpf_cpu.specs.State.{start}
use Rattle.bpf_cpu.specs.Task.{Task}
use Rattle.bpf_machine.specs.declared.machine.Turn.{Turn}
use Rattle.bpf_machine.specs.Schedule.{World, RunsSchedule, Settles}
use Rattle.bpf_machine.specs.Schedule as plain
use Rattle.bpf_x86.specs.Buffers.{Buffered, Sees, Drains, Calls, CallsAll}
use Rattle.bpf_x86.specs.Machine.{X86, Advances, GoesOn, TakesTurn, Move, TurnOf, FlushOf, RunsMoves, none_waits, drained}
use Rattle.bpf_x86.specs.Laws.{OrdersAreX86s}
use Rattle.bpf_x86.proofs.Calling.{put_itself, put_twice}
use Rattle.bpf_x86.proofs.StepShapes.{AreNot, is_store, is_call, stores_apart}
use Rattle.bpf_x86.proofs.Going.{over}

-- memory where nothing waits
abbrev nothing : Plain → Buffered
nothing s = record { memory = s; buffers = none_waits }

drains_nothing : (s : Plain) (c : ℕ) → Drains (nothing s) c (nothing s)
drains_nothing s c = (s, refl, ap (λ (f : ℕ → List Event). record { memory = s; buffers = f }) (put_itself none_waits c [] refl))

-- ---- calls that aren't stores
call : (s t : Plain) (c : ℕ) (e : Event) → is_store e ≡ false → PlainlyAllowed s c e t → Calls (nothing s) c e (nothing t)
call s t c (Load a size found) it allowed =
    (s, refl, subst (PlainlyAllowed s c (Load a size found)) allowed.0.1.3 allowed, ap nothing allowed.0.1.3)
call s t c (Store a size x) it allowed = absurd cc
call s t c (Lookup m key found) it allowed = (t, allowed, refl)
call s t c (Update m key bytes flags Invalid) it allowed = (t, allowed, refl)
call s t c e it allowed = (nothing s, drains_nothing s c, (t, allowed, refl))

calls : (c : ℕ) (events : List Event) (s t : Plain) → AreNot is_store events → PlainlyLegal s (map (entry c) events) t → CallsAll
    (nothing s) c events (nothing t)
calls c [] s t none legal = ap nothing (sym legal)
calls c (e ∷ es) s t none legal = (nothing legal.0, call s legal.0 c e none.0 legal.1, calls c es legal.0 t none.1 legal.2)

-- ---- loads and stores: the stores wait
abbrev some_wait : Plain → ℕ → List Event → Buffered
some_wait s c es = record { memory = s; buffers = put none_waits c es }

-- what a CPU sees whose stores wait is what the plain store has after them
sees_some : (s t : Plain) (c : ℕ) (es : List Event) → PlainlyLegal s (map (entry c) es) t → Sees (some_wait s c es) c t
sees_some s t c es legal = subst (λ (fs : List Event). PlainlyLegal s (map (entry c) fs) t) (sym (put-same none_waits c c es refl)) legal

drains_some : (s t : Plain) (c : ℕ) (es : List Event) → PlainlyLegal s (map (entry c) es) t → Drains (some_wait s c es) c (nothing t)
drains_some s t c es legal = (
  t,
  sees_some s t c es legal,
  ap (λ (f : ℕ → List Event). record { memory = t; buffers = f }) (put_itself none_waits c [] refl ∙ sym (put_twice none_waits c es [])),
)

one_more : (s u t : Plain) (c : ℕ) (es : List Event) (e : Event) → PlainlyLegal s (map (entry c) es) u → PlainlyAllowed u c e t →
    PlainlyLegal s (map (entry c) (es ++ e ∷ [])) t
one_more s u t c es e legal allowed =
    subst (λ (log : List Entry). PlainlyLegal s log t) (sym (map-append (entry c) es (e ∷ [])))
    (history-append PlainlyAllowed s u t (map (entry c) es) (entry c e ∷ []) legal (t, allowed, refl))

waits_more : (s : Plain) (c : ℕ) (es : List Event) (e : Event) → some_wait s c (es ++ e ∷ []) ≡ record (some_wait s c es)
    { buffers = put (put none_waits c es) c (put none_waits c es c ++ e ∷ []) }
waits_more s c es e =
    ap (λ (fs : List Event). some_wait s c (fs ++ e ∷ [])) (sym (put-same none_waits c c es refl))
    ∙ ap (λ (f : ℕ → List Event). record { memory = s; buffers = f }) (sym (put_twice none_waits c es (put none_waits c es c ++ e ∷ [])))

abbrev Waits : Plain → ℕ → List Event → List Event → Plain → Type 0
Waits s c done events t = (es : List Event) × PlainlyLegal s (map (entry c) es) t × CallsAll (some_wait s c done) c events (some_wait s c es)

waits : (c : ℕ) (events done : List Event) (s u t : Plain) → AreNot is_call events → PlainlyLegal s (map (entry c) done) u → PlainlyLegal u
    (map (entry c) events) t → Waits s c done events t
waits c [] done s u t none legal rest = (done, subst (PlainlyLegal s (map (entry c) done)) rest legal, refl)
waits c (Load a size found ∷ events) done s u t none legal (m, allowed, rest) =
    let same : m ≡ u = allowed.0.1.3 in
    let next = waits c events done s u t none.1 legal (subst (λ (z : Plain). PlainlyLegal z (map (entry c) events) t) same rest) in (
      next.0,
      next.1,
      (some_wait s c done, (u, sees_some s u c done legal, subst (PlainlyAllowed u c (Load a size found)) same allowed, refl), next.2),
    )
waits c (Store a size x ∷ events) done s u t none legal (m, allowed, rest) =
    let e : Event = Store a size x in
    let next = waits c events (done ++ e ∷ []) s m t none.1 (one_more s u m c done e legal allowed) rest in (
      next.0,
      next.1,
      (some_wait s c (done ++ e ∷ []), (u, m, sees_some s u c done legal, allowed, waits_more s c done e), next.2),
    )
waits c (e ∷ events) done s u t none legal rest = let no : true ≡ false = none.0 in cc

all_wait : (c : ℕ) (events : List Event) (s t : Plain) → AreNot is_call events → PlainlyLegal s (map (entry c) events) t → (es : List Event)
    × PlainlyLegal s (map (entry c) es) t × CallsAll (nothing s) c events (some_wait s c es)
all_wait c events s t none legal =
    let r = waits c events [] s s t none refl legal in (
      r.0,
      r.1,
      subst (λ (f : ℕ → List Event). CallsAll (record { memory = s; buffers = f }) c events (some_wait s c r.0))
          (sym (put_itself none_waits c [] refl)) r.2,
    )

-- and are flushed one by one
abbrev flushes : ℕ → List Event → List Move
flushes c [] = []
flushes c (e ∷ es) = FlushOf c ∷ flushes c es

flush_all : (z : World) (c : ℕ) (es : List Event) (s t : Plain) → PlainlyLegal s (map (entry c) es) t → RunsMoves
    (over z s (put none_waits c es)) (flushes c es) (drained (record z { store = t }))
flush_all z c [] s t legal = ap (λ (q : Plain). drained (record z { store = q })) (sym legal) ∙ ap (λ (f : ℕ → List Event). over z s f)
    (put_itself none_waits c [] refl)
flush_all z c (e ∷ es) s t (m, allowed, rest) = (
  over z m (put none_waits c es),
  (
    some_wait m c es,
    (
      e,
      es,
      m,
      put-same none_waits c c (e ∷ es) refl,
      allowed,
      ap (λ (f : ℕ → List Event). record { memory = m; buffers = f })
          (sym (put_twice none_waits c (e ∷ es) es)),
    ),
    refl,
  ),
  flush_all z c es m t rest,
)

-- ---- a step: nothing waits after it, or stores of the CPU do
abbrev Steps : Loaded → ℕ → Plain → Cpu → ℕ → Option Outcome → Plain → Cpu → ℕ → Type 0
Steps program c s old left end t new rest =
    Advances program c (nothing s) old left end (nothing t) new rest
    ⊎ ((es : List Event) × PlainlyLegal s (map (entry c) es) t × Advances program c (nothing s) old left end (some_wait s c es) new rest)

steps : (program : Loaded) (c : ℕ) (s : Plain) (old : Cpu) (left : ℕ) (end : Option Outcome) (t : Plain) (new : Cpu) (rest : ℕ) →
    plain.Advances program c s old left end t new rest → Steps program c s old left end t new rest
steps program c s old zero end t new rest a = inl (a.0, ap nothing a.1, a.2, a.3)
steps program c s old (suc n) end t new rest a = from (stores_apart s.shape program old new a.0 a.1 a.2)
  where
    from : AreNot is_store a.0 ⊎ AreNot is_call a.0 → Steps program c s old (suc n) end t new rest
    from (inl none) = inl (a.0, a.1, a.2, calls c a.0 s t none a.3, a.4, a.5)
    from (inr none) = let r = all_wait c a.0 s t none a.3 in inr (r.0, r.1, (a.0, a.1, a.2, r.2, a.4, a.5))

-- ---- a job goes on
abbrev Goes : World → Plain → ℕ → ℕ → Task → Cpu → ℕ → Turn → World → Type 0
Goes w s c k t old left answer z = (x : X86) × GoesOn (over w s none_waits) c k t old left answer x × ((moves : List Move) × RunsMoves x moves (drained z))

goes : (w : World) (s : Plain) (c k : ℕ) (t : Task) (old : Cpu) (left : ℕ) (answer : Turn) (z : World) → plain.GoesOn
    (record w { store = s }) c k t old left answer z → Goes w s c k t old left answer z
goes w s c k t old left answer z g = from g.1 (steps g.0 c s old left g.1 g.2 g.3 g.4 g.6) g.7
  where
    from : (end : Option Outcome) → Steps g.0 c s old left end g.2 g.3 g.4 → Settles (record w { store = g.2 }) c k t g.3 g.4 end answer z →
        Goes w s c k t old left answer z
    from None (inl a) settles = (drained z, (g.0, None, nothing g.2, g.3, g.4, g.5, a, (settles, refl)), ([], refl))
    from None (inr (es, legal, a)) settles =
        let before : X86 = over z s (put none_waits c es) in
        let stored : z.store ≡ g.2 = ap (λ (x : World). x.store) settles.1 in (
          before,
          (g.0, None, some_wait s c es, g.3, g.4, g.5, a, ((settles.0, ap (λ (x : World). record x { store = s }) settles.1), refl)),
          (flushes c es, flush_all z c es s z.store (subst (PlainlyLegal s (map (entry c) es)) (sym stored) legal)),
        )
    from (Some end) (inl a) settles = (
      drained z,
      (
        g.0,
        Some end,
        nothing g.2,
        g.3,
        g.4,
        g.5,
        a,
        (nothing g.2, drains_nothing g.2 c, settles, refl),
      ),
      ([], refl),
    )
    from (Some end) (inr (es, legal, a)) settles = (
      drained z,
      (
        g.0,
        Some end,
        some_wait s c es,
        g.3,
        g.4,
        g.5,
        a,
        (nothing g.2, drains_some s g.2 c es legal, settles, refl),
      ),
      ([], refl),
    )

-- ---- a turn, a schedule
moves-append : (first rest : List Move) (x y z : X86) → RunsMoves x first y → RunsMoves y rest z → RunsMoves x (first ++ rest) z
moves-append [] rest x y z a b = subst (λ (v : X86). RunsMoves v rest z) a b
moves-append (move ∷ moves) rest x y z a b = (a.0, a.1, moves-append moves rest a.0 y z a.2 b)

-- the turn, and flushes of what waits then
finished : (w : World) (c : ℕ) (answer : Turn) (x : X86) (z : World) → TakesTurn (drained w) c answer x → (moves : List Move) × RunsMoves x
    moves (drained z) → (moves : List Move) × RunsMoves (drained w) moves (drained z)
finished w c answer x z taken rest = (TurnOf c ∷ rest.0, (x, (answer, taken), rest.1))

turn_moves : (w : World) (c : ℕ) (answer : Turn) (z : World) → plain.TakesTurn w c answer z → (moves : List Move) × RunsMoves (drained w) moves (drained z)
turn_moves w c answer z (inl (k, t, old, left, at, on)) =
    let g = goes w w.store c k t old left answer z on in
    finished w c answer g.0 z (inl (k, t, old, left, at, g.1)) g.2
turn_moves w c answer z (inr (inl (free, (k, t, input, s, at, below, begun, on)))) =
    let g = goes w s c k t (start c input) t.budget answer z on in
    finished w c answer g.0 z (inr (inl (free, (k, t, input, nothing s, at, below, call w.store s c Begin refl begun, g.1)))) g.2
turn_moves w c answer z (inr (inr (free, none, said, same))) =
    finished w c answer (drained w) z (inr (inr (free, none, said, refl))) ([], ap drained same)

pub orders_are_x86s : OrdersAreX86s
orders_are_x86s w z [] runs = ([], ap drained runs)
orders_are_x86s w z (c ∷ cs) runs =
    let first = turn_moves w c runs.0 runs.1 runs.2 in
    let rest = orders_are_x86s runs.1 z cs runs.3 in
    (first.0 ++ rest.0, moves-append first.0 rest.0 (drained w) (drained runs.1) (drained z) first.1 rest.1)
