-- A step of the x86 machine is a step of the plain one that is ahead of it.
use Rattle.std.proofs.Common.{◌≡◌, ◌≢◌, ℕ, zero, suc, true, false, List, [], ◌∷◌, ◌++◌, Option, ◌⊎◌, inl, inr, refl, sym, ap, subst, ◌∙◌}
use Rattle.std.proofs.Common.{append-nil, append_assoc}
use Rattle.std.specs.Prelude.{map}
use Rattle.std.proofs.lemmas.List.{map-append}
use Rattle.bpf_shared.specs.declared.events.Event.{Event}
use Rattle.bpf_shared.specs.declared.events.Event.TheVariants.{Lookup, Update, Load, Store}
use Rattle.bpf_shared.specs.declared.events.MapAnswer.TheVariants.{Invalid}
use Rattle.bpf_shared.specs.declared.events.Entry.{Entry}
use Rattle.bpf_shared.specs.Shape.{Shape}
use Rattle.bpf_shared.specs.Store.{Plain}
use Rattle.bpf_shared.specs.Choice.{PlainlyAllowed}
use Rattle.bpf_shared.specs.History.{PlainlyLegal, entry}
use Rattle.bpf_shared.proofs.Histories.{history-append}
use Rattle.bpf_shared.proofs.Puts.{put-same}
use Rattle.bpf_loader.specs.Loaded.{Loaded}
use Rattle.bpf_cpu.specs.declared.cpu.Cpu.{Cpu}
use Rattle.bpf_cpu.specs.declared.outcome.Outcome.{Outcome}
use Rattle.bpf_cpu.specs.declared.outcome.Progress.{Progress}
use Rattle.bpf_cpu.specs.Step.{Step}
use Rattle.bpf_machine.specs.Schedule as plain
use Rattle.bpf_machine.specs.Schedule.{outcome_after}
use Rattle.bpf_x86.specs.Buffers.{Buffered, Drains, AsksMemory, Calls, CallsAll}
use Rattle.bpf_x86.specs.Machine.{Advances}
use Rattle.bpf_x86.proofs.Overlay.{hits_any, changes_any}
use Rattle.bpf_x86.proofs.Buffers.{IsAhead}
use Rattle.bpf_x86.proofs.Calling.{IsClear}
use Rattle.bpf_x86.proofs.Meeting.{call_ahead}
use Rattle.bpf_x86.proofs.Behind.{IsBehind, Misses, AllMiss, own_load_behind, own_lookup_behind, own_refused_behind}
use Rattle.bpf_x86.proofs.StepShapes.{AreNot, is_store, is_call, stores_apart}
use Rattle.bpf_x86.proofs.Lagging.{AdvanceMisses}

-- ---- the calls of a step
-- each call misses what other CPUs' steps are about whose stores wait, so far as those before it are known
abbrev pub Judge : (ℕ → List Event) → Plain → ℕ → List Event → Type 0
Judge lacks s c events = (done : List Event) (e : Event) (rest : List Event) (u : Plain) → events ≡ done ++ e ∷ rest → PlainlyLegal s (map (entry c) done) u
    → ((d : ℕ) → d ≢ c → AllMiss (lacks d) done) → (d : ℕ) → d ≢ c → Misses (lacks d) e

-- what waits is among what they write
abbrev pub CoversBuffers : (ℕ → List Event) → Buffered → Type 0
CoversBuffers lacks b = (d x : ℕ) → hits_any (b.buffers d) x ≡ true → changes_any (lacks d) x ≡ true

pub record Walked (lacks : ℕ → List Event) (b t : Buffered) (s : Plain) (c : ℕ) (events : List Event) : Type 0 where
  pub next : Plain
  pub legal : PlainlyLegal s (map (entry c) events) next
  pub ahead : IsAhead t next
  pub others : (d : ℕ) → d ≢ c → t.buffers d ≡ b.buffers d
  pub misses : (d : ℕ) → d ≢ c → AllMiss (lacks d) events

misses-last : (lacking es : List Event) (e : Event) → AllMiss lacking es → Misses lacking e → AllMiss lacking (es ++ e ∷ [])
misses-last lacking [] e all one = (one, tt)
misses-last lacking (f ∷ fs) e all one = (all.0, misses-last lacking fs e all.1 one)

module _ (lacks : ℕ → List Event) (b0 : Buffered) (s0 : Plain) (c : ℕ) (events : List Event) (cover : CoversBuffers lacks b0)
    (judge : Judge lacks s0 c events) where
  walk : (todo done : List Event) (b : Buffered) (u : Plain) (t : Buffered) → events ≡ done ++ todo → PlainlyLegal s0 (map (entry c) done) u
      → ((d : ℕ) → d ≢ c → AllMiss (lacks d) done)
      → IsAhead b u → ((d : ℕ) → d ≢ c → b.buffers d ≡ b0.buffers d) → CallsAll b c todo t → Walked lacks b0 t s0 c events
  walk [] done b u t all legal miss ahead others calls =
      let same : events ≡ done = all ∙ append-nil done in
      record {
        next = u;
        legal = subst (λ (es : List Event). PlainlyLegal s0 (map (entry c) es) u) (sym same) legal;
        ahead = subst (λ (z : Buffered). IsAhead z u) (sym calls) ahead;
        others = λ d ne. ap (λ (z : Buffered). z.buffers d) calls ∙ others d ne;
        misses = λ d ne. subst (AllMiss (lacks d)) (sym same) (miss d ne);
      }
  walk (e ∷ todo) done b u t all legal miss ahead others calls =
      let missed : (d : ℕ) → d ≢ c → Misses (lacks d) e = judge done e todo u all legal miss in
      let clear : IsClear b0.buffers c e = λ d x ne hit too. (missed d ne).0 x hit (cover d x too) in
      let clear_now : IsClear b.buffers c e = λ d x ne hit too. clear d x ne hit (sym (ap (λ (es : List Event). hits_any es x) (others d ne)) ∙ too) in
      let r = call_ahead b calls.0 u c e ahead clear_now calls.1 in
      let longer : events ≡ (done ++ e ∷ []) ++ todo = all ∙ sym (append_assoc done (e ∷ []) todo) in
      let joined : PlainlyLegal s0 (map (entry c) done ++ entry c e ∷ []) r.next = history-append PlainlyAllowed s0 u r.next
      (map (entry c) done) (entry c e ∷ []) legal (r.next, r.allowed, refl) in
      let legal_now : PlainlyLegal s0 (map (entry c) (done ++ e ∷ [])) r.next = subst (λ (es : List Entry). PlainlyLegal s0 es r.next)
      (sym (map-append (entry c) done (e ∷ []))) joined in
      walk todo (done ++ e ∷ []) calls.0 r.next t longer legal_now
      (λ d ne. misses-last (lacks d) done e (miss d ne) (missed d ne))
      r.ahead (λ d ne. r.others d ne ∙ others d ne) calls.2

-- ---- the CPU's own buffer after calls none of which is a store: drained, or as it was
abbrev pub OwnCalls : Buffered → Buffered → Plain → Plain → ℕ → Type 0
OwnCalls b t s next c = (t.buffers c ≡ []) ⊎ ((t.buffers c ≡ b.buffers c) ×
    ((lacking : List Event) (l : Plain) → IsBehind c lacking l s → IsBehind c lacking l next))

own_drained : (b m : Buffered) (c : ℕ) (e : Event) → (d : Buffered) → Drains b c d → AsksMemory d c e m → m.buffers c ≡ []
own_drained b m c e d drains asks = ap (λ (z : Buffered). z.buffers c) asks.2 ∙ ap (λ (z : Buffered). z.buffers c) drains.2 ∙ put-same b.buffers c c [] refl

own_call : (b m : Buffered) (s s1 : Plain) (c : ℕ) (e : Event) → is_store e ≡ false → Calls b c e m → PlainlyAllowed s c e s1 → OwnCalls b m s s1 c
own_call b m s s1 c (Load a size found) it call allowed = inr (
  ap (λ (z : Buffered). z.buffers c) call.3,
  λ lacking l behind.
      own_load_behind c lacking l s s1 a size found behind allowed,
)
own_call b m s s1 c (Store a size x) it call allowed = absurd cc
own_call b m s s1 c (Lookup k key found) it call allowed = inr (
  ap (λ (z : Buffered). z.buffers c) call.2,
  λ lacking l behind.
      own_lookup_behind c lacking l s s1 k key found behind allowed,
)
own_call b m s s1 c (Update k key bytes flags Invalid) it call allowed = inr
    (ap (λ (z : Buffered). z.buffers c) call.2, λ lacking l behind. own_refused_behind c lacking l s s1 k flags key bytes behind allowed)
own_call b m s s1 c e it call allowed = inl (own_drained b m c e call.0 call.1 call.2)

pub own_calls : (c : ℕ) (events : List Event) (b t : Buffered) (s next : Plain) → AreNot is_store events → CallsAll b c events t →
    PlainlyLegal s (map (entry c) events) next → OwnCalls b t s next c
own_calls c [] b t s next none calls legal = inr (ap (λ (z : Buffered). z.buffers c) calls, λ lacking l behind. subst (IsBehind c lacking l) legal behind)
own_calls c (e ∷ es) b t s next none calls legal =
    join (own_call b calls.0 s legal.0 c e none.0 calls.1 legal.1) (own_calls c es calls.0 t legal.0 next none.1 calls.2 legal.2)
  where
    join : OwnCalls b calls.0 s legal.0 c → OwnCalls calls.0 t legal.0 next c → OwnCalls b t s next c
    join first (inl none) = inl none
    join (inl none) (inr rest) = inl (rest.0 ∙ none)
    join (inr first) (inr rest) = inr (rest.0 ∙ first.0, λ lacking l behind. rest.1 lacking l (first.1 lacking l behind))

-- ---- and after loads and stores: the stores wait at its end
abbrev pub stores_of : List Event → List Event
stores_of [] = []
stores_of (Store a size x ∷ es) = Store a size x ∷ stores_of es
stores_of (e ∷ es) = stores_of es

own_stores : (c : ℕ) (events : List Event) (b t : Buffered) → AreNot is_call events → CallsAll b c events t → t.buffers c ≡ b.buffers c ++ stores_of events
own_stores c [] b t none calls = ap (λ (z : Buffered). z.buffers c) calls ∙ sym (append-nil (b.buffers c))
own_stores c (Load a size found ∷ es) b t none (m, call, rest) =
    own_stores c es m t none.1 rest ∙ ap (λ (z : Buffered). z.buffers c ++ stores_of es) call.3
own_stores c (Store a size x ∷ es) b t none (m, call, rest) =
    let e : Event = Store a size x in
    own_stores c es m t none.1 rest
    ∙ ap (λ (fs : List Event). fs ++ stores_of es) (ap (λ (z : Buffered). z.buffers c) call.4 ∙ put-same b.buffers c c (b.buffers c ++ e ∷ []) refl)
    ∙ append_assoc (b.buffers c) (e ∷ []) (stores_of es)
own_stores c (e ∷ es) b t none calls = let no : true ≡ false = none.0 in cc

-- ---- a step
pub data OwnStep (program : Loaded) (b t : Buffered) (s next : Plain) (c : ℕ) (old : Cpu) (left : ℕ) : Type 0 where
  Drained : t.buffers c ≡ [] → OwnStep program b t s next c old left
  Kept : t.buffers c ≡ b.buffers c → ((lacking : List Event) (l : Plain) → IsBehind c lacking l s → IsBehind c lacking l next) → OwnStep
      program b t s next c old left
  Stored : (made : List Event) (n : ℕ) (answer : Progress) (new : Cpu) → left ≡ suc n → Step s.shape program old made answer new → AreNot
      is_call made → PlainlyLegal s (map (entry c) made) next
      → t.buffers c ≡ b.buffers c ++ stores_of made → OwnStep program b t s next c old left

pub record Advanced (lacks : ℕ → List Event) (program : Loaded) (c : ℕ) (b : Buffered) (s : Plain) (old : Cpu) (left : ℕ)
    (end : Option Outcome) (t : Buffered) (new : Cpu) (rest : ℕ) : Type 0 where
  pub next : Plain
  pub advances : plain.Advances program c s old left end next new rest
  pub ahead : IsAhead t next
  pub others : (d : ℕ) → d ≢ c → t.buffers d ≡ b.buffers d
  pub misses : (d : ℕ) → d ≢ c → AdvanceMisses (lacks d) program c s old left end next new rest advances
  pub own : OwnStep program b t s next c old left

-- what judges each step that may come
abbrev pub JudgeStep : (ℕ → List Event) → Loaded → ℕ → Plain → Cpu → ℕ → Type 0
JudgeStep lacks program c s old left = (n : ℕ) → left ≡ suc n → (events : List Event) (answer : Progress) (new : Cpu) → Step s.shape program
    old events answer new → Judge lacks s c events

pub advance_ahead : (lacks : ℕ → List Event) (program : Loaded) (c : ℕ) (b : Buffered) (s : Plain) (old : Cpu) (left : ℕ)
    (end : Option Outcome) (t : Buffered) (new : Cpu) (rest : ℕ) → IsAhead b s → CoversBuffers lacks b → JudgeStep lacks program c s old left
    → Advances program c b old left end t new rest → Advanced lacks program c b s old left end t new rest
advance_ahead lacks program c b s old zero end t new rest ahead cover judge a = record {
  next = s;
  advances = (a.0, refl, a.2, a.3);
  ahead = subst (λ (z : Buffered). IsAhead z s) (sym a.1) ahead;
  others = λ d ne. ap (λ (z : Buffered). z.buffers d) a.1;
  misses = λ d ne. tt;
  own = Kept (ap (λ (z : Buffered). z.buffers c) a.1) (λ lacking l behind. behind);
}
advance_ahead lacks program c b s old (suc n) end t new rest ahead cover judge a =
    let shape : b.memory.shape ≡ s.shape = sym (ap (λ (z : Plain). z.shape) ahead.like.same) in
    let step : Step s.shape program old a.0 a.1 new = subst (λ (h : Shape). Step h program old a.0 a.1 new) shape a.2 in
    let w = walk lacks b s c a.0 cover (judge n refl a.0 a.1 new step) a.0 [] b s t refl refl (λ d ne. tt) ahead (λ d ne. refl) a.3 in
    record {
      next = w.next;
      advances = (a.0, a.1, step, w.legal, a.4, a.5);
      ahead = w.ahead;
      others = w.others;
      misses = w.misses;
      own = owned w.next w.legal (stores_apart s.shape program old new a.0 a.1 step) step;
    }
  where
    from : (next : Plain) → OwnCalls b t s next c → OwnStep program b t s next c old (suc n)
    from next (inl none) = Drained none
    from next (inr kept) = Kept kept.0 kept.1

    owned : (next : Plain) → PlainlyLegal s (map (entry c) a.0) next → (AreNot is_store a.0 ⊎ AreNot is_call a.0) → Step s.shape program old
        a.0 a.1 new → OwnStep program b t s next c old (suc n)
    owned next legal (inl none) step = from next (own_calls c a.0 b t s next none a.3 legal)
    owned next legal (inr none) step = Stored a.0 n a.1 new refl step none legal (own_stores c a.0 b t none a.3)
