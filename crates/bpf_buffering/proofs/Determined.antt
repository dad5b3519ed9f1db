-- A move of the x86 machine has one course, and so has a schedule of moves.
use Rattle.std.proofs.Common.{◌≡◌, ◌≢◌, ℕ, zero, suc, ◌≤◌, Bool, true, false, List, [], ◌∷◌, ◌++◌, length, Option, Some, None, inl, inr}
use Rattle.std.proofs.Common.{refl, sym, ap, subst, ◌∙◌}
use Rattle.std.specs.Prelude.{map, nat_lt, not, ◌&&◌, ◌==◌, if◌then◌else◌}
use Rattle.std.specs.FinMap.{len}
use Rattle.bpf_shared.specs.declared.shapes.MapShape.{MapShape}
use Rattle.bpf_shared.specs.First.{first_of}
use Rattle.bpf_shared.specs.Events.{refusals, has_key}
use Rattle.bpf_shared.specs.Laws.{asked, CallsHaveOneReply}
use Rattle.bpf_shared.specs.declared.events.Event.{Event}
use Rattle.bpf_shared.specs.declared.events.Event.TheVariants.{Begin, End, Lookup, Update, Delete, Keys, Load, Store, Atomic}
use Rattle.bpf_shared.specs.declared.events.MapAnswer.{MapAnswer}
use Rattle.bpf_shared.specs.declared.events.MapAnswer.TheVariants.{Done, Invalid, Busy, Exists, Absent, Full, NoMemory}
use Rattle.bpf_shared.specs.Store.{Plain, put}
use Rattle.bpf_shared.specs.Choice.{PlainlyAllowed}
use Rattle.bpf_shared.specs.History.{PlainlyLegal, entry}
use Rattle.bpf_shared.specs.Sound.{IsSoundStore}
use Rattle.bpf_shared.proofs.Soundness.{allowed_sound, plainly_sound}
use Rattle.bpf_loader.specs.Loaded.{Loaded}
use Rattle.bpf_loader.specs.Laws.{OneInstructionBegins}
use Rattle.bpf_mem.specs.Laws.{IsMemory, WritesAreDetermined}
use Rattle.bpf_helpers.specs.Laws.{AreAskedAlike}
use Rattle.bpf_cpu.specs.declared.cpu.Cpu.{Cpu}
use Rattle.bpf_cpu.specs.declared.input.Input.{Input}
use Rattle.bpf_cpu.specs.Input.{IsShort}
use Rattle.bpf_cpu.specs.declared.outcome.Progress.{Progress}
use Rattle.bpf_cpu.specs.declared.outcome.Outcome.{Outcome}
use Rattle.bpf_cpu.specs.State.{start}
use Rattle.bpf_cpu.specs.Task.{Stage, Task, Waiting, InHand, Ended}
use Rattle.bpf_cpu.proofs.Asking.{asks-first, asks-behind, asks-end, asks-end'}
use Rattle.bpf_cpu.proofs.DeterminedRuns.{start_memory, step_agrees}
use Rattle.bpf_machine.specs.declared.machine.Turn.{Turn}
use Rattle.bpf_machine.specs.Hands.{IsAt, with_stage}
use Rattle.bpf_machine.specs.Schedule.{World, outcome_after, Lists, Settles}
use Rattle.bpf_machine.proofs.ListLaws.{lists_jobs, lists_store, one_list}
use Rattle.bpf_machine.proofs.DeterminedTurns.{IsWorld, Changed, Same, Other, changed, same_stage, same_lowest, fresh_world}
use Rattle.bpf_x86.specs.Buffers.{Buffered, Sees, Flushes, Drains, AsksMemory, Calls, CallsAll}
use Rattle.bpf_x86.specs.Machine.{X86, buffered, with_buffered, Advances, Settled, GoesOn, TakesTurn, Move, TurnOf, FlushOf, Moves, RunsMoves, drained}
use Rattle.bpf_buffering.specs.Search.{MovesAreDetermined}

-- flags decide whether an update is refused for its flags
first_flag : (a b c d : Bool) → first_of ((Invalid, a) ∷ (Exists, b) ∷ (Absent, c) ∷ (Full, d) ∷ []) ≡ Some Invalid → a ≡ true
first_flag true b c d e = refl
first_flag false true c d e = let no : Some Exists ≡ Some Invalid = e in cc
first_flag false false true d e = let no : Some Absent ≡ Some Invalid = e in cc
first_flag false false false true e = let no : Some Full ≡ Some Invalid = e in cc
first_flag false false false false e = let no : None ≡ Some Invalid = e in cc

flagged : (s : Plain) (m : ℕ) (h : MapShape) (key : List ℕ) (flags : ℕ) → nat_lt 2 flags ≡ true → first_of (refusals s m h key flags) ≡ Some Invalid
flagged s m h key flags is = ap (λ (a : Bool). if a then Some Invalid else first_of
    ((Exists, (flags == 1) && has_key s m key) ∷ (Absent, (flags == 2) && not (has_key s m key)) ∷
    (Full, not (has_key s m key) && (len (s.maps m) == h.max)) ∷ [])) is

pub refused_alike : (d u : Plain) (c m : ℕ) (key bytes : List ℕ) (flags : ℕ) (answer : MapAnswer) → nat_lt 2 flags ≡ true → PlainlyAllowed d
    c (Update m key bytes flags answer) u → answer ≡ Invalid
refused_alike d u c m key bytes flags Invalid is q = refl
refused_alike d u c m key bytes flags Busy is q = absurd q.1
refused_alike d u c m key bytes flags Done is q = let no : Some Invalid ≡ None = sym (flagged d m q.0.1.0 key flags is) ∙ q.0.1.4.0 in cc
refused_alike d u c m key bytes flags NoMemory is q = let no : Some Invalid ≡ None = sym (flagged d m q.0.1.0 key flags is) ∙ q.0.1.4.0 in cc
refused_alike d u c m key bytes flags Exists is q = let no : Some Invalid ≡ Some Exists = sym (flagged d m q.0.1.0 key flags is) ∙ q.0.1.4.0 in cc
refused_alike d u c m key bytes flags Absent is q = let no : Some Invalid ≡ Some Absent = sym (flagged d m q.0.1.0 key flags is) ∙ q.0.1.4.0 in cc
refused_alike d u c m key bytes flags Full is q = let no : Some Invalid ≡ Some Full = sym (flagged d m q.0.1.0 key flags is) ∙ q.0.1.4.0 in cc

pub too_many : (s t : Plain) (c m : ℕ) (key bytes : List ℕ) (flags : ℕ) → PlainlyAllowed s c (Update m key bytes flags Invalid) t → nat_lt 2 flags ≡ true
too_many s t c m key bytes flags p = first_flag (nat_lt 2 flags) ((flags == 1) && has_key s m key) ((flags == 2) && not (has_key s m key))
    (not (has_key s m key) && (len (s.maps m) == p.0.1.0.max)) p.0.1.4.0

module _ (law : WritesAreDetermined) (begins : OneInstructionBegins) (replies : CallsHaveOneReply) where
  -- ---- what a CPU sees, and a drain
  same_history : (c : ℕ) (es : List Event) (s t u : Plain) → IsSoundStore s → PlainlyLegal s (map (entry c) es) t → PlainlyLegal s (map (entry c) es) u → t ≡ u
  same_history c [] s t u so a b = sym a ∙ b
  same_history c (e ∷ es) s t u so a b =
      let one = replies s a.0 b.0 c e e so a.1 b.1 refl in
      same_history c es a.0 t u (allowed_sound s a.0 c e so a.1.0) a.2 (subst (λ (m : Plain). PlainlyLegal m (map (entry c) es) u) (sym one.1) b.2)

  one_drain : (b d k : Buffered) (c : ℕ) → IsSoundStore b.memory → Drains b c d → Drains b c k → d ≡ k
  one_drain b d k c so p q =
      p.2 ∙ ap (λ (z : Plain). record { memory = z; buffers = put b.buffers c [] }) (same_history c (b.buffers c) b.memory p.0 q.0 so p.1 q.1) ∙ sym q.2

  drain_sound : (b d : Buffered) (c : ℕ) → IsSoundStore b.memory → Drains b c d → IsSoundStore d.memory
  drain_sound b d c so p = subst IsSoundStore (sym (ap (λ (z : Buffered). z.memory) p.2)) (plainly_sound b.memory p.0 (map (entry c) (b.buffers c)) so p.1)

  -- ---- a call
  asks_once : (b t u : Buffered) (c : ℕ) (e f : Event) → IsSoundStore b.memory → asked e ≡ asked f → AsksMemory b c e t → AsksMemory b c f u → (e ≡ f) × (t ≡ u)
  asks_once b t u c e f so same p q =
      let one = replies b.memory p.0 q.0 c e f so p.1 q.1 same in
      (one.0, p.2 ∙ ap (λ (z : Plain). record b { memory = z }) one.1 ∙ sym q.2)

  abbrev DrainsFirst : Buffered → ℕ → Event → Buffered → Type 0
  DrainsFirst b c e t = (d : Buffered) × Drains b c d × AsksMemory d c e t

  drains_once : (b t u : Buffered) (c : ℕ) (e f : Event) → IsSoundStore b.memory → asked e ≡ asked f → DrainsFirst b c e t → DrainsFirst b c
      f u → (e ≡ f) × (t ≡ u)
  drains_once b t u c e f so same p q =
      let one : p.0 ≡ q.0 = one_drain b p.0 q.0 c so p.1 q.1 in
      asks_once p.0 t u c e f (drain_sound b p.0 c so p.1) same p.2 (subst (λ (z : Buffered). AsksMemory z c f u) (sym one) q.2)

  load_once : (b t u : Buffered) (c : ℕ) (e f : Event) → IsSoundStore b.memory → asked e ≡ asked f →
      ((s : Plain) × Sees b c s × PlainlyAllowed s c e s × (t ≡ b)) → ((s : Plain) × Sees b c s × PlainlyAllowed s c f s × (u ≡ b)) →
      (e ≡ f) × (t ≡ u)
  load_once b t u c e f so same p q =
      let one : q.0 ≡ p.0 = same_history c (b.buffers c) b.memory q.0 p.0 so q.1 p.1 in
      let there : PlainlyAllowed p.0 c f p.0 = subst (λ (z : Plain). PlainlyAllowed z c f z) one q.2 in
      ((replies p.0 p.0 p.0 c e f (plainly_sound b.memory p.0 (map (entry c) (b.buffers c)) so p.1) p.2 there same).0, p.3 ∙ sym q.3)

  -- of two updates alike, one that is refused for its flags and one that drains
  mixed : (b t d u : Buffered) (c m n : ℕ) (key other bytes more : List ℕ) (flags flags' : ℕ) (answer : MapAnswer) → Update m key bytes
      flags Done ≡ Update n other more flags' Done → AsksMemory b c (Update m key bytes flags Invalid) t → AsksMemory d c
      (Update n other more flags' answer) u → answer ≡ Invalid
  mixed b t d u c m n key other bytes more flags flags' answer same p q =
      let one : flags ≡ flags' = cc in
      refused_alike d.memory q.0 c n other more flags' answer (ap (nat_lt 2) (sym one) ∙ too_many b.memory p.0 c m key bytes flags p.1) q.1

  pub one_call : (b t u : Buffered) (c : ℕ) (e f : Event) → IsSoundStore b.memory → asked e ≡ asked f → Calls b c e t → Calls b c f u → (e ≡ f) × (t ≡ u)
  one_call b t u c (Load a size x) (Load a' size' y) so same p q = load_once b t u c (Load a size x) (Load a' size' y) so same p q
  one_call b t u c (Store a size x) (Store a' size' y) so same p q =
      (same, p.4 ∙ ap (λ (e : Event). record b { buffers = put b.buffers c (b.buffers c ++ e ∷ []) }) same ∙ sym q.4)
  one_call b t u c (Lookup m key x) (Lookup n other y) so same p q = asks_once b t u c (Lookup m key x) (Lookup n other y) so same p q
  one_call b t u c (Update m key bytes flags Invalid) (Update n other more flags' Invalid) so same p q = asks_once b t u c
      (Update m key bytes flags Invalid) (Update n other more flags' Invalid) so same p q
  one_call b t u c (Update m key bytes flags Invalid) (Update n other more flags' y) so same p q =
      let no : y ≡ Invalid = mixed b t q.0 u c m n key other bytes more flags flags' y same p q.2 in cc
  one_call b t u c (Update m key bytes flags x) (Update n other more flags' Invalid) so same p q =
      let no : x ≡ Invalid = mixed b u p.0 t c n m other key more bytes flags' flags x (sym same) q p.2 in cc
  one_call b t u c (Update m key bytes flags x) (Update n other more flags' y) so same p q = drains_once b t u c
      (Update m key bytes flags x) (Update n other more flags' y) so same p q
  one_call b t u c Begin Begin so same p q = drains_once b t u c Begin Begin so same p q
  one_call b t u c End End so same p q = drains_once b t u c End End so same p q
  one_call b t u c (Delete m key x) (Delete n other y) so same p q = drains_once b t u c (Delete m key x) (Delete n other y) so same p q
  one_call b t u c (Keys m x) (Keys n y) so same p q = drains_once b t u c (Keys m x) (Keys n y) so same p q
  one_call b t u c (Atomic a size op operand expected x) (Atomic a' size' op' operand' expected' y) so same p q =
      drains_once b t u c (Atomic a size op operand expected x) (Atomic a' size' op' operand' expected' y) so same p q
  one_call b t u c e f so same p q = absurd cc

  drained_sound : (b t : Buffered) (c : ℕ) (e : Event) → IsSoundStore b.memory → DrainsFirst b c e t → IsSoundStore t.memory
  drained_sound b t c e so p = subst (λ (z : Buffered). IsSoundStore z.memory) (sym p.2.2)
      (allowed_sound p.0.memory p.2.0 c e (drain_sound b p.0 c so p.1) p.2.1.0)

  asked_sound : (b t : Buffered) (c : ℕ) (e : Event) → IsSoundStore b.memory → AsksMemory b c e t → IsSoundStore t.memory
  asked_sound b t c e so p = subst (λ (z : Buffered). IsSoundStore z.memory) (sym p.2) (allowed_sound b.memory p.0 c e so p.1.0)

  pub call_sound : (b t : Buffered) (c : ℕ) (e : Event) → IsSoundStore b.memory → Calls b c e t → IsSoundStore t.memory
  call_sound b t c (Load a size x) so p = subst (λ (z : Buffered). IsSoundStore z.memory) (sym p.3) so
  call_sound b t c (Store a size x) so p = subst (λ (z : Buffered). IsSoundStore z.memory) (sym p.4) so
  call_sound b t c (Lookup m key x) so p = asked_sound b t c (Lookup m key x) so p
  call_sound b t c (Update m key bytes flags Invalid) so p = asked_sound b t c (Update m key bytes flags Invalid) so p
  call_sound b t c e so p = drained_sound b t c e so p

  pub one_calls : (c : ℕ) (es fs : List Event) (b t u : Buffered) → IsSoundStore b.memory → AreAskedAlike es fs → CallsAll b c es t → CallsAll b
      c fs u → (es ≡ fs) × (t ≡ u)
  one_calls c [] [] b t u so alike p q = (refl, p ∙ sym q)
  one_calls c [] (f ∷ fs) b t u so alike p q = absurd (asks-end f fs alike)
  one_calls c (e ∷ es) [] b t u so alike p q = absurd (asks-end' e es alike)
  one_calls c (e ∷ es) (f ∷ fs) b t u so alike p q =
      let one = one_call b p.0 q.0 c e f so (asks-first e f es fs alike) p.1 q.1 in
      let rest = one_calls c es fs p.0 t u (call_sound b p.0 c e so p.1) (asks-behind e f es fs one.0 alike) p.2
      (subst (λ (z : Buffered). CallsAll z c fs u) (sym one.1) q.2) in
      let front : e ≡ f = one.0 in
      let back : es ≡ fs = rest.0 in
      (cc, rest.1)

  calls_sound : (c : ℕ) (es : List Event) (b t : Buffered) → IsSoundStore b.memory → CallsAll b c es t → IsSoundStore t.memory
  calls_sound c [] b t so p = subst (λ (z : Buffered). IsSoundStore z.memory) (sym p) so
  calls_sound c (e ∷ es) b t so p = calls_sound c es p.0 t (call_sound b p.0 c e so p.1) p.2

  -- ---- a step
  record OneAdvance (end last : Option Outcome) (t u : Buffered) (new other : Cpu) (left rest : ℕ) : Type 0 where
    pub ends : end ≡ last
    pub stores : t ≡ u
    pub states : new ≡ other
    pub lefts : left ≡ rest
    pub sound : IsSoundStore t.memory
    pub memory : IsMemory new.memory

  one_advance : (program : Loaded) (c : ℕ) (b : Buffered) (old : Cpu) (n : ℕ) (end last : Option Outcome) (t u : Buffered) (new other : Cpu)
      (left rest : ℕ) → IsSoundStore b.memory → IsMemory old.memory
      → Advances program c b old n end t new left → Advances program c b old n last u other rest → OneAdvance end last t u new other left rest
  one_advance program c b old zero end last t u new other left rest so memory p q = record {
    ends = p.0 ∙ sym q.0;
    stores = p.1 ∙ sym q.1;
    states = p.2 ∙ sym q.2;
    lefts = p.3 ∙ sym q.3;
    sound = subst (λ (z : Buffered). IsSoundStore z.memory) (sym p.1) so;
    memory = subst (λ (k : Cpu). IsMemory k.memory) (sym p.2) memory;
  }
  one_advance program c b old (suc n) end last t u new other left rest so memory p q =
      let agrees = step_agrees law begins b.memory.shape program old new other p.1 q.1 p.0 q.0 memory p.2 q.2 in
      let one = one_calls c p.0 q.0 b t u so agrees.asks p.3 q.3 in
      let same = agrees.replied one.0 in
      record {
        ends = p.4 ∙ ap (λ (progress : Progress). outcome_after progress n new) same.turns ∙ ap (outcome_after q.1 n) same.states ∙ sym q.4;
        stores = one.1;
        states = same.states;
        lefts = p.5 ∙ sym q.5;
        sound = calls_sound c p.0 b t so p.3;
        memory = same.sound;
      }

  -- ---- it stays in hand, or ends
  record OneSettled (w : World) (c j : ℕ) (task : Task) (answer other : Turn) (y z : X86) : Type 0 where
    pub answers : answer ≡ other
    pub machines : y ≡ z
    pub sound : IsSoundStore y.world.store
    pub stage : Stage
    pub kept : (state : Cpu) (left : ℕ) → stage ≡ InHand state left → IsMemory state.memory
    pub waits_not : (input : Input) → stage ≡ Waiting input → ⊥
    pub jobs : y.world.jobs ≡ with_stage w.jobs j task stage

  same_machine : (y z : X86) → y.world ≡ z.world → y.buffers ≡ z.buffers → y ≡ z
  same_machine y z worlds buffers = ap (λ (w : World). record { world = w; buffers = y.buffers }) worlds ∙ ap
      (λ (f : ℕ → List Event). record { world = z.world; buffers = f }) buffers

  one_settled : (x : X86) (c j : ℕ) (task : Task) (new : Cpu) (left : ℕ) (end : Option Outcome) (answer other : Turn) (y z : X86) →
      IsSoundStore x.world.store → IsMemory new.memory
      → Settled x c j task new left end answer y → Settled x c j task new left end other z → OneSettled x.world c j task answer other y z
  one_settled x c j task new left None answer other y z so memory p q = record {
    answers = p.0.0 ∙ sym q.0.0;
    machines = same_machine y z (p.0.1 ∙ sym q.0.1) (p.1 ∙ sym q.1);
    sound = subst (λ (w : World). IsSoundStore w.store) (sym p.0.1) so;
    stage = InHand new left;
    kept = λ state rest e. let same : new ≡ state = cc in subst (λ (k : Cpu). IsMemory k.memory) same memory;
    waits_not = λ input e. cc;
    jobs = ap (λ (w : World). w.jobs) p.0.1;
  }
  one_settled x c j task new left (Some end) answer other y z so memory p q =
      let d : Buffered = p.0 in
      let drains : q.0 ≡ d = one_drain (buffered x) q.0 d c so q.1 p.1 in
      let so_d : IsSoundStore d.memory = drain_sound (buffered x) d c so p.1 in
      let there : Settles (with_buffered x d).world c j task new left (Some end) other z.world = subst
      (λ (k : Buffered). Settles (with_buffered x k).world c j task new left (Some end) other z.world) drains q.2 in
      let one = replies d.memory p.2.0 there.0 c End End so_d p.2.1 there.1 refl in
      let m : World = ended p.2.0 in
      let lists : Lists m c z.world = subst (λ (s : Plain). Lists (ended s) c z.world) (sym one.1) there.3 in
      record {
        answers = p.2.2 ∙ sym q.2.2;
        machines = same_machine y z (one_list m c y.world z.world p.2.3 lists) (p.3 ∙ ap (λ (k : Buffered). k.buffers) (sym drains) ∙ sym q.3);
        sound = subst IsSoundStore (sym (lists_store m c y.world p.2.3)) (allowed_sound d.memory p.2.0 c End so_d p.2.1.0);
        stage = Ended end;
        kept = λ state rest e. cc;
        waits_not = λ input e. cc;
        jobs = lists_jobs m c y.world p.2.3;
      }
    where
      ended : Plain → World
      ended s = record x.world { store = s; jobs = with_stage x.world.jobs j task (Ended end) }

  one_going : (x : X86) (c j : ℕ) (task : Task) (old : Cpu) (left : ℕ) (answer other : Turn) (y z : X86) → IsSoundStore x.world.store → IsMemory old.memory
      → GoesOn x c j task old left answer y → GoesOn x c j task old left other z → OneSettled x.world c j task answer other y z
  one_going x c j task old left answer other y z so memory a b =
      let listed : Some a.0 ≡ Some b.0 = sym a.5 ∙ b.5 in
      let program : b.0 ≡ a.0 = cc in
      let one = one_advance a.0 c (buffered x) old left a.1 b.1 a.2 b.2 a.3 b.3 a.4 b.4 so memory a.6
      (subst (λ (p : Loaded). Advances p c (buffered x) old left b.1 b.2 b.3 b.4) program b.6) in
      let settles =
      subst (λ (rest : ℕ). Settled (with_buffered x a.2) c j task a.3 rest a.1 other z) (sym one.lefts)
      (subst (λ (new : Cpu). Settled (with_buffered x a.2) c j task new b.4 a.1 other z) (sym one.states)
      (subst (λ (k : Buffered). Settled (with_buffered x k) c j task b.3 b.4 a.1 other z) (sym one.stores)
      (subst (λ (end : Option Outcome). Settled (with_buffered x b.2) c j task b.3 b.4 end other z) (sym one.ends) b.7))) in
      let settled = one_settled (with_buffered x a.2) c j task a.3 a.4 a.1 answer other y z one.sound one.memory a.7 settles in
      record {
        answers = settled.answers;
        machines = settled.machines;
        sound = settled.sound;
        stage = settled.stage;
        kept = settled.kept;
        waits_not =
            settled.waits_not;
        jobs = settled.jobs;
      }

  -- ---- a machine after a turn of a CPU on its job: it has no other in hand
  going_world : {answer other : Turn} (w : World) (c j : ℕ) (task : Task) (before : Stage) (y z : X86) → IsWorld w → IsAt w.jobs c j task before
      → ((k : ℕ) (t : Task) (state : Cpu) (left : ℕ) → k ≢ j → IsAt w.jobs c k t (InHand state left) → ⊥) → OneSettled w c j task answer other y z
      → IsWorld y.world
  going_world w c j task before y z world at alone settled = record {
    store = settled.sound;
    memory = λ d k t state left h. memory d k t state left (seen d k t (InHand state left) h);
    one = λ d k l t u state now left rest g h. one d k l t u state now left rest (seen d k t (InHand state left) g) (seen d l u (InHand now rest) h);
    short = λ d k t input h. short d k t input (seen d k t (Waiting input) h);
  }
    where
      seen : (d k : ℕ) (t : Task) (now : Stage) → IsAt y.world.jobs d k t now → Changed w.jobs c j settled.stage d k t now
      seen d k t now h = changed w.jobs c j task before settled.stage d k t now at (subst (λ (jobs : List Task). IsAt jobs d k t now) settled.jobs h)

      memory : (d k : ℕ) (t : Task) (state : Cpu) (left : ℕ) → Changed w.jobs c j settled.stage d k t (InHand state left) → IsMemory state.memory
      memory d k t state left (Same e of now) = settled.kept state left (sym now)
      memory d k t state left (Other ne h) = world.memory d k t state left h

      short : (d k : ℕ) (t : Task) (input : Input) → Changed w.jobs c j settled.stage d k t (Waiting input) → IsShort input
      short d k t input (Same e of now) = absurd (settled.waits_not input (sym now))
      short d k t input (Other ne h) = world.short d k t input h

      only : (d l : ℕ) (u : Task) (now : Cpu) (rest : ℕ) → d ≡ c → l ≢ j → IsAt w.jobs d l u (InHand now rest) → ⊥
      only d l u now rest of ne h = alone l u now rest ne (subst (λ (n : ℕ). IsAt w.jobs n l u (InHand now rest)) of h)

      one : (d k l : ℕ) (t u : Task) (state now : Cpu) (left rest : ℕ) → Changed w.jobs c j settled.stage d k t (InHand state left) →
          Changed w.jobs c j settled.stage d l u (InHand now rest) → k ≡ l
      one d k l t u state now left rest (Same e of is) (Same f at is') = e ∙ sym f
      one d k l t u state now left rest (Same e of is) (Other ne h) = absurd (only d l u now rest of ne h)
      one d k l t u state now left rest (Other ne h) (Same f of is) = absurd (only d k t state left of ne h)
      one d k l t u state now left rest (Other ne h) (Other apart i) = world.one d k l t u state now left rest h i

  -- ---- a turn
  abbrev pub OneMove : X86 → X86 → Type 0
  OneMove y z = (y ≡ z) × IsWorld y.world

  pub one_turn : (x : X86) (c : ℕ) (answer other : Turn) (y z : X86) → IsWorld x.world → TakesTurn x c answer y → TakesTurn x c other z
      → (answer ≡ other) × OneMove y z
  one_turn x c answer other y z world (inl (j, task, state, left, at, goes)) (inl (k, t, now, rest, at', goes')) =
      let jobs : k ≡ j = world.one c k j t task now state rest left at' at in
      let there : IsAt x.world.jobs c j t (InHand now rest) = subst (λ (n : ℕ). IsAt x.world.jobs c n t (InHand now rest)) jobs at' in
      let same = same_stage x.world.jobs c j t task (InHand now rest) (InHand state left) there at in
      let stages : InHand now rest ≡ InHand state left = same.1 in
      let states : now ≡ state = cc in
      let lefts : rest ≡ left = cc in
      let going =
      subst (λ (n : ℕ). GoesOn x c j task state n other z) lefts
      (subst (λ (s : Cpu). GoesOn x c j task s rest other z) states
      (subst (λ (u : Task). GoesOn x c j u now rest other z) same.0
      (subst (λ (n : ℕ). GoesOn x c n t now rest other z) jobs goes'))) in
      let settled = one_going x c j task state left answer other y z world.store (world.memory c j task state left at) goes going in (
        settled.answers,
        (
          settled.machines,
          going_world x.world c j task (InHand state left) y z world at
              (λ n u s l ne h. ne (world.one c n j u task s state l left h at)) settled,
        ),
      )
  one_turn x c answer other y z world (inl a) (inr (inl b)) = absurd (b.0 a.0 a.1 a.2 a.3 a.4)
  one_turn x c answer other y z world (inl a) (inr (inr b)) = absurd (b.0 a.0 a.1 a.2 a.3 a.4)
  one_turn x c answer other y z world (inr (inl a)) (inl b) = absurd (a.0 b.0 b.1 b.2 b.3 b.4)
  one_turn x c answer other y z world (inr (inl (free, (j, task, input, b, at, lowest, begun, goes))))
      (inr (inl (free', (k, t, more, d, at', lowest', begun', goes')))) =
      let jobs : k ≡ j = same_lowest law begins replies x.world.jobs c j k task t input more at lowest at' lowest' in
      let there : IsAt x.world.jobs c j t (Waiting more) = subst (λ (n : ℕ). IsAt x.world.jobs c n t (Waiting more)) jobs at' in
      let same = same_stage x.world.jobs c j t task (Waiting more) (Waiting input) there at in
      let stages : Waiting more ≡ Waiting input = same.1 in
      let inputs : more ≡ input = cc in
      let stores : d ≡ b = (one_call (buffered x) d b c Begin Begin world.store refl begun' begun).1 in
      let going =
      subst (λ (k : Buffered). GoesOn (with_buffered x k) c j task (start c input) task.budget other z) stores
      (subst (λ (i : Input). GoesOn (with_buffered x d) c j task (start c i) task.budget other z) inputs
      (subst (λ (u : Task). GoesOn (with_buffered x d) c j u (start c more) u.budget other z) same.0
      (subst (λ (n : ℕ). GoesOn (with_buffered x d) c n t (start c more) t.budget other z) jobs goes'))) in
      let sound : IsSoundStore b.memory = call_sound (buffered x) b c Begin world.store begun in
      let here : IsWorld (with_buffered x b).world = record { store = sound; memory = world.memory; one = world.one; short = world.short } in
      let settled = one_going (with_buffered x b) c j task (start c input) task.budget answer other y z sound
      (start_memory c input (world.short c j task input at)) goes going in
      (settled.answers, (settled.machines, going_world (with_buffered x b).world c j task (Waiting input) y z here at (λ n u s l ne h. free n u s l h) settled))
  one_turn x c answer other y z world (inr (inl (free, a))) (inr (inr b)) = absurd (b.1 a.0 a.1 a.2 a.4)
  one_turn x c answer other y z world (inr (inr a)) (inl b) = absurd (a.0 b.0 b.1 b.2 b.3 b.4)
  one_turn x c answer other y z world (inr (inr a)) (inr (inl (free, b))) = absurd (a.1 b.0 b.1 b.2 b.4)
  one_turn x c answer other y z world (inr (inr a)) (inr (inr b)) = (a.2 ∙ sym b.2, (a.3 ∙ sym b.3, subst (λ (v : X86). IsWorld v.world) (sym a.3) world))

  -- ---- a flush
  one_flush : (b t u : Buffered) (c : ℕ) → IsSoundStore b.memory → Flushes b c t → Flushes b c u → (t ≡ u) × IsSoundStore t.memory
  one_flush b t u c so p q =
      let both : p.0 ∷ p.1 ≡ q.0 ∷ q.1 = sym p.3 ∙ q.3 in
      let first : q.0 ≡ p.0 = cc in
      let rest : p.1 ≡ q.1 = cc in
      let one = replies b.memory p.2 q.2 c p.0 p.0 so p.4 (subst (λ (e : Event). PlainlyAllowed b.memory c e q.2) first q.4) refl in (
        p.5 ∙ ap (λ (z : Plain). record { memory = z; buffers = put b.buffers c p.1 }) one.1 ∙ ap
            (λ (es : List Event). record { memory = q.2; buffers = put b.buffers c es }) rest ∙ sym q.5,
        subst (λ (z : Buffered). IsSoundStore z.memory) (sym p.5) (allowed_sound b.memory p.2 c p.0 so p.4.0),
      )

  pub one_move : (x : X86) (move : Move) (y z : X86) → IsWorld x.world → Moves x move y → Moves x move z → OneMove y z
  one_move x (TurnOf c) y z world p q = (one_turn x c p.0 q.0 y z world p.1 q.1).1
  one_move x (FlushOf c) y z world p q =
      let one = one_flush (buffered x) p.0 q.0 c world.store p.1 q.1 in
      let flushed : IsWorld (with_buffered x p.0).world = record { store = one.1; memory = world.memory; one = world.one; short = world.short } in
      (p.2 ∙ ap (with_buffered x) one.0 ∙ sym q.2, subst (λ (v : X86). IsWorld v.world) (sym p.2) flushed)

  -- ---- schedules of moves
  one_run : (moves : List Move) (x y z : X86) → IsWorld x.world → RunsMoves x moves y → RunsMoves x moves z → y ≡ z
  one_run [] x y z world p q = p ∙ sym q
  one_run (move ∷ moves) x y z world p q =
      let one = one_move x move p.0 q.0 world p.1 q.1 in
      one_run moves p.0 y z one.1 p.2 (subst (λ (v : X86). RunsMoves v moves z) (sym one.0) q.2)

  pub moves_are_determined : MovesAreDetermined
  moves_are_determined w moves y z fresh p q = one_run moves (drained w) y z (fresh_world law begins replies w fresh) p q
