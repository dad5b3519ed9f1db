-- States of a machine that are kept.
use Rattle.std.proofs.Common.{◌≡◌, ℕ, zero, suc, ◌<◌, ◌≤◌, Bool, List, [], ◌∷◌, length, Option, Some, None, inr, refl, sym, ap, subst, ◌∙◌, arith}
use Rattle.std.specs.Prelude.{Vec, map, nat_lt, slice_get, slice_index_or}
use Rattle.std.specs.declared.alloc.Global.{Global}
use Rattle.std.proofs.lemmas.Bool.{ltb-true, ltb-false, le-ltb}
use Rattle.std.proofs.lemmas.List.{length-map}
use Rattle.bpf_shared.specs.declared.events.Event.{Event}
use Rattle.bpf_shared.specs.declared.events.Span.{Span}
use Rattle.bpf_shared.specs.Shape.{Shape}
use Rattle.bpf_hash.proofs.HeldAlike.{held_alike}
use Rattle.bpf_plain.specs.PlainStore.{Contents, IsMade, IsSavedAs, has_cpu, held_spans, shape_of}
use Rattle.bpf_plain.specs.Alike.{IsSameShape, LookAlike}
use Rattle.bpf_plain.proofs.Alike.{alike_stand_alike}
use Rattle.bpf_plain.proofs.SavedAlike.{saved_alike_look_alike}
use Rattle.bpf_loader.specs.Loaded.{Loaded}
use Rattle.bpf_helpers.specs.Held.{AreHeld}
use Rattle.bpf_cpu.specs.declared.outcome.Outcome.{Outcome}
use Rattle.bpf_cpu.specs.Task.{Task}
use Rattle.bpf_machine.specs.declared.machine.Turn.TheVariants.{Idle}
use Rattle.bpf_machine.specs.Hands.{IsFree, NoneWaits}
use Rattle.bpf_machine.specs.Machine.{MachineState}
use Rattle.bpf_machine.specs.Parts.{IsSameHost}
use Rattle.bpf_x86.specs.Machine.{TurnOf, FlushOf}
use Rattle.bpf_buffering.specs.Search.{BufferedState, MovesTo, CannotMove, buffer_at}
use Rattle.bpf_buffering.specs.declared.waiting.Stored.{Stored}
use Rattle.bpf_buffering.specs.declared.jobs.Listed.{Listed}
use Rattle.bpf_buffering.specs.Waiting.{WaitingContents, AreWritable, CanWait, event_of}
use Rattle.bpf_buffering.specs.Jobs.{task_of, tasks_of}
use Rattle.bpf_buffering.specs.Buffering.{events_of_all, state_of, Stands, IsBuffering, answer_of}
use Rattle.bpf_buffering.specs.Private.Kept.{state_with, with_store, IsBoard, ShowsAsMuch}
use Rattle.bpf_buffering.proofs.Flushing.{cannot_flush}
use Rattle.bpf_buffering.proofs.Waits.{items_of}

-- ---- hosts
pub same_shape : (p : Contents) → IsSameShape p p
same_shape p = (λ c. refl, refl)

pub same_host : (m : MachineState) → IsSameHost m m
same_host m = record { programs = refl; jobs = refl; shape = same_shape m.store; lists = λ none. none }

pub host_then : (a b c : MachineState) → IsSameHost a b → IsSameHost b c → IsSameHost a c
host_then a b c p q = record {
  programs = q.programs ∙ p.programs;
  jobs = q.jobs ∙ p.jobs;
  shape = (λ d. q.shape.0 d ∙ p.shape.0 d, q.shape.1 ∙ p.shape.1);
  lists = λ none. q.lists (p.lists none);
}

-- a store that is made with the shape of one that is saved
pub made_same : (h : Shape) (p q : Contents) (bytes : List ℕ) → IsSavedAs p bytes → h ≡ shape_of p → IsMade h q → IsSameShape p q
made_same h p q bytes saved shape made = (
  λ c. made.serves c ∙ ap (λ (g : Shape). nat_lt c g.cpus) shape ∙ sym (saved.0.cpus c),
  made.shape ∙ shape,
)

-- ---- what a machine is made of
events_of_items : (bs : List (Vec Stored Global)) → events_of_all bs ≡ map (map event_of) (map items_of bs)
events_of_items [] = refl
events_of_items (b ∷ bs) = ap (λ (es : List (List Event)). map event_of b.items ∷ es) (events_of_items bs)

module _ (w : WaitingContents) (programs : List Loaded) (jobs : List Listed) (buffers : List (Vec Stored Global)) where
  pub state_is : state_of w programs jobs buffers ≡ state_with w.store programs (tasks_of jobs) (map items_of buffers)
  state_is = ap (λ (es : List (List Event)). record {
    machine = record { store = w.store; programs = programs; jobs = tasks_of jobs; lists = None };
    buffers = es;
  }) (events_of_items buffers)

  pub board_of : IsBuffering w programs jobs buffers → IsBoard w.store programs (tasks_of jobs) (map items_of buffers)
  board_of is = record {
    stands = is.stands;
    cpus = λ c. is.cpus c ∙ ap (nat_lt c) (sym (length-map buffers items_of));
    each = is.each;
  }

  pub buffering_of : w.waiting ≡ [] → IsBoard w.store programs (tasks_of jobs) (map items_of buffers) → IsBuffering w programs jobs buffers
  buffering_of none is = record {
    stands = is.stands;
    put_back = none;
    cpus = λ c. is.cpus c ∙ ap (nat_lt c) (length-map buffers items_of);
    each = is.each;
  }

-- ---- a store that looks like the machine's
module _ (p q : Contents) (alike : LookAlike p q) where
  held_same : (c : ℕ) → held_spans q c ≡ held_spans p c
  held_same c = λ k x. held_alike p.maps q.maps alike.maps c x k

  serves : (c : ℕ) → has_cpu q c ≡ has_cpu p c
  serves c = ap (λ (n : ℕ). nat_lt c n) alike.maps.cpus

  stands_too : (programs : List Loaded) (jobs : List Task) (buffers : List (List Stored)) → Stands
      (state_with p programs jobs buffers).machine → Stands (state_with q programs jobs buffers).machine
  stands_too programs jobs buffers is = record {
    served = λ j task at. serves task.cpu ∙ is.served j task at;
    loaded = is.loaded;
    hand = λ c j task state left at. (let f = is.hand c j task state left at in record {
      number = f.number;
      program = f.program;
      loaded = f.loaded;
      ready = f.ready;
      held = subst (λ (h : Span → Bool). AreHeld h state.held) (sym (held_same c)) f.held;
      runs = alike.maps.running c ∙ f.runs;
    });
    one = is.one;
    idle = λ c free. alike.maps.running c ∙ is.idle c free;
  }

  waits_too : (c : ℕ) (es : List Stored) → CanWait p c es → CanWait q c es
  waits_too c es is = record {
    writable = subst (λ (h : Shape). AreWritable h (held_spans q c) es) (sym alike.shape)
        (subst (λ (f : Span → Bool). AreWritable (shape_of p) f es) (sym (held_same c)) is.writable);
    idle = λ rests. is.idle (sym (alike.maps.running c) ∙ rests);
  }

  pub board_too : (programs : List Loaded) (jobs : List Task) (buffers : List (List Stored)) → IsBoard p programs jobs buffers → IsBoard q
      programs jobs buffers
  board_too programs jobs buffers is = record {
    stands = stands_too programs jobs buffers is.stands;
    cpus = λ c. serves c ∙ is.cpus c;
    each = λ c. waits_too c (slice_index_or buffers c []) (is.each c);
  }

-- it shows all that the machine shows
pub shows_with : (m : BufferedState) (q : Contents) → LookAlike m.machine.store q → ShowsAsMuch m (with_store m q)
shows_with m q alike x shows = record {
  world = record {
    store = alike_stand_alike m.machine.store q x.world.store alike shows.world.store;
    sound = shows.world.sound;
    programs = shows.world.programs;
    jobs = shows.world.jobs;
    lists = shows.world.lists;
  };
  buffers = shows.buffers;
}

pub shows_saved : (m : BufferedState) (q : Contents) (bytes : List ℕ) → IsSameShape m.machine.store q → IsSavedAs m.machine.store bytes →
    IsSavedAs q bytes → ShowsAsMuch m (with_store m q)
shows_saved m q bytes shape saved too = shows_with m q (saved_alike_look_alike m.machine.store q bytes shape saved too)

pub host_with : (m : BufferedState) (q : Contents) → IsSameShape m.machine.store q → IsSameHost m.machine (with_store m q).machine
host_with m q shape = record { programs = refl; jobs = refl; shape = shape; lists = λ none. none }

-- ---- a CPU that the machine doesn't have
none_there : (buffers : List (List Stored)) (c : ℕ) → length buffers ≤ c → buffer_at (map (map event_of) buffers) c ≡ []
none_there [] c past = refl
none_there (b ∷ bs) zero past = absurd (omega arith)
none_there (b ∷ bs) (suc c) past = none_there bs c (omega arith)

module _ (store : Contents) (programs : List Loaded) (jobs : List Task) (buffers : List (List Stored))
    (board : IsBoard store programs jobs buffers) (n : ℕ) (has : (c : ℕ) → has_cpu store c ≡ nat_lt c n) (c : ℕ) (above : n ≤ c) where
  abbrev m : BufferedState
  m = state_with store programs jobs buffers

  beyond : length buffers ≤ c
  beyond = ltb-false c (length buffers) (sym (board.cpus c) ∙ has c ∙ le-ltb c n above)

  has_none : (j : ℕ) (task : Task) → slice_get m.machine.jobs j ≡ Some task → task.cpu ≡ c → ⊥
  has_none j task listed of =
      let below : task.cpu < n = ltb-true task.cpu n (sym (has task.cpu) ∙ board.stands.served j task listed) in
      absurd (omega arith)

  pub rests : MovesTo m (TurnOf c) m
  rests x shows =
      let listed : (j : ℕ) (task : Task) → slice_get x.world.jobs j ≡ Some task → slice_get m.machine.jobs j ≡ Some task = λ j task at. ap
      (λ (ts : List Task). slice_get ts j) (sym shows.world.jobs) ∙ at in
      let free : IsFree x.world.jobs c = λ j task state left at. has_none j task (listed j task at.listed) at.of in
      let none : NoneWaits x.world.jobs c = λ j task input at. has_none j task (listed j task at.listed) at.of in
      (x, (Idle, inr (inr (free, none, refl, refl))), shows)

  pub none_flushes : CannotMove m (FlushOf c)
  none_flushes = cannot_flush m c (none_there buffers c beyond)

-- ---- what goes on stays of its host
pub host_through : (w h k z : WaitingContents) (programs : List Loaded) (jobs jobs' : List Listed)
    (buffers buffers' : List (Vec Stored Global)) → h.store ≡ w.store → shape_of k.store ≡ shape_of h.store → has_cpu k.store ≡ has_cpu
    h.store → z.store ≡ k.store → length jobs' ≡ length jobs
    → IsSameHost (state_of w programs jobs buffers).machine (state_of z programs jobs' buffers').machine
host_through w h k z programs jobs jobs' buffers buffers' first shape serves last count = record {
  programs = refl;
  jobs = length-map jobs' task_of ∙ count ∙ sym (length-map jobs task_of);
  shape = (
    λ d. ap (λ (s : Contents). has_cpu s d) last ∙ ap (λ (f : ℕ → Bool). f d) serves ∙ ap (λ (s : Contents). has_cpu s d) first,
    ap shape_of last ∙ shape ∙ ap shape_of first,
  );
  lists = λ none. none;
}

-- a turn in which a job goes on isn't idle
pub not_idle : (j : ℕ) (end : Option Outcome) → answer_of j end ≡ Idle → ⊥
not_idle j None is = cc
not_idle j (Some end) is = cc
