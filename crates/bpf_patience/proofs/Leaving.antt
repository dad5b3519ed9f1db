-- What a CPU's moves leave to the others: each can make its stores still.
use Rattle.std.proofs.Common.{◌≡◌, ◌≢◌, ◌∙◌, ℕ, zero, suc, Bool, true, false, List, [], ◌∷◌, ◌++◌, Option, Some, None, inl, inr, refl, sym, ap, subst}
use Rattle.std.proofs.Common.{append-nil, append_assoc}
use Rattle.std.specs.Prelude.{map}
use Rattle.std.specs.FinMap.{get}
use Rattle.bpf_shared.specs.Access.{bytes_in}
use Rattle.bpf_shared.specs.Laws.{CallsHaveOneReply}
use Rattle.bpf_shared.specs.declared.events.Span.{Span}
use Rattle.bpf_shared.specs.declared.events.Event.{Event}
use Rattle.bpf_shared.specs.declared.events.Event.TheVariants.{Begin, End, Lookup, Update, Delete, Keys, Load, Store, Atomic}
use Rattle.bpf_shared.specs.declared.events.MapAnswer.TheVariants.{Invalid}
use Rattle.bpf_shared.specs.Shape.{Covers}
use Rattle.bpf_shared.specs.Store.{Plain, put}
use Rattle.bpf_shared.specs.Events.{Allowed, MayWrite, after_lookup, after_write}
use Rattle.bpf_shared.specs.Choice.{PlainlyAllowed}
use Rattle.bpf_shared.specs.History.{PlainlyLegal, entry}
use Rattle.bpf_shared.specs.Sound.{IsSoundStore}
use Rattle.bpf_shared.proofs.Leaving.{event_shape, update_leaves, delete_leaves}
use Rattle.bpf_shared.proofs.Lawful.{values_stay}
use Rattle.bpf_shared.proofs.Puts.{equal_or_not, put-same, put-other}
use Rattle.bpf_shared.proofs.Soundness.{allowed_sound, plainly_sound, span-after_write}
use Rattle.bpf_loader.specs.Loaded.{Loaded}
use Rattle.bpf_cpu.specs.declared.cpu.Cpu.{Cpu}
use Rattle.bpf_cpu.specs.declared.outcome.Outcome.{Outcome}
use Rattle.bpf_cpu.specs.State.{start}
use Rattle.bpf_cpu.specs.Task.{Task, Ended}
use Rattle.bpf_machine.specs.declared.machine.Turn.{Turn}
use Rattle.bpf_machine.specs.Hands.{with_stage}
use Rattle.bpf_machine.specs.Schedule.{World}
use Rattle.bpf_machine.proofs.ListLaws.{lists_store}
use Rattle.bpf_x86.specs.Buffers.{Buffered, Flushes, Drains, AsksMemory, Sees, Calls, CallsAll}
use Rattle.bpf_x86.specs.Forwarding.{AreStores}
use Rattle.bpf_x86.specs.Machine.{X86, Move, TurnOf, FlushOf, Moves, buffered, with_buffered, Advances, Settled, GoesOn, TakesTurn}
use Rattle.bpf_x86.proofs.Alike.{held_others}
use Rattle.bpf_x86.proofs.Reaching.{at_reaches, reached, reached_is_live, reached_same, reached_so, writable_too}

-- ---- the CPU is in a run as before, and reaches what it did, where it was
record Keeps (c : ℕ) (l k : Plain) : Type 0 where
  shape : k.shape ≡ l.shape
  running : k.running c ≡ l.running c
  reaches : (v : ℕ) → reached k c v ≡ reached l c v
  spans : (v : ℕ) → reached l c v ≡ true → (k.value v).span ≡ (l.value v).span

keeps_same : (c : ℕ) (l : Plain) → Keeps c l l
keeps_same c l = record { shape = refl; running = refl; reaches = λ v. refl; spans = λ v h. refl }

keeps_both : (c : ℕ) (l k m : Plain) → Keeps c l k → Keeps c k m → Keeps c l m
keeps_both c l k m a b = record {
  shape = b.shape ∙ a.shape;
  running = b.running ∙ a.running;
  reaches = λ v. b.reaches v ∙ a.reaches v;
  spans = λ v h. b.spans v (a.reaches v ∙ h) ∙ a.spans v h;
}

-- another CPU's event
running_others : (s t : Plain) (c d : ℕ) (e : Event) → d ≢ c → Allowed s c e t → t.running d ≡ s.running d
running_others s t c d Begin ne a = ap (λ (z : Plain). z.running d) a.2 ∙ put-other s.running c d true ne
running_others s t c d End ne a = ap (λ (z : Plain). z.running d) a.1 ∙ put-other s.running c d false ne
running_others s t c d (Lookup m key found) ne a = ap (λ (z : Plain). z.running d) a.1.2 ∙ looked (get (s.maps m) key)
  where
    looked : (o : Option ℕ) → (after_lookup s c o).running d ≡ s.running d
    looked None = refl
    looked (Some v) = refl
running_others s t c d (Update m key bytes flags answer) ne a = ap (λ (f : ℕ → Bool). f d) (update_leaves s t m a.1.0 key bytes flags answer a.1.4).running
running_others s t c d (Delete m key answer) ne a = ap (λ (f : ℕ → Bool). f d) (delete_leaves s t m key answer a.1.1).running
running_others s t c d (Keys m ks) ne a = ap (λ (z : Plain). z.running d) a.3
running_others s t c d (Load a size found) ne h = ap (λ (z : Plain). z.running d) h.1.3
running_others s t c d (Store a size x) ne h = ap (λ (z : Plain). z.running d) h.1.2
running_others s t c d (Atomic a size op operand expected found) ne h = ap (λ (z : Plain). z.running d) h.1.3

event_keeps : (c d : ℕ) → c ≢ d → (e : Event) (l next : Plain) → IsSoundStore l → PlainlyAllowed l d e next → Keeps c l next
event_keeps c d ne e l next so allowed = record {
  shape = event_shape l next d e allowed.0;
  running = running_others l next d c e ne allowed.0;
  reaches = λ v. reached_same next l c v (event_shape l next d e allowed.0) (ap (λ (f : ℕ → Bool). f v) (held_others l next d c e ne allowed));
  spans = λ v h. (values_stay l next (entry d e ∷ []) v (next, allowed.0, refl) (so.live_made v (reached_is_live l c v h))).1;
}

legal_keeps : (c d : ℕ) → c ≢ d → (es : List Event) (l next : Plain) → IsSoundStore l → PlainlyLegal l (map (entry d) es) next → Keeps c l next
legal_keeps c d ne [] l next so legal = subst (Keeps c l) legal (keeps_same c l)
legal_keeps c d ne (e ∷ es) l next so (m, allowed, rest) = keeps_both c l m next (event_keeps c d ne e l m so allowed)
    (legal_keeps c d ne es m next (allowed_sound l m d e so allowed.0) rest)

-- ---- stores that could be made can be made then
are_both : (es fs : List Event) → AreStores es → AreStores fs → AreStores (es ++ fs)
are_both [] fs p q = q
are_both (Store a size x ∷ es) fs p q = are_both es fs p q
are_both (e ∷ es) fs p q = absurd p

are_later : (e : Event) (es : List Event) → AreStores (e ∷ es) → AreStores es
are_later (Store a size x) es p = p
are_later e es p = absurd p

module _ (c v a n x : ℕ) (l k : Plain) (keeps : Keeps c l k) where
  writes_too : MayWrite l c v a n → MayWrite k c v a n
  writes_too r =
      let h : reached l c v ≡ true = reached_so l c v r.reaches.holds in record {
        reaches = at_reaches k c v a n
            (record { holds = keeps.reaches v ∙ h; covers = subst (λ (q : Span). Covers q a n) (sym (keeps.spans v h)) r.reaches.covers });
        writable = writable_too l k v (sym keeps.shape) r.writable;
      }

  both_written : Keeps c (after_write l v a n x) (after_write k v a n x)
  both_written = record {
    shape = keeps.shape;
    running = keeps.running;
    reaches = keeps.reaches;
    spans = λ w h. span-after_write k v a n x w ∙ keeps.spans w h ∙ sym (span-after_write l v a n x w);
  }

stores_too : (c : ℕ) (es : List Event) (l k t : Plain) → AreStores es → Keeps c l k → PlainlyLegal l (map (entry c) es) t
    → (u : Plain) × PlainlyLegal k (map (entry c) es) u
stores_too c [] l k t so keeps legal = (k, refl)
stores_too c (Store a size x ∷ es) l k t so keeps (m, allowed, rest) =
    let n : ℕ = bytes_in size in
    let v : ℕ = allowed.0.1.0 in
    let left : PlainlyLegal (after_write l v a n x) (map (entry c) es) t = subst (λ (z : Plain). PlainlyLegal z (map (entry c) es) t) allowed.0.1.2 rest in
    let next = stores_too c es (after_write l v a n x) (after_write k v a n x) t so (both_written c v a n x l k keeps) left in
    (next.0, (after_write k v a n x, ((keeps.running ∙ allowed.0.0, (v, writes_too c v a n x l k keeps allowed.0.1.1, refl)), tt), next.1))
stores_too c (e ∷ es) l k t so keeps legal = absurd so

-- ---- calls to store, as a history after what waits
legal_split : (c : ℕ) (es fs : List Event) (s t : Plain) → PlainlyLegal s (map (entry c) (es ++ fs)) t
    → (m : Plain) × PlainlyLegal s (map (entry c) es) m × PlainlyLegal m (map (entry c) fs) t
legal_split c [] fs s t legal = (s, refl, legal)
legal_split c (e ∷ es) fs s t (m, allowed, rest) = let r = legal_split c es fs m t rest in (r.0, (m, allowed, r.1), r.2)

legal_both : (c : ℕ) (es fs : List Event) (s m t : Plain) → PlainlyLegal s (map (entry c) es) m → PlainlyLegal m (map (entry c) fs) t →
    PlainlyLegal s (map (entry c) (es ++ fs)) t
legal_both c [] fs s m t first rest = subst (λ (z : Plain). PlainlyLegal z (map (entry c) fs) t) (sym first) rest
legal_both c (e ∷ es) fs s m t (n, allowed, more) rest = (n, allowed, legal_both c es fs n m t more rest)

module _ (c : ℕ) (b : Buffered) (e : Event) where
  abbrev one_more : List Event
  one_more = b.buffers c ++ e ∷ []

  abbrev stored : Buffered
  stored = record { memory = b.memory; buffers = put b.buffers c one_more }

  waits_now : (es : List Event) → stored.buffers c ++ es ≡ b.buffers c ++ (e ∷ es)
  waits_now es = ap (λ (xs : List Event). xs ++ es) (put-same b.buffers c c one_more refl) ∙ append_assoc (b.buffers c) (e ∷ []) es

all_made : (c : ℕ) (es : List Event) (b t : Buffered) (seen : Plain) → AreStores es → Sees b c seen → CallsAll b c es t
    → (u : Plain) × PlainlyLegal b.memory (map (entry c) (b.buffers c ++ es)) u
all_made c [] b t seen so sees calls =
    (seen, subst (λ (xs : List Event). PlainlyLegal b.memory (map (entry c) xs) seen) (sym (append-nil (b.buffers c))) sees)
all_made c (Store a size x ∷ es) b t seen so sees (m, (s, new, sees_now, allowed, is), rest) =
    let e : Event = Store a size x in
    let one : List Event = one_more c b e in
    let here : PlainlyLegal b.memory (map (entry c) one) new = legal_both c (b.buffers c) (e ∷ []) b.memory s new sees_now (new, allowed, refl) in
    let sees_next : Sees (stored c b e) c new =
    subst (λ (xs : List Event). PlainlyLegal b.memory (map (entry c) xs) new) (sym (put-same b.buffers c c one refl)) here in
    let r = all_made c es (stored c b e) t new so sees_next (subst (λ (z : Buffered). CallsAll z c es t) is rest) in
    (r.0, subst (λ (xs : List Event). PlainlyLegal b.memory (map (entry c) xs) r.0) (waits_now c b e es) r.1)
all_made c (e ∷ es) b t seen so sees calls = absurd so

calls_made : (c : ℕ) (es : List Event) (b : Buffered) (u : Plain) → AreStores es → PlainlyLegal b.memory (map (entry c) (b.buffers c ++ es)) u
    → (t : Buffered) × CallsAll b c es t
calls_made c [] b u so legal = (b, refl)
calls_made c (Store a size x ∷ es) b u so legal =
    let e : Event = Store a size x in
    let parts = legal_split c (b.buffers c) (e ∷ es) b.memory u legal in
    let again = subst (λ (xs : List Event). PlainlyLegal b.memory (map (entry c) xs) u) (sym (waits_now c b e es)) legal in
    let r = calls_made c es (stored c b e) u so again in
    (r.0, (stored c b e, (parts.0, parts.2.0, parts.1, parts.2.1, refl), r.1))
calls_made c (e ∷ es) b u so legal = absurd so

-- the stores that the CPU made, it can make where what waits of it, and then they, are legal
module _ (c : ℕ) (b m : Buffered) where
  remade : ((ws : List Event) (u : Plain) → AreStores ws → PlainlyLegal b.memory (map (entry c) (b.buffers c ++ ws)) u → (u' : Plain) ×
      PlainlyLegal m.memory (map (entry c) (m.buffers c ++ ws)) u') → (ws : List Event) (t : Buffered) → AreStores ws → CallsAll b c ws t
      → (t' : Buffered) × CallsAll m c ws t'
  remade over [] t so calls = (m, refl)
  remade over (Store a size x ∷ ws) t so calls =
      let e : Event = Store a size x in
      let made = all_made c (e ∷ ws) b t calls.1.0 so calls.1.2 calls in
      let now = over (e ∷ ws) made.0 so made.1 in
      calls_made c (e ∷ ws) m now.0 so now.1
  remade over (e ∷ ws) t so calls = absurd so

  -- after another CPU's move
  still_made : AreStores (b.buffers c) → Keeps c b.memory m.memory → m.buffers c ≡ b.buffers c → (ws : List Event) (t : Buffered) → AreStores ws →
      CallsAll b c ws t → (t' : Buffered) × CallsAll m c ws t'
  still_made waits keeps same = remade (λ ws u so legal. (
      let r = stores_too c (b.buffers c ++ ws) b.memory m.memory u (are_both (b.buffers c) ws waits so) keeps legal in
      (r.0, subst (λ (xs : List Event). PlainlyLegal m.memory (map (entry c) (xs ++ ws)) r.0) (sym same) r.1)))

  -- after its own flush
  still_flushed : CallsHaveOneReply → IsSoundStore b.memory → Flushes b c m → (ws : List Event) (t : Buffered) → AreStores ws → CallsAll b c ws t
      → (t' : Buffered) × CallsAll m c ws t'
  still_flushed replies sound (oldest, rest, s, waits, allowed, is) = remade (λ ws u so legal. (
      let all : PlainlyLegal b.memory (map (entry c) (oldest ∷ (rest ++ ws))) u =
      subst (λ (xs : List Event). PlainlyLegal b.memory (map (entry c) (xs ++ ws)) u) waits legal in
      let one = replies b.memory all.0 s c oldest oldest sound all.1 allowed refl in
      let left : PlainlyLegal s (map (entry c) (rest ++ ws)) u = subst (λ (z : Plain). PlainlyLegal z (map (entry c) (rest ++ ws)) u) one.1 all.2 in
      let now : Buffered = record { memory = s; buffers = put b.buffers c rest } in
      let there : PlainlyLegal now.memory (map (entry c) (now.buffers c ++ ws)) u =
      subst (λ (xs : List Event). PlainlyLegal s (map (entry c) (xs ++ ws)) u) (sym (put-same b.buffers c c rest refl)) left in
      (u, subst (λ (z : Buffered). PlainlyLegal z.memory (map (entry c) (z.buffers c ++ ws)) u) (sym is) there)))

-- ---- what the CPU's calls leave: a sound memory, what others reach, and their buffers
record Leaves (d : ℕ) (b t : Buffered) : Type 0 where
  sound : IsSoundStore t.memory
  keeps : (c : ℕ) → c ≢ d → Keeps c b.memory t.memory
  others : (c : ℕ) → c ≢ d → t.buffers c ≡ b.buffers c
  stores : AreStores (b.buffers d) → AreStores (t.buffers d)

leaves_same : (d : ℕ) (b : Buffered) → IsSoundStore b.memory → Leaves d b b
leaves_same d b so = record { sound = so; keeps = λ c ne. keeps_same c b.memory; others = λ c ne. refl; stores = λ p. p }

leaves_both : (d : ℕ) (b m t : Buffered) → Leaves d b m → Leaves d m t → Leaves d b t
leaves_both d b m t p q = record {
  sound = q.sound;
  keeps = λ c ne. keeps_both c b.memory m.memory t.memory (p.keeps c ne) (q.keeps c ne);
  others = λ c ne. q.others c ne ∙ p.others c ne;
  stores = λ are. q.stores (p.stores are);
}

drains_leave : (d : ℕ) (b t : Buffered) → IsSoundStore b.memory → Drains b d t → Leaves d b t
drains_leave d b t so (s, sees, is) = subst (Leaves d b) (sym is) (record {
  sound = plainly_sound b.memory s (map (entry d) (b.buffers d)) so sees;
  keeps = λ c ne. legal_keeps c d ne (b.buffers d) b.memory s so sees;
  others = λ c ne. put-other b.buffers d c [] ne;
  stores = λ p. subst AreStores (sym (put-same b.buffers d d [] refl)) tt;
})

flush_leaves : (d : ℕ) (b t : Buffered) → IsSoundStore b.memory → Flushes b d t → Leaves d b t
flush_leaves d b t so (oldest, rest, s, waits, allowed, is) = subst (Leaves d b) (sym is) (record {
  sound = allowed_sound b.memory s d oldest so allowed.0;
  keeps = λ c ne. event_keeps c d ne oldest b.memory s so allowed;
  others = λ c ne. put-other b.buffers d c rest ne;
  stores = λ p. subst AreStores (sym (put-same b.buffers d d rest refl)) (are_later oldest rest (subst AreStores waits p));
})

asks_leave : (d : ℕ) (b t : Buffered) (e : Event) → IsSoundStore b.memory → AsksMemory b d e t → Leaves d b t
asks_leave d b t e so (s, allowed, is) = subst (Leaves d b) (sym is) (record {
  sound = allowed_sound b.memory s d e so allowed.0;
  keeps = λ c ne. event_keeps c d ne e b.memory s so allowed;
  others = λ c ne. refl;
  stores = λ p. p;
})

call_leaves : (d : ℕ) (b t : Buffered) (e : Event) → IsSoundStore b.memory → Calls b d e t → Leaves d b t
call_leaves d b t (Load a size found) so (s, sees, allowed, is) = subst (Leaves d b) (sym is) (leaves_same d b so)
call_leaves d b t (Store a size x) so (s, new, sees, allowed, is) =
    let one : List Event = one_more d b (Store a size x) in
    subst (Leaves d b) (sym is) (record {
      sound = so;
      keeps = λ c ne. keeps_same c b.memory;
      others = λ c ne. put-other b.buffers d c one ne;
      stores = λ p. subst AreStores (sym (put-same b.buffers d d one refl)) (are_both (b.buffers d) (Store a size x ∷ []) p tt);
    })
call_leaves d b t (Lookup m key found) so call = asks_leave d b t (Lookup m key found) so call
call_leaves d b t (Update m key bytes flags Invalid) so call = asks_leave d b t (Update m key bytes flags Invalid) so call
call_leaves d b t e so p =
    let first = drains_leave d b p.0 so p.1 in
    leaves_both d b p.0 t first (asks_leave d p.0 t e first.sound p.2)

calls_leave : (d : ℕ) (es : List Event) (b t : Buffered) → IsSoundStore b.memory → CallsAll b d es t → Leaves d b t
calls_leave d [] b t so calls = subst (Leaves d b) (sym calls) (leaves_same d b so)
calls_leave d (e ∷ es) b t so (m, call, rest) =
    let first = call_leaves d b m e so call in
    leaves_both d b m t first (calls_leave d es m t first.sound rest)

-- ---- a move
advances_leave : (program : Loaded) (d : ℕ) (b t : Buffered) (old new : Cpu) (left rest : ℕ) (end : Option Outcome) → IsSoundStore b.memory → Advances
    program d b old left end t new rest → Leaves d b t
advances_leave program d b t old new zero rest end so a = subst (Leaves d b) (sym a.1) (leaves_same d b so)
advances_leave program d b t old new (suc n) rest end so a = calls_leave d a.0 b t so a.3

settled_leave : (x z : X86) (d k : ℕ) (task : Task) (new : Cpu) (left : ℕ) (end : Option Outcome) (answer : Turn) → IsSoundStore x.world.store →
    Settled x d k task new left end answer z → Leaves d (buffered x) (buffered z)
settled_leave x z d k task new left None answer so s =
    let is : buffered z ≡ buffered x =
    ap (λ (w : World). record { memory = w.store; buffers = z.buffers }) s.0.1
    ∙ ap (λ (f : ℕ → List Event). record { memory = x.world.store; buffers = f }) s.1 in
    subst (Leaves d (buffered x)) (sym is) (leaves_same d (buffered x) so)
settled_leave x z d k task new left (Some end) answer so (b, drains, (s, allowed, ended, lists), same) =
    let first = drains_leave d (buffered x) b so drains in
    let after : Buffered = record { memory = s; buffers = b.buffers } in
    let w : World = (with_buffered x b).world in
    let is : buffered z ≡ after =
    ap (λ (p : Plain). record { memory = p; buffers = z.buffers })
    (lists_store (record w { store = s; jobs = with_stage w.jobs k task (Ended end) }) d z.world lists)
    ∙ ap (λ (f : ℕ → List Event). record { memory = s; buffers = f }) same in
    leaves_both d (buffered x) b (buffered z) first
    (subst (Leaves d b) (sym is) (asks_leave d b after End first.sound (s, allowed, refl)))

goes_leave : (x z : X86) (d k : ℕ) (task : Task) (old : Cpu) (left : ℕ) (answer : Turn) → IsSoundStore x.world.store → GoesOn x d k task old left
    answer z → Leaves d (buffered x) (buffered z)
goes_leave x z d k task old left answer so (program, end, b, new, rest, loaded, advances, settled) =
    let first = advances_leave program d (buffered x) b old new left rest end so advances in
    leaves_both d (buffered x) b (buffered z) first (settled_leave (with_buffered x b) z d k task new rest end answer first.sound settled)

turn_leaves : (x z : X86) (d : ℕ) (answer : Turn) → IsSoundStore x.world.store → TakesTurn x d answer z → Leaves d (buffered x) (buffered z)
turn_leaves x z d answer so (inl (k, task, state, left, at, goes)) = goes_leave x z d k task state left answer so goes
turn_leaves x z d answer so (inr (inl (free, (k, task, input, b, at, below, begun, goes)))) =
    let first = call_leaves d (buffered x) b Begin so begun in
    leaves_both d (buffered x) b (buffered z) first (goes_leave (with_buffered x b) z d k task (start d input) task.budget answer first.sound goes)
turn_leaves x z d answer so (inr (inr a)) =
    subst (λ (y : X86). Leaves d (buffered x) (buffered y)) (sym a.3) (leaves_same d (buffered x) so)

flush_move : (x z : X86) (d : ℕ) → IsSoundStore x.world.store → Moves x (FlushOf d) z → Leaves d (buffered x) (buffered z)
flush_move x z d so (b, flushes, is) =
    subst (λ (y : X86). Leaves d (buffered x) (buffered y)) (sym is) (flush_leaves d (buffered x) b so flushes)

-- ---- what waits are stores
abbrev pub AllStores : X86 → Type 0
AllStores x = (c : ℕ) → AreStores (x.buffers c)

stores_left : (x z : X86) (d : ℕ) → Leaves d (buffered x) (buffered z) → AllStores x → AllStores z
stores_left x z d leaves all c = elim (equal_or_not c d) [
  | inl e ↦ subst (λ (k : ℕ). AreStores (z.buffers k)) (sym e) (leaves.stores (all d))
  | inr ne ↦ subst AreStores (sym (leaves.others c ne)) (all c)
]

pub stores_after : (x z : X86) (move : Move) → IsSoundStore x.world.store → Moves x move z → AllStores x → AllStores z
stores_after x z (TurnOf d) so moved all = stores_left x z d (turn_leaves x z d moved.0 so moved.1) all
stores_after x z (FlushOf d) so moved all = stores_left x z d (flush_move x z d so moved) all

-- ---- a CPU's stores can be made after all moves but its turns
pub stores_still : CallsHaveOneReply → (x z : X86) (c : ℕ) (move : Move) (ws : List Event) (t : Buffered) → move ≢ TurnOf c → IsSoundStore x.world.store
    → AllStores x → AreStores ws → Moves x move z → CallsAll (buffered x) c ws t → (u : Buffered) × CallsAll (buffered z) c ws u
stores_still replies x z c (TurnOf d) ws t ne so all are moved calls =
    let apart : c ≢ d = λ e. ne (ap TurnOf (sym e)) in
    let leaves = turn_leaves x z d moved.0 so moved.1 in
    still_made c (buffered x) (buffered z) (all c) (leaves.keeps c apart) (leaves.others c apart) ws t are calls
stores_still replies x z c (FlushOf d) ws t ne so all are moved calls = elim (equal_or_not c d) [
  | inl e ↦
      let flushes : Flushes (buffered x) c moved.0 = subst (λ (k : ℕ). Flushes (buffered x) k moved.0) (sym e) moved.1 in
      let r = still_flushed c (buffered x) moved.0 replies so flushes ws t are calls in
      subst (λ (y : X86). (u : Buffered) × CallsAll (buffered y) c ws u) (sym moved.2) r
  | inr apart ↦
      let leaves = flush_move x z d so moved in
      still_made c (buffered x) (buffered z) (all c) (leaves.keeps c apart) (leaves.others c apart) ws t are calls
]
