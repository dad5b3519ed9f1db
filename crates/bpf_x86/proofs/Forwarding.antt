-- Loads find the CPU's own newest stores, and nothing of another CPU's buffer.
use Rattle.std.proofs.Common.{◌≡◌, ℕ, ◌+◌, ◌<◌, List, [], ◌∷◌, ◌++◌, refl, sym, ap, subst, ◌∙◌, arith}
use Rattle.std.specs.Prelude.{map}
use Rattle.std.proofs.lemmas.List.{map-append}
use Rattle.bpf_base.specs.Bytes.{little_endian, low_bytes}
use Rattle.bpf_shared.specs.Access.{bytes_in}
use Rattle.bpf_shared.specs.declared.events.Size.{Size}
use Rattle.bpf_shared.specs.declared.events.Size.TheVariants.{Byte, Half, Word, Double}
use Rattle.bpf_shared.specs.declared.events.Entry.{Entry}
use Rattle.bpf_shared.specs.declared.events.Span.{Span}
use Rattle.bpf_shared.specs.declared.events.Event.{Event}
use Rattle.bpf_shared.specs.declared.events.Event.TheVariants.{Lookup, Update, Load, Store}
use Rattle.bpf_shared.specs.declared.events.MapAnswer.TheVariants.{Invalid}
use Rattle.bpf_shared.specs.Shape.{Covers}
use Rattle.bpf_shared.specs.Store.{Plain, put, IsLive}
use Rattle.bpf_shared.specs.Events.{Reaches, MayWrite, after_write, number_in}
use Rattle.bpf_shared.specs.Choice.{PlainlyAllowed}
use Rattle.bpf_shared.specs.History.{PlainlyLegal, entry}
use Rattle.bpf_shared.specs.Sound.{IsSoundStore}
use Rattle.bpf_shared.proofs.Histories.{history_cut}
use Rattle.bpf_shared.proofs.Lawful.{one_value_is_reached, writes_touch_named_bytes}
use Rattle.bpf_shared.proofs.Puts.{put-same, put-other}
use Rattle.bpf_shared.proofs.Soundness.{span-after_write, after_write_sound, plainly_sound}
use Rattle.bpf_x86.specs.Buffers.{Buffered, Sees, Calls}
use Rattle.bpf_x86.specs.Forwarding.{overlaid, AreStores, NewestStoresAreSeen, LoadsFindOwnStores, OthersDontSeeStores}
use Rattle.bpf_x86.proofs.Written.{at, address, write_live}

-- ---- byte by byte
seen_of : (es : List Event) (c : ℕ) (p s : Plain) → IsSoundStore p → AreStores es → PlainlyLegal p (map (entry c) es) s
    → (v i : ℕ) → IsLive p v → i < (p.value v).span.size → at s v i ≡ overlaid es (address p v i) (at p v i)
seen_of [] c p s so stores legal v i live inside = sym (ap (λ (z : Plain). at z v i) legal)
seen_of (Store a size x ∷ es) c p s so stores legal v i live inside =
    let w = legal.1.0.1.0 in
    let r : Reaches p c w a (bytes_in size) = legal.1.0.1.1.reaches in
    let after = after_write p w a (bytes_in size) x in
    let is : legal.0 ≡ after = legal.1.0.1.2 in
    let rest : PlainlyLegal after (map (entry c) es) s = subst (λ (z : Plain). PlainlyLegal z (map (entry c) es) s) is legal.2 in
    let span : (after.value v).span ≡ (p.value v).span = span-after_write p w a (bytes_in size) x v in
    let within_it : i < (after.value v).span.size = subst (λ (q : Span). i < q.size) (sym span) inside in
    seen_of es c after s (after_write_sound p c w a (bytes_in size) x so legal.1.0.1.1) stores rest v i live within_it
    ∙ ap (λ (q : Span). overlaid es (q.at + i) (at after v i)) span
    ∙ ap (overlaid es (address p v i)) (write_live p c w a (bytes_in size) so r x v i live inside)
seen_of (e ∷ es) c p s so stores legal v i live inside = absurd stores

pub newest_stores_are_seen : NewestStoresAreSeen
newest_stores_are_seen b c s so stores sees v i live inside = seen_of (b.buffers c) c b.memory s so stores sees v i live inside

-- ---- a load of what was stored last
some_bytes : (size : Size) → 0 < bytes_in size
some_bytes Byte = omega arith
some_bytes Half = omega arith
some_bytes Word = omega arith
some_bytes Double = omega arith

-- a load right after a store finds it
module _ (s : Plain) (c a : ℕ) (size : Size) (x : ℕ) (so : IsSoundStore s) where
  abbrev n : ℕ
  n = bytes_in size

  found_at : (v w : ℕ) → MayWrite s c v a n → Reaches (after_write s v a n x) c w a n → number_in (after_write s v a n x) w a n ≡ little_endian (low_bytes n x)
  found_at v w r after_r =
      let after = after_write s v a n x in
      let there : Reaches after c v a n = record {
        holds = r.reaches.holds;
        covers = subst (λ (q : Span). Covers q a n)
            (sym (span-after_write s v a n x v)) r.reaches.covers;
      } in
      let same : w ≡ v = one_value_is_reached after c c w v a n (after_write_sound s c v a n x so r) (some_bytes size) after_r there in
      ap (λ (k : ℕ). number_in after k a n) same ∙ (writes_touch_named_bytes s c v a n x so r.reaches).2

  found_after : (m t : Plain) (found : ℕ) → PlainlyAllowed s c (Store a size x) m → PlainlyAllowed m c (Load a size found) t → found ≡
      little_endian (low_bytes n x)
  found_after m t found stored loaded =
      let v = stored.0.1.0 in
      let is : m ≡ after_write s v a n x = stored.0.1.2 in
      let w = loaded.0.1.0 in
      loaded.0.1.2 ∙ ap (λ (z : Plain). number_in z w a n) is
      ∙ found_at v w stored.0.1.1 (subst (λ (z : Plain). Reaches z c w a n) is loaded.0.1.1)

pub loads_find_own_stores : LoadsFindOwnStores
loads_find_own_stores b m t c a size x found so stored loaded =
    let last = Store a size x ∷ [] in
    let more = b.buffers c ++ last in
    let sees : Sees (record b { buffers = put b.buffers c more }) c loaded.0 = subst (λ (z : Buffered). Sees z c loaded.0) stored.4 loaded.1 in
    let in_order : PlainlyLegal b.memory (map (entry c) more) loaded.0 =
    subst (λ (es : List Event). PlainlyLegal b.memory (map (entry c) es) loaded.0) (put-same b.buffers c c more refl) sees in
    let parts : PlainlyLegal b.memory (map (entry c) (b.buffers c) ++ map (entry c) last) loaded.0 =
    subst (λ (es : List Entry). PlainlyLegal b.memory es loaded.0) (map-append (entry c) (b.buffers c) last) in_order in
    let cut = history_cut PlainlyAllowed b.memory loaded.0 (map (entry c) (b.buffers c)) (map (entry c) last) parts in
    let here : PlainlyAllowed cut.2.0 c (Load a size found) loaded.0 = subst
    (λ (z : Plain). PlainlyAllowed z c (Load a size found) loaded.0) (sym cut.2.2) loaded.2 in
    found_after cut.0 c a size x (plainly_sound b.memory cut.0 (map (entry c) (b.buffers c)) so cut.1) cut.2.0 loaded.0 found cut.2.1 here

-- ---- calls where memory is the same, and the CPU's buffer
module _ (b m : Buffered) (d : ℕ) (memory : m.memory ≡ b.memory) (own : m.buffers d ≡ b.buffers d) where
  abbrev Likewise : Event → Buffered → Type 0
  Likewise e t = (u : Buffered) × Calls b d e u × (u.memory ≡ t.memory) × (u.buffers d ≡ t.buffers d)

  sees_too : (s : Plain) → Sees m d s → Sees b d s
  sees_too s sees =
      subst (λ (es : List Event). PlainlyLegal b.memory (map (entry d) es) s) own
      (subst (λ (z : Plain). PlainlyLegal z (map (entry d) (m.buffers d)) s) memory sees)

  -- in memory, whatever waits
  asks_too : (e : Event) (s : Plain) → PlainlyAllowed m.memory d e s → PlainlyAllowed b.memory d e s
  asks_too e s allowed = subst (λ (z : Plain). PlainlyAllowed z d e s) memory allowed

  calls_too : (e : Event) (t : Buffered) → Calls m d e t → Likewise e t
  calls_too (Load a size found) t called = (
    b,
    (called.0, sees_too called.0 called.1, called.2, refl),
    sym (ap (λ (z : Buffered). z.memory) called.3 ∙ memory),
    sym (ap (λ (z : Buffered). z.buffers d) called.3 ∙ own),
  )
  calls_too (Store a size x) t called =
      let more : List Event → List Event = λ (es : List Event). es ++ Store a size x ∷ [] in
      let u = record b { buffers = put b.buffers d (more (b.buffers d)) } in (
        u,
        (called.0, called.1, sees_too called.0 called.2, called.3, refl),
        sym (ap (λ (z : Buffered). z.memory) called.4 ∙ memory),
        put-same b.buffers d d (more (b.buffers d)) refl ∙ ap more (sym own) ∙ sym
            (ap (λ (z : Buffered). z.buffers d) called.4 ∙ put-same m.buffers d d (more (m.buffers d)) refl),
      )
  calls_too (Lookup k key found) t called = (
    record b { memory = called.0 },
    (called.0, asks_too (Lookup k key found) called.0 called.1, refl),
    sym (ap (λ (z : Buffered). z.memory) called.2),
    sym (ap (λ (z : Buffered). z.buffers d) called.2 ∙ own),
  )
  calls_too (Update k key bytes flags Invalid) t called = (
    record b { memory = called.0 },
    (called.0, asks_too (Update k key bytes flags Invalid) called.0 called.1, refl),
    sym (ap (λ (z : Buffered). z.memory) called.2),
    sym (ap (λ (z : Buffered). z.buffers d) called.2 ∙ own),
  )
  calls_too e t called =
      let s = called.1.0 in
      let empty : (ℕ → List Event) → Buffered = λ (f : ℕ → List Event). record { memory = s; buffers = put f d [] } in
      let is : called.0 ≡ empty m.buffers = called.1.2 in
      let next = called.2.0 in
      let allowed : PlainlyAllowed s d e next = subst (λ (z : Buffered). PlainlyAllowed z.memory d e next) is called.2.1 in (
        record (empty b.buffers) { memory = next },
        (empty b.buffers, (s, sees_too s called.1.1, refl), (next, allowed, refl)),
        sym (ap (λ (z : Buffered). z.memory) called.2.2),
        put-same b.buffers d d [] refl ∙ sym (ap (λ (z : Buffered). z.buffers d) called.2.2 ∙ ap (λ (z : Buffered). z.buffers d) is ∙
            put-same m.buffers d d [] refl),
      )

pub others_dont_see_stores : OthersDontSeeStores
others_dont_see_stores b m t c d a size x e ne stored called =
    let more = b.buffers c ++ Store a size x ∷ [] in
    calls_too b m d (ap (λ (z : Buffered). z.memory) stored.4) (ap (λ (z : Buffered). z.buffers d) stored.4 ∙ put-other b.buffers c d more ne) e t called
