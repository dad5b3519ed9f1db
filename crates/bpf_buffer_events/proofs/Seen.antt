-- What a CPU's calls find on the x86 machine: what they find in a plain store that has what the CPU sees.
use Rattle.std.proofs.Common.{◌≡◌, ◌∙◌, ℕ, Bool, true, List, [], ◌∷◌, ◌++◌, Option, Some, None, ◌⊎◌, inl, inr, refl, sym, ap, subst}
use Rattle.std.specs.Prelude.{map}
use Rattle.std.specs.FinMap.{get}
use Rattle.std.proofs.lemmas.List.{map-append}
use Rattle.bpf_shared.specs.declared.events.Entry.{Entry}
use Rattle.bpf_shared.specs.declared.events.Event.{Event}
use Rattle.bpf_shared.specs.declared.events.Event.TheVariants.{Lookup, Update, Load, Store}
use Rattle.bpf_shared.specs.declared.events.MapAnswer.TheVariants.{Invalid}
use Rattle.bpf_shared.specs.declared.events.Size.{Size}
use Rattle.bpf_shared.specs.declared.events.Span.{Span}
use Rattle.bpf_shared.specs.Access.{bytes_in}
use Rattle.bpf_shared.specs.Store.{Value, Plain, put, IsFixed}
use Rattle.bpf_shared.specs.Events.{span_of, after_lookup}
use Rattle.bpf_shared.specs.Choice.{PlainlyAllowed}
use Rattle.bpf_shared.specs.History.{PlainlyLegal, entry}
use Rattle.bpf_shared.proofs.Histories.{history-append}
use Rattle.bpf_shared.proofs.Puts.{put-same, put_pair-old}
use Rattle.bpf_shared.proofs.Soundness.{span-after_write}
use Rattle.bpf_x86.specs.Buffers.{Buffered, Sees, Drains, AsksMemory, Calls, CallsAll}
use Rattle.bpf_x86.specs.Forwarding.{AreStores}

-- ---- stores change bytes of values alone
pub record OnlyBytes (s t : Plain) : Type 0 where
  pub same : t ≡ record s { value = t.value }
  pub spans : (v : ℕ) → (t.value v).span ≡ (s.value v).span

pub stores_change_bytes : (c : ℕ) (es : List Event) (s t : Plain) → AreStores es → PlainlyLegal s (map (entry c) es) t → OnlyBytes s t
stores_change_bytes c [] s t stores legal = subst (OnlyBytes s) legal (record { same = refl; spans = λ v. refl })
stores_change_bytes c (Store a size x ∷ es) s t stores legal =
    let m = legal.0 in
    let rest = stores_change_bytes c es m t stores legal.2 in
    let written = legal.1.0.1.2 in
    record {
      same = rest.same ∙ ap (λ (z : Plain). record z { value = t.value }) written;
      spans = λ v. rest.spans v ∙ (ap (λ (z : Plain). (z.value v).span) written ∙ span-after_write s legal.1.0.1.0 a (bytes_in size) x v);
    }
stores_change_bytes c (e ∷ es) s t stores legal = absurd stores

-- they are made as well where more is held
pub more_held : (k : ℕ → ℕ → Bool) (c : ℕ) (es : List Event) (s t : Plain) → ((d v : ℕ) → s.held d v ≡ true → k d v ≡ true) → AreStores es
    → PlainlyLegal s (map (entry c) es) t → PlainlyLegal (record s { held = k }) (map (entry c) es) (record t { held = k })
more_held k c [] s t more stores legal = ap (λ (z : Plain). record z { held = k }) legal
more_held k c (Store a size x ∷ es) s t more stores legal =
    let m = legal.0 in
    let v = legal.1.0.1.0 in
    let may = legal.1.0.1.1 in
    let written = legal.1.0.1.2 in
    let holds : (k c v ≡ true) ⊎ IsFixed s.shape v = elim may.reaches.holds [
      | inl held ↦ inl (more c v held)
      | inr fixed ↦ inr fixed
    ] in (
      record m { held = k },
      (
        (
          legal.1.0.0,
          (
            v,
            record { reaches = record { holds = holds; covers = may.reaches.covers }; writable = may.writable },
            ap (λ (z : Plain). record z { held = k }) written,
          ),
        ),
        tt,
      ),
      more_held k c es m t (λ d w held. more d w (sym (ap (λ (z : Plain). z.held d w) written) ∙ held)) stores legal.2,
    )
more_held k c (e ∷ es) s t more stores legal = absurd stores

-- ---- a lookup in memory, after which the same is seen
module _ (p : Plain) (g : ℕ → Value) (spans : (v : ℕ) → (g v).span ≡ (p.value v).span) (c : ℕ) where
  abbrev seen : Plain
  seen = record p { value = g }

  span_here : (o : Option ℕ) → span_of seen o ≡ span_of p o
  span_here None = refl
  span_here (Some v) = ap Some (spans v)

  pub looks_there : (m : ℕ) (key : List ℕ) (found : Option Span) (u : Plain) → PlainlyAllowed seen c (Lookup m key found) u → PlainlyAllowed p c
      (Lookup m key found) (after_lookup p c (get (p.maps m) key))
  looks_there m key found u a = ((a.0.0, (a.0.1.0, a.0.1.1 ∙ span_here (get (p.maps m) key), refl)), tt)

  pub seen_after : (es : List Event) (o : Option ℕ) → AreStores es → PlainlyLegal p (map (entry c) es) seen → PlainlyLegal (after_lookup p c o)
      (map (entry c) es) (after_lookup seen c o)
  seen_after es None stores legal = legal
  seen_after es (Some v) stores legal =
      more_held (put p.held c (put (p.held c) v true)) c es p seen (λ d w held. put_pair-old p.held c v d w held) stores legal

-- ---- a call
-- the x86 machine makes the call too, and then this is seen
abbrev pub CallsTo : Buffered → ℕ → Event → Plain → Type 0
CallsTo b c e u = (t : Buffered) × Calls b c e t × Sees t c u × AreStores (t.buffers c)

more_stores : (es : List Event) (a : ℕ) (size : Size) (x : ℕ) → AreStores es → AreStores (es ++ Store a size x ∷ [])
more_stores [] a size x stores = tt
more_stores (Store b more y ∷ es) a size x stores = more_stores es a size x stores
more_stores (e ∷ es) a size x stores = absurd stores

module _ (b : Buffered) (c : ℕ) (stores : AreStores (b.buffers c)) where
  looked : (m : ℕ) (key : List ℕ) (found : Option Span) (g : ℕ → Value) (u : Plain) → ((v : ℕ) → (g v).span ≡ (b.memory.value v).span)
      → Sees b c (record b.memory { value = g }) → PlainlyAllowed (record b.memory { value = g }) c (Lookup m key found) u
      → CallsTo b c (Lookup m key found) u
  looked m key found g u spans sees a =
      let p = b.memory in
      let o = get (p.maps m) key in
      let next = after_lookup p c o in (
        record b { memory = next },
        (next, looks_there p g spans c m key found u a, refl),
        subst (λ (z : Plain). PlainlyLegal next (map (entry c) (b.buffers c)) z) (sym a.0.1.2) (seen_after p g spans c (b.buffers c) o stores sees),
        stores,
      )

  refused : (m flags : ℕ) (key bytes : List ℕ) (g : ℕ → Value) (u : Plain) → Sees b c (record b.memory { value = g })
      → PlainlyAllowed (record b.memory { value = g }) c (Update m key bytes flags Invalid) u
      → CallsTo b c (Update m key bytes flags Invalid) u
  refused m flags key bytes g u sees a =
      let h = a.0.1 in (
        record b { memory = b.memory },
        (b.memory, ((a.0.0, (h.0, h.1, h.2, h.3, (h.4.0, refl))), tt), refl),
        subst (Sees b c) (sym h.4.1) sees,
        stores,
      )

  -- a call that drains
  drained : (e : Event) (s u : Plain) → Sees b c s → PlainlyAllowed s c e u
      → (t : Buffered) × ((d : Buffered) × Drains b c d × AsksMemory d c e t) × Sees t c u × AreStores (t.buffers c)
  drained e s u sees a =
      let none : put b.buffers c [] c ≡ [] = put-same b.buffers c c [] refl in
      let d : Buffered = record { memory = s; buffers = put b.buffers c [] } in (
        record d { memory = u },
        (d, (s, sees, refl), (u, a, refl)),
        subst (λ (es : List Event). PlainlyLegal u (map (entry c) es) u) (sym none) refl,
        subst AreStores (sym none) tt,
      )

  stored : (a : ℕ) (size : Size) (x : ℕ) (s u : Plain) → Sees b c s → PlainlyAllowed s c (Store a size x) u → CallsTo b c (Store a size x) u
  stored a size x s u sees allowed =
      let e = Store a size x in
      let es = b.buffers c in
      let more = es ++ e ∷ [] in
      let here : put b.buffers c more c ≡ more = put-same b.buffers c c more refl in
      let log : map (entry c) more ≡ map (entry c) es ++ entry c e ∷ [] = map-append (entry c) es (e ∷ []) in
      let seen : PlainlyLegal b.memory (map (entry c) es ++ entry c e ∷ []) u =
      history-append PlainlyAllowed b.memory s u (map (entry c) es) (entry c e ∷ []) sees (u, allowed, refl) in (
        record b { buffers = put b.buffers c more },
        (s, u, sees, allowed, refl),
        subst (λ (all : List Event). PlainlyLegal b.memory (map (entry c) all) u) (sym here)
            (subst (λ (entries : List Entry). PlainlyLegal b.memory entries u) (sym log) seen),
        subst AreStores (sym here) (more_stores es a size x stores),
      )

  pub call_seen : (e : Event) (s u : Plain) → Sees b c s → PlainlyAllowed s c e u → CallsTo b c e u
  call_seen (Load a size found) s u sees h =
      let same : u ≡ s = h.0.1.3 in
      (b, (s, sees, subst (λ (z : Plain). PlainlyAllowed s c (Load a size found) z) same h, refl), subst (Sees b c) (sym same) sees, stores)
  call_seen (Store a size x) s u sees h = stored a size x s u sees h
  call_seen (Lookup m key found) s u sees h =
      let only = stores_change_bytes c (b.buffers c) b.memory s stores sees in
      looked m key found s.value u only.spans (subst (Sees b c) only.same sees)
      (subst (λ (z : Plain). PlainlyAllowed z c (Lookup m key found) u) only.same h)
  call_seen (Update m key bytes flags Invalid) s u sees h =
      let only = stores_change_bytes c (b.buffers c) b.memory s stores sees in
      refused m flags key bytes s.value u (subst (Sees b c) only.same sees)
      (subst (λ (z : Plain). PlainlyAllowed z c (Update m key bytes flags Invalid) u) only.same h)
  call_seen e s u sees h = drained e s u sees h

-- calls in order
pub calls_seen : (c : ℕ) (es : List Event) (b : Buffered) (s u : Plain) → AreStores (b.buffers c) → Sees b c s → PlainlyLegal s (map (entry c) es) u
    → (t : Buffered) × CallsAll b c es t
calls_seen c [] b s u stores sees legal = (b, refl)
calls_seen c (e ∷ es) b s u stores sees legal =
    let m = call_seen b c stores e s legal.0 sees legal.1 in
    let rest = calls_seen c es m.0 legal.0 u m.3 m.2 legal.2 in
    (rest.0, (m.0, m.1, rest.1))
