-- Calls where memory and the CPU's buffer are the same have the same results.
use Rattle.std.proofs.Common.{◌≡◌, ℕ, List, [], ◌∷◌, ◌++◌, refl, sym, ap, subst, ◌∙◌}
use Rattle.std.specs.Prelude.{map}
use Rattle.bpf_shared.specs.declared.events.Event.{Event}
use Rattle.bpf_shared.specs.declared.events.Event.TheVariants.{Lookup, Update, Load, Store}
use Rattle.bpf_shared.specs.declared.events.MapAnswer.TheVariants.{Invalid}
use Rattle.bpf_shared.specs.Store.{Plain, put}
use Rattle.bpf_shared.specs.Choice.{PlainlyAllowed}
use Rattle.bpf_shared.specs.History.{PlainlyLegal, entry}
use Rattle.bpf_shared.proofs.Puts.{put-same}
use Rattle.bpf_x86.specs.Buffers.{Buffered, Sees, Calls}

module _ (b m : Buffered) (d : ℕ) (memory : m.memory ≡ b.memory) (own : m.buffers d ≡ b.buffers d) where
  abbrev pub Likewise : Event → Buffered → Type 0
  Likewise e t = (u : Buffered) × Calls b d e u × (u.memory ≡ t.memory) × (u.buffers d ≡ t.buffers d)

  sees_too : (s : Plain) → Sees m d s → Sees b d s
  sees_too s sees =
      subst (λ (es : List Event). PlainlyLegal b.memory (map (entry d) es) s) own
      (subst (λ (z : Plain). PlainlyLegal z (map (entry d) (m.buffers d)) s) memory sees)

  -- in memory, whatever waits
  asks_too : (e : Event) (s : Plain) → PlainlyAllowed m.memory d e s → PlainlyAllowed b.memory d e s
  asks_too e s allowed = subst (λ (z : Plain). PlainlyAllowed z d e s) memory allowed

  pub calls_too : (e : Event) (t : Buffered) → Calls m d e t → Likewise e t
  calls_too (Load a size found) t called = (
    b,
    (called.0, sees_too called.0 called.1, called.2, refl),
    sym (ap (λ (z : Buffered). z.memory) called.3 ∙ memory),
    sym (ap (λ (z : Buffered). z.buffers d) called.3 ∙ own),
  )
  calls_too (Store a size x) t called =
      let more : List Event → List Event = λ (es : List Event). es ++ Store a size x ∷ [] in
      let u = record b { buffers = put b.buffers d (more (b.buffers d)) } in (
        u,
        (called.0, called.1, sees_too called.0 called.2, called.3, refl),
        sym (ap (λ (z : Buffered). z.memory) called.4 ∙ memory),
        put-same b.buffers d d (more (b.buffers d)) refl ∙ ap more (sym own) ∙ sym
            (ap (λ (z : Buffered). z.buffers d) called.4 ∙ put-same m.buffers d d (more (m.buffers d)) refl),
      )
  calls_too (Lookup k key found) t called = (
    record b { memory = called.0 },
    (called.0, asks_too (Lookup k key found) called.0 called.1, refl),
    sym (ap (λ (z : Buffered). z.memory) called.2),
    sym (ap (λ (z : Buffered). z.buffers d) called.2 ∙ own),
  )
  calls_too (Update k key bytes flags Invalid) t called = (
    record b { memory = called.0 },
    (called.0, asks_too (Update k key bytes flags Invalid) called.0 called.1, refl),
    sym (ap (λ (z : Buffered). z.memory) called.2),
    sym (ap (λ (z : Buffered). z.buffers d) called.2 ∙ own),
  )
  calls_too e t called =
      let s = called.1.0 in
      let empty : (ℕ → List Event) → Buffered = λ (f : ℕ → List Event). record { memory = s; buffers = put f d [] } in
      let is : called.0 ≡ empty m.buffers = called.1.2 in
      let next = called.2.0 in
      let allowed : PlainlyAllowed s d e next = subst (λ (z : Buffered). PlainlyAllowed z.memory d e next) is called.2.1 in (
        record (empty b.buffers) { memory = next },
        (empty b.buffers, (s, sees_too s called.1.1, refl), (next, allowed, refl)),
        sym (ap (λ (z : Buffered). z.memory) called.2.2),
        put-same b.buffers d d [] refl ∙ sym (ap (λ (z : Buffered). z.buffers d) called.2.2 ∙ ap (λ (z : Buffered). z.buffers d) is ∙
            put-same m.buffers d d [] refl),
      )
