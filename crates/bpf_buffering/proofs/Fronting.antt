-- A CPU whose stores wait longer: what others do, and its flushes, have the same results.
use Rattle.std.proofs.Common.{◌≡◌, ◌≢◌, ℕ, zero, suc, List, [], ◌∷◌, ◌++◌, Option, Some, None, inl, inr, refl, sym, ap, subst, ◌∙◌}
use Rattle.std.proofs.Common.{append-nil, append_assoc}
use Rattle.std.specs.Prelude.{map, slice_get, slice_set}
use Rattle.bpf_shared.specs.declared.events.Event.{Event}
use Rattle.bpf_shared.specs.declared.events.Event.TheVariants.{Begin, Lookup, Update, Load, Store}
use Rattle.bpf_shared.specs.declared.events.MapAnswer.TheVariants.{Invalid}
use Rattle.bpf_shared.specs.Store.{Plain, put}
use Rattle.bpf_shared.specs.History.{PlainlyLegal, entry}
use Rattle.bpf_shared.proofs.Leaving.{event_shape}
use Rattle.bpf_shared.proofs.Puts.{equal_or_not, put-same, put-other}
use Rattle.bpf_x86.specs.Buffers.{Buffered, Flushes, Drains, AsksMemory, Calls, CallsAll}
use Rattle.bpf_x86.specs.Forwarding.{AreStores}
use Rattle.bpf_x86.proofs.Alike.{same_functions}
use Rattle.bpf_x86.proofs.Calling.{put_twice, put_itself}
use Rattle.bpf_x86.proofs.Following.{shape_along}
use Rattle.bpf_buffering.proofs.AtLast.{calls_others}
use Rattle.bpf_buffering.proofs.Local.{all_too}

-- these stores of the CPU wait, too, as the newest
abbrev pub longer : ℕ → List Event → Buffered → Buffered
longer c ws b = record { memory = b.memory; buffers = put b.buffers c (b.buffers c ++ ws) }

-- ---- stores wait
pub stores_wait : (c : ℕ) (es : List Event) (b t : Buffered) → AreStores es → CallsAll b c es t → t ≡ longer c es b
stores_wait c [] b t so calls =
    calls ∙ ap (λ (f : ℕ → List Event). record { memory = b.memory; buffers = f })
    (put_itself b.buffers c (b.buffers c ++ []) (append-nil' (b.buffers c)))
  where
    append-nil' : (xs : List Event) → xs ≡ xs ++ []
    append-nil' xs = sym (append-nil xs)
stores_wait c (Store a size x ∷ es) b t so (m, call, rest) =
    let e : Event = Store a size x in
    let one : List Event = b.buffers c ++ e ∷ [] in
    let is : m ≡ record { memory = b.memory; buffers = put b.buffers c one } = call.4 in
    stores_wait c es m t so rest
    ∙ ap (longer c es) is
    ∙ ap (λ (f : ℕ → List Event). record { memory = b.memory; buffers = f }) (
    put_twice b.buffers c one (put b.buffers c one c ++ es)
    ∙ ap (put b.buffers c) (ap (λ (fs : List Event). fs ++ es) (put-same b.buffers c c one refl) ∙ append_assoc (b.buffers c) (e ∷ []) es)
    )
stores_wait c (e ∷ es) b t so calls = absurd so

-- ---- beside calls of another CPU
pub put_along : (f : ℕ → List Event) (c d : ℕ) (x ws : List Event) → d ≢ c
    → put (put f d x) c (put f d x c ++ ws) ≡ put (put f c (f c ++ ws)) d x
put_along f c d x ws ne = same_functions _ _ (λ k. elim (equal_or_not k c) [
  | inl e ↦
      let apart : k ≢ d = λ q. ne (sym q ∙ e) in
      put-same (put f d x) c k (put f d x c ++ ws) e
      ∙ ap (λ (es : List Event). es ++ ws) (put-other f d c x (λ q. ne (sym q)))
      ∙ sym (put-other (put f c (f c ++ ws)) d k x apart ∙ put-same f c k (f c ++ ws) e)
  | inr far ↦ put-other (put f d x) c k (put f d x c ++ ws) far ∙ elim (equal_or_not k d) [
    | inl q ↦ put-same f d k x q ∙ sym (put-same (put f c (f c ++ ws)) d k x q)
    | inr apart ↦ put-other f d k x apart ∙ sym (put-other (put f c (f c ++ ws)) d k x apart ∙ put-other f c k (f c ++ ws) far)
  ]
])

module _ (c d : ℕ) (ws : List Event) (ne : d ≢ c) where
  own : (b : Buffered) → (longer c ws b).buffers d ≡ b.buffers d
  own b = put-other b.buffers c d (b.buffers c ++ ws) ne

  sees_along : (b : Buffered) (s : Plain) → PlainlyLegal b.memory (map (entry d) (b.buffers d)) s
      → PlainlyLegal b.memory (map (entry d) ((longer c ws b).buffers d)) s
  sees_along b s sees = subst (λ (es : List Event). PlainlyLegal b.memory (map (entry d) es) s) (sym (own b)) sees

  pub calls_along : (es : List Event) (b t : Buffered) → CallsAll b d es t → CallsAll (longer c ws b) d es (longer c ws t)
  calls_along es b t calls =
      let r = all_too d es (longer c ws b) b t refl (sym (own b)) calls in
      let u : Buffered = r.0 in
      let more : (f : ℕ → List Event) → List Event = λ (f : ℕ → List Event). f c ++ ws in
      let others : (k : ℕ) → k ≢ d → u.buffers k ≡ (longer c ws t).buffers k = λ k apart. calls_others d k apart es (longer c ws b) u r.1 ∙ elim
      (equal_or_not k c) [
        | inl e ↦
            put-same b.buffers c k (more b.buffers) e
            ∙ ap (λ (fs : List Event). fs ++ ws) (sym (calls_others d c (λ q. ne (sym q)) es b t calls))
            ∙ sym (put-same t.buffers c k (more t.buffers) e)
        | inr far ↦
            put-other b.buffers c k (more b.buffers) far ∙ sym (calls_others d k apart es b t calls) ∙ sym
            (put-other t.buffers c k (more t.buffers) far)
      ] in
      let buffers : u.buffers ≡ (longer c ws t).buffers = same_functions u.buffers (longer c ws t).buffers (λ k. elim (equal_or_not k d) [
        | inl e ↦ ap u.buffers e ∙ r.3 ∙ sym (own t) ∙ ap (longer c ws t).buffers (sym e)
        | inr apart ↦ others k apart
      ]) in
      let one : u ≡ longer c ws t =
      ap (λ (p : Plain). record { memory = p; buffers = u.buffers }) r.2 ∙ ap (λ (f : ℕ → List Event). record { memory = t.memory; buffers = f }) buffers in
      subst (CallsAll (longer c ws b) d es) one r.1

  pub call_along : (e : Event) (b t : Buffered) → Calls b d e t → Calls (longer c ws b) d e (longer c ws t)
  call_along e b t call =
      let r = calls_along (e ∷ []) b t (t, call, refl) in
      subst (λ (m : Buffered). Calls (longer c ws b) d e m) (sym r.2) r.1

  pub drains_along : (b t : Buffered) → Drains b d t → Drains (longer c ws b) d (longer c ws t)
  drains_along b t (s, sees, is) = (
    s,
    sees_along b s sees,
    ap (longer c ws) is ∙ ap (λ (f : ℕ → List Event). record { memory = s; buffers = f }) (put_along b.buffers c d [] ws ne),
  )

  pub flush_along : (b t : Buffered) → Flushes b d t → Flushes (longer c ws b) d (longer c ws t)
  flush_along b t (oldest, rest, s, waits, allowed, is) = (
    oldest,
    rest,
    s,
    own b ∙ waits,
    allowed,
    ap (longer c ws) is ∙ ap (λ (f : ℕ → List Event). record { memory = s; buffers = f }) (put_along b.buffers c d rest ws ne),
  )

-- ---- its own flush is that of an older store
pub flush_own : (c : ℕ) (ws : List Event) (b t : Buffered) → Flushes b c t → Flushes (longer c ws b) c (longer c ws t)
flush_own c ws b t (oldest, rest, s, waits, allowed, is) =
    let all : List Event = b.buffers c ++ ws in (
      oldest,
      rest ++ ws,
      s,
      put-same b.buffers c c all refl ∙ ap (λ (es : List Event). es ++ ws) waits,
      allowed,
      ap (longer c ws) is ∙ ap (λ (f : ℕ → List Event). record { memory = s; buffers = f }) (
          put_twice b.buffers c rest (put b.buffers c rest c ++ ws)
          ∙ ap (λ (es : List Event). put b.buffers c (es ++ ws)) (put-same b.buffers c c rest refl)
          ∙ sym (put_twice b.buffers c all (rest ++ ws))
          ),
    )

-- ---- the shape stays
asks_shape : (b t : Buffered) (c : ℕ) (e : Event) → AsksMemory b c e t → t.memory.shape ≡ b.memory.shape
asks_shape b t c e p = ap (λ (z : Buffered). z.memory.shape) p.2 ∙ event_shape b.memory p.0 c e p.1.0

pub drain_shape : (b t : Buffered) (c : ℕ) → Drains b c t → t.memory.shape ≡ b.memory.shape
drain_shape b t c p = ap (λ (z : Buffered). z.memory.shape) p.2 ∙ shape_along c (b.buffers c) b.memory p.0 p.1

pub flush_shape : (b t : Buffered) (c : ℕ) → Flushes b c t → t.memory.shape ≡ b.memory.shape
flush_shape b t c p = ap (λ (z : Buffered). z.memory.shape) p.5 ∙ event_shape b.memory p.2 c p.0 p.4.0

pub call_shape : (b t : Buffered) (c : ℕ) (e : Event) → Calls b c e t → t.memory.shape ≡ b.memory.shape
call_shape b t c (Load a size x) p = ap (λ (z : Buffered). z.memory.shape) p.3
call_shape b t c (Store a size x) p = ap (λ (z : Buffered). z.memory.shape) p.4
call_shape b t c (Lookup m key x) p = asks_shape b t c (Lookup m key x) p
call_shape b t c (Update m key bytes flags Invalid) p = asks_shape b t c (Update m key bytes flags Invalid) p
call_shape b t c e p = asks_shape p.0 t c e p.2 ∙ drain_shape b p.0 c p.1

pub calls_shape : (c : ℕ) (es : List Event) (b t : Buffered) → CallsAll b c es t → t.memory.shape ≡ b.memory.shape
calls_shape c [] b t p = ap (λ (z : Buffered). z.memory.shape) p
calls_shape c (e ∷ es) b t p = calls_shape c es p.0 t p.2 ∙ call_shape b p.0 c e p.1
