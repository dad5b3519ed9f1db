-- A CPU's call over memory with buffers is a call of the store that is ahead, which stays ahead.
use Rattle.std.proofs.Common.{◌≡◌, ◌≢◌, ℕ, ◌+◌, ◌<◌, ◌≤◌, Bool, true, false, List, [], ◌∷◌, ◌++◌, Option, Some, None, ◌⊎◌, inl, inr, refl}
use Rattle.std.proofs.Common.{sym, ap, subst, ◌∙◌, arith}
use Rattle.std.specs.Prelude.{slice_get}
use Rattle.std.specs.FinMap.{get}
use Rattle.bpf_base.specs.Atomic.{number_after}
use Rattle.bpf_shared.specs.Access.{bytes_in}
use Rattle.bpf_shared.specs.declared.events.Size.{Size}
use Rattle.bpf_shared.specs.declared.events.Span.{Span}
use Rattle.bpf_shared.specs.declared.events.Event.{Event}
use Rattle.bpf_shared.specs.declared.events.Event.TheVariants.{Lookup, Update, Load, Store, Atomic}
use Rattle.bpf_shared.specs.declared.events.MapAnswer.TheVariants.{Invalid}
use Rattle.std.proofs.lemmas.Bool.{or_cases, or_left, or_right}
use Rattle.bpf_shared.specs.Shape.{Shape}
use Rattle.bpf_shared.specs.Store.{Value, Plain, put, IsLive}
use Rattle.bpf_shared.specs.Events.{Reaches, MayWrite, after_write, after_lookup, number_in}
use Rattle.bpf_shared.specs.Choice.{PlainlyAllowed}
use Rattle.bpf_shared.specs.Sound.{IsSoundStore}
use Rattle.bpf_shared.proofs.Leaving.{event_shape}
use Rattle.bpf_shared.proofs.Soundness.{allowed_sound}
use Rattle.bpf_shared.proofs.Puts.{true_or_false, equal_or_not, put-same, put-other, put_pair, put_pair-old}
use Rattle.bpf_x86.specs.Buffers.{Buffered, Drains, AsksMemory, Calls}
use Rattle.bpf_x86.specs.Forwarding.{within, overlaid}
use Rattle.bpf_x86.proofs.Overlay.{hits_any, all_missed}
use Rattle.bpf_x86.proofs.Written.{at, address}
use Rattle.bpf_x86.proofs.Alike.{HasValues, Follows, is_access, follow, held_others}
use Rattle.bpf_x86.proofs.Buffers.{nobody, AreWaiting, IsClean, IsAhead, reach_here, still_waiting, unreached_missed}
use Rattle.bpf_x86.proofs.Reaching.{is_fixed, reached, reached_is_live, reached_same, reached_more, like_shape, ReachesAt, Writable}
use Rattle.bpf_x86.proofs.Reaching.{at_reaches, at_writes, reaches_at, writable_too}
use Rattle.bpf_x86.proofs.Calling.{IsClear, flush_of, seen_ahead, drains_ahead, same_read, clear_drained, more_here, more_there, store_ahead}

-- ---- what memory lets the CPU reach and write, it does in the store that is ahead
reach_too : (b : Buffered) (s : Plain) (c v a n : ℕ) → IsAhead b s → Reaches b.memory c v a n → ReachesAt s c v a n
reach_too b s c v a n ahead r = reach_here s b.memory ahead.like c v a n (reaches_at b.memory c v a n r)

may_too : (b : Buffered) (s : Plain) (c v a n : ℕ) → IsAhead b s → MayWrite b.memory c v a n → Writable s v
may_too b s c v a n ahead r = writable_too b.memory s v (sym (like_shape nobody s b.memory ahead.like)) r.writable

writes_too : (b : Buffered) (s : Plain) (c v a n : ℕ) → IsAhead b s → MayWrite b.memory c v a n → MayWrite s c v a n
writes_too b s c v a n ahead r = at_writes s c v a n (may_too b s c v a n ahead r) (reach_too b s c v a n ahead r.reaches)

-- ---- an atomic operation stores and flushes at once
pub atomic_ahead : (b : Buffered) (s : Plain) (c a : ℕ) (size : Size) (y v : ℕ) → IsAhead b s → b.buffers c ≡ [] → b.memory.running c ≡ true
    → MayWrite b.memory c v a (bytes_in size) → IsClear b.buffers c (Store a size y)
    → IsAhead (record { memory = after_write b.memory v a (bytes_in size) y; buffers = b.buffers }) (after_write s v a (bytes_in size) y)
atomic_ahead b s c a size y v ahead none runs writes clear =
    let e : Event = Store a size y in
    let r : ReachesAt s c v a (bytes_in size) = reach_too b s c v a (bytes_in size) ahead writes.reaches in
    let may : Writable s v = may_too b s c v a (bytes_in size) ahead writes in
    let stored = store_ahead b s ahead c a size y v r may clear in
    let one : put b.buffers c (b.buffers c ++ e ∷ []) c ≡ e ∷ [] = more_here b s ahead c a size y v r may clear ∙ ap (λ (es : List Event). es ++ e ∷ []) none in
    flush_of (record { memory = b.memory; buffers = put b.buffers c (b.buffers c ++ e ∷ []) }) (after_write s v a (bytes_in size) y) c e []
    (after_write b.memory v a (bytes_in size) y) b.buffers stored one
    ((runs, (v, writes, refl)), tt) none (λ d ne. sym (more_there b s ahead c a size y v r may clear d ne))

-- ---- what isn't an access
module _ (b : Buffered) (s p : Plain) (c : ℕ) (e : Event) (ahead : IsAhead b s) (f : Follows nobody s b.memory c e p)
    (grow : (b.buffers c ≡ []) ⊎ ((v : ℕ) → reached s c v ≡ true → reached f.next c v ≡ true))
    (new : (v i : ℕ) → i < (s.value v).span.size → reached f.next c v ≡ true → (reached s c v ≡ true) ⊎ (hits_any (b.buffers c) (address s v i) ≡ false)) where
  next_sound : IsSoundStore f.next
  next_sound = allowed_sound s f.next c e ahead.sound_too f.allowed.0

  next_shape : f.next.shape ≡ s.shape
  next_shape = event_shape s f.next c e f.allowed.0

  reached_else : (d : ℕ) → d ≢ c → (w : ℕ) → reached f.next d w ≡ reached s d w
  reached_else d ne w = reached_same f.next s d w next_shape (ap (λ (g : ℕ → Bool). g w) (held_others s f.next c d e ne f.allowed))

  -- a value is as it was in both, or new in both
  abbrev Stays : ℕ → Type 0
  Stays w = ((f.next.value w ≡ s.value w) × (p.value w ≡ b.memory.value w)) ⊎ ((w ≡ s.made) × (f.next.value w ≡ p.value w) × (f.next.held ≡ s.held))

  stays : (w : ℕ) → Stays w
  stays w = from f.values
    where
      from : HasValues s b.memory f.next p → Stays w
      from (inl q) = inl (ap (λ (g : ℕ → Value). g w) q.0, ap (λ (g : ℕ → Value). g w) q.1)
      from (inr q) =
          let made : b.memory.made ≡ s.made = sym (ap (λ (z : Plain). z.made) ahead.like.same) in
          elim (equal_or_not w s.made) [
            | inl same ↦ inr (
              same,
              ap (λ (g : ℕ → Value). g w) q.1 ∙ put-same s.value s.made w q.0 same ∙ sym
                  (ap (λ (g : ℕ → Value). g w) q.2 ∙ put-same b.memory.value b.memory.made w q.0 (same ∙ sym made)),
              q.3,
            )
            | inr ne ↦ inl (
              ap (λ (g : ℕ → Value). g w) q.1 ∙ put-other s.value s.made w q.0 ne,
              ap (λ (g : ℕ → Value). g w) q.2 ∙ put-other b.memory.value b.memory.made w q.0 (λ same. ne (same ∙ made)),
            )
          ]

  least_made : s.made ≤ f.next.made
  least_made = from f.values
    where
      from : HasValues s b.memory f.next p → s.made ≤ f.next.made
      from (inl q) = let e : f.next.made ≡ s.made = q.2 in omega arith
      from (inr q) = let e : f.next.made ≡ s.made + 1 = q.4 in omega arith

  quiet_unmade : (w : ℕ) → f.next.made ≤ w → f.next.value w ≡ p.value w
  quiet_unmade w most = elim (stays w) [
    | inl q ↦ q.0 ∙ ahead.unmade w (let least = least_made in omega arith) ∙ sym q.1
    | inr q ↦ q.1
  ]

  -- what was held and isn't new is where it was
  quiet_kept : (d : ℕ) → ((w : ℕ) → reached s d w ≡ true → reached f.next d w ≡ true) → (w : ℕ) → reached s d w ≡ true →
      (reached f.next d w ≡ true) × ((f.next.value w).span ≡ (s.value w).span)
  quiet_kept d grows w h = (
    grows w h,
    elim (stays w) [
      | inl q ↦ ap (λ (y : Value). y.span) q.0
      | inr q ↦ (let less : w < s.made = ahead.sound_too.live_made w (reached_is_live s d w h) in let same : w ≡ s.made = q.0 in absurd (omega arith))
    ],
  )

  quiet_waiting : (d : ℕ) → AreWaiting f.next d (b.buffers d)
  quiet_waiting d = elim (equal_or_not d c) [
    | inl same ↦ subst (λ (k : ℕ). AreWaiting f.next k (b.buffers k)) (sym same) (own grow)
    | inr ne ↦ still_waiting s f.next d (b.buffers d) (quiet_kept d (λ w h. reached_else d ne w ∙ h)) (ahead.waiting d)
  ]
    where
      own : (b.buffers c ≡ []) ⊎ ((v : ℕ) → reached s c v ≡ true → reached f.next c v ≡ true) → AreWaiting f.next c (b.buffers c)
      own (inl none) = subst (AreWaiting f.next c) (sym none) tt
      own (inr grows) = still_waiting s f.next c (b.buffers c) (quiet_kept c grows) (ahead.waiting c)

  -- clean before
  quiet_clean : (d w i : ℕ) → address f.next w i ≡ address s w i → IsClean b.buffers f.next d w i → IsClean b.buffers s d w i
  quiet_clean d w i same clean k ne h = elim (equal_or_not k c) [
    | inl at_c ↦ elim grow [
      | inl none ↦ ap (λ (es : List Event). hits_any es (address s w i)) (ap b.buffers at_c ∙ none)
      | inr grows ↦ back k ne (subst (λ (j : ℕ). reached f.next j w ≡ true) (sym at_c) (grows w (ap (λ (j : ℕ). reached s j w) (sym at_c) ∙ h)))
    ]
    | inr far ↦ back k ne (reached_else k far w ∙ h)
  ]
    where
      back : (k : ℕ) → k ≢ d → reached f.next k w ≡ true → hits_any (b.buffers k) (address s w i) ≡ false
      back k ne h = ap (λ (q : ℕ). hits_any (b.buffers k) q) (sym same) ∙ clean k ne h

  module _ (w i : ℕ) (here : f.next.value w ≡ s.value w) (there : p.value w ≡ b.memory.value w) where
    place : address f.next w i ≡ address s w i
    place = ap (λ (y : Value). y.span.at + i) here

    inside_before : i < (f.next.value w).span.size → i < (s.value w).span.size
    inside_before inside = subst (λ (y : Value). i < y.span.size) here inside

    byte_here : at f.next w i ≡ at s w i
    byte_here = ap (λ (y : Value). slice_get y.bytes i) here

    byte_there : at b.memory w i ≡ at p w i
    byte_there = ap (λ (y : Value). slice_get y.bytes i) (sym there)

    -- where its own CPU has nothing that waits, or holds it as before
    own_seen : i < (f.next.value w).span.size → IsClean b.buffers f.next c w i → reached f.next c w ≡ true → at f.next w i ≡ overlaid
        (b.buffers c) (address f.next w i) (at p w i)
    own_seen inside clean h = byte_here ∙ before (true_or_false (reached s c w)) ∙ ap (λ (o : Option ℕ). overlaid (b.buffers c) (address s w i) o) byte_there
        ∙ ap (λ (q : ℕ). overlaid (b.buffers c) q (at p w i)) (sym place)
      where
        clean_s : IsClean b.buffers s c w i
        clean_s = quiet_clean c w i place clean

        before : ((reached s c w ≡ true) ⊎ (reached s c w ≡ false)) → at s w i ≡ overlaid (b.buffers c) (address s w i) (at b.memory w i)
        before (inl was) = ahead.seen c w i (inside_before inside) clean_s was
        before (inr not) = ahead.unseen c w i (inside_before inside) clean_s not ∙ elim (new w i (inside_before inside) h) [
          | inl was ↦ (let no : true ≡ false = sym was ∙ not in cc)
          | inr miss ↦ sym (all_missed (b.buffers c) (address s w i) (at b.memory w i) miss)
        ]

    own_unseen : i < (f.next.value w).span.size → IsClean b.buffers f.next c w i → reached f.next c w ≡ false → at f.next w i ≡ at p w i
    own_unseen inside clean h = byte_here ∙ before (true_or_false (reached s c w)) ∙ byte_there
      where
        clean_s : IsClean b.buffers s c w i
        clean_s = quiet_clean c w i place clean

        before : ((reached s c w ≡ true) ⊎ (reached s c w ≡ false)) → at s w i ≡ at b.memory w i
        before (inr not) = ahead.unseen c w i (inside_before inside) clean_s not
        before (inl was) = ahead.seen c w i (inside_before inside) clean_s was ∙ elim grow [
          | inl none ↦ ap (λ (es : List Event). overlaid es (address s w i) (at b.memory w i)) none
          | inr grows ↦ (let no : true ≡ false = sym (grows w was) ∙ h in cc)
        ]

    other_seen : (d : ℕ) → d ≢ c → i < (f.next.value w).span.size → IsClean b.buffers f.next d w i → reached f.next d w ≡ true → at f.next w
        i ≡ overlaid (b.buffers d) (address f.next w i) (at p w i)
    other_seen d ne inside clean h =
        byte_here
        ∙ ahead.seen d w i (inside_before inside) (quiet_clean d w i place clean) (sym (reached_else d ne w) ∙ h)
        ∙ ap (λ (o : Option ℕ). overlaid (b.buffers d) (address s w i) o) byte_there
        ∙ ap (λ (q : ℕ). overlaid (b.buffers d) q (at p w i)) (sym place)

    other_unseen : (d : ℕ) → d ≢ c → i < (f.next.value w).span.size → IsClean b.buffers f.next d w i → reached f.next d w ≡ false → at f.next w i ≡ at p w i
    other_unseen d ne inside clean h =
        byte_here ∙ ahead.unseen d w i (inside_before inside) (quiet_clean d w i place clean) (sym (reached_else d ne w) ∙ h) ∙ byte_there

  pub quiet_ahead : IsSoundStore p → IsAhead (record { memory = p; buffers = b.buffers }) f.next
  quiet_ahead so = record {
    like = f.like;
    sound = so;
    sound_too = next_sound;
    unmade = quiet_unmade;
    waiting = quiet_waiting;
    apart = ahead.apart;
    seen = λ d w i inside clean h. elim (stays w) [
      | inl q ↦ elim (equal_or_not d c) [
        | inl same ↦ subst (λ (k : ℕ). at f.next w i ≡ overlaid (b.buffers k) (address f.next w i) (at p w i)) (sym same)
            (own_seen w i q.0 q.1 inside (subst (λ (k : ℕ). IsClean b.buffers f.next k w i) same clean) (ap (λ (k : ℕ). reached f.next k w) (sym same) ∙ h))
        | inr ne ↦ other_seen w i q.0 q.1 d ne inside clean h
      ]
      | inr q ↦ (let less : w < s.made = ahead.sound_too.live_made w (reached_is_live s d w (sym (reached_same f.next s d w next_shape (ap (λ (g : ℕ → ℕ → Bool). g d w) q.2)) ∙ h)) in
          let same : w ≡ s.made = q.0 in absurd (omega arith))
    ];
    unseen = λ d w i inside clean h. elim (stays w) [
      | inl q ↦ elim (equal_or_not d c) [
        | inl same ↦ own_unseen w i q.0 q.1 inside (subst (λ (k : ℕ). IsClean b.buffers f.next k w i) same clean)
            (ap (λ (k : ℕ). reached f.next k w) (sym same) ∙ h)
        | inr ne ↦ other_unseen w i q.0 q.1 d ne inside clean h
      ]
      | inr q ↦ ap (λ (y : Value). slice_get y.bytes i) q.1
    ];
  }

-- ---- calls
pub record CallAhead (b t : Buffered) (s : Plain) (c : ℕ) (e : Event) : Type 0 where
  pub next : Plain
  pub allowed : PlainlyAllowed s c e next
  pub ahead : IsAhead t next
  pub others : (d : ℕ) → d ≢ c → t.buffers d ≡ b.buffers d

runs_here : (b : Buffered) (s : Plain) (c : ℕ) → IsAhead b s → b.memory.running c ≡ true → s.running c ≡ true
runs_here b s c ahead runs = ap (λ (z : Plain). z.running c) ahead.like.same ∙ runs

drained_others : (b d : Buffered) (c : ℕ) → Drains b c d → (k : ℕ) → k ≢ c → d.buffers k ≡ b.buffers k
drained_others b d c drains k ne = ap (λ (z : Buffered). z.buffers k) drains.2 ∙ put-other b.buffers c k [] ne

drained_own : (b d : Buffered) (c : ℕ) → Drains b c d → d.buffers c ≡ []
drained_own b d c drains = ap (λ (z : Buffered). z.buffers c) drains.2 ∙ put-same b.buffers c c [] refl

draining : (b t : Buffered) (s : Plain) (c : ℕ) (e : Event) → is_access e ≡ false → IsAhead b s → (d : Buffered) → Drains b c d → AsksMemory
    d c e t → CallAhead b t s c e
draining b t s c e it ahead d drains (p, allowed, is) =
    let ready : IsAhead d s = drains_ahead b d s c ahead drains in
    let none : d.buffers c ≡ [] = drained_own b d c drains in
    let f = follow nobody s d.memory p c e (λ z. z) it ready.like allowed in
    let sound : IsSoundStore p = allowed_sound d.memory p c e ready.sound allowed.0 in
    let new : (v i : ℕ) → i < (s.value v).span.size → reached f.next c v ≡ true → (reached s c v ≡ true) ⊎ (hits_any (d.buffers c) (address s v i) ≡ false) =
    λ v i inside h. inr (ap (λ (es : List Event). hits_any es (address s v i)) none) in
    record {
      next = f.next;
      allowed = f.allowed;
      ahead = subst (λ (z : Buffered). IsAhead z f.next) (sym is) (quiet_ahead d s p c e ready f (inl none) new sound);
      others = λ k ne. ap (λ (z : Buffered). z.buffers k) is ∙ drained_others b d c drains k ne;
    }

asking : (b t : Buffered) (s : Plain) (c : ℕ) (e : Event) → is_access e ≡ false → IsAhead b s → (a : AsksMemory b c e t)
    → ((next : Plain) → PlainlyAllowed s c e next → (v : ℕ) → reached s c v ≡ true → reached next c v ≡ true)
    → ((next : Plain) → PlainlyAllowed s c e next → (v i : ℕ) → i < (s.value v).span.size → reached next c v ≡ true → (reached s c v ≡ true)
    ⊎ (hits_any (b.buffers c) (address s v i) ≡ false))
    → CallAhead b t s c e
asking b t s c e it ahead (p, allowed, is) grows new =
    let f = follow nobody s b.memory p c e (λ z. z) it ahead.like allowed in
    let sound : IsSoundStore p = allowed_sound b.memory p c e ahead.sound allowed.0 in
    record {
      next = f.next;
      allowed = f.allowed;
      ahead = subst (λ (z : Buffered). IsAhead z f.next) (sym is) (quiet_ahead b s p c e ahead f (inr (grows f.next f.allowed)) (new f.next f.allowed) sound);
      others = λ k ne. ap (λ (z : Buffered). z.buffers k) is;
    }

-- a lookup
looked_shape : (s next : Plain) (c m : ℕ) (key : List ℕ) (found : Option Span) → PlainlyAllowed s c (Lookup m key found) next → s.shape ≡ next.shape
looked_shape s next c m key found a = sym (event_shape s next c (Lookup m key found) a.0)

look_grows : (s next : Plain) (c m : ℕ) (key : List ℕ) (found : Option Span) → PlainlyAllowed s c (Lookup m key found) next → (v : ℕ) →
    reached s c v ≡ true → reached next c v ≡ true
look_grows s next c m key found a v h = reached_more s next c v (looked_shape s next c m key found a)
    (λ k. ap (λ (z : Plain). z.held c v) a.0.1.2 ∙ grown (get (s.maps m) key) k) h
  where
    grown : (o : Option ℕ) → s.held c v ≡ true → (after_lookup s c o).held c v ≡ true
    grown None k = k
    grown (Some w) k = put_pair-old s.held c w c v k

look_new : (b : Buffered) (s next : Plain) (c m : ℕ) (key : List ℕ) (found : Option Span) → IsAhead b s → PlainlyAllowed s c (Lookup m key found) next
    → (v i : ℕ) → i < (s.value v).span.size → reached next c v ≡ true → (reached s c v ≡ true) ⊎ (hits_any (b.buffers c) (address s v i) ≡ false)
look_new b s next c m key found ahead a v i inside h = elim (true_or_false (reached s c v)) [
  | inl was ↦ inl was
  | inr not ↦ inr (unreached_missed s c (b.buffers c) ahead.sound_too (ahead.waiting c) v i
      (live not (or_cases (next.held c v) (is_fixed next.shape v) h)) inside not)
]
  where
    found_live : reached s c v ≡ false → (o : Option ℕ) → get (s.maps m) key ≡ o → (after_lookup s c o).held c v ≡ true → IsLive s v
    found_live not None e k = reached_is_live s c v (or_left (s.held c v) (is_fixed s.shape v) k)
    found_live not (Some w) e k = elim (put_pair s.held c w c v k) [
      | inl q ↦ inl (m, (key, e ∙ ap Some (sym q.1)))
      | inr was ↦ reached_is_live s c v (or_left (s.held c v) (is_fixed s.shape v) was)
    ]

    live : reached s c v ≡ false → ((next.held c v ≡ true) ⊎ (is_fixed next.shape v ≡ true)) → IsLive s v
    live not (inl k) = found_live not (get (s.maps m) key) refl (sym (ap (λ (z : Plain). z.held c v) a.0.1.2) ∙ k)
    live not (inr k) = reached_is_live s c v (or_right (s.held c v) (is_fixed s.shape v)
        (ap (λ (g : Shape). is_fixed g v) (looked_shape s next c m key found a) ∙ k))

pub call_ahead : (b t : Buffered) (s : Plain) (c : ℕ) (e : Event) → IsAhead b s → IsClear b.buffers c e → Calls b c e t → CallAhead b t s c e
call_ahead b t s c (Load a size found) ahead clear (m, sees, allowed, is) =
    let drained : Buffered = record { memory = m; buffers = put b.buffers c [] } in
    let ready : IsAhead drained s = seen_ahead b s m c ahead sees in
    let v : ℕ = allowed.0.1.0 in
    let r : ReachesAt s c v a (bytes_in size) = reach_too drained s c v a (bytes_in size) ready allowed.0.1.1 in
    let same : number_in s v a (bytes_in size) ≡ number_in m v a (bytes_in size) =
    same_read drained s c v a (bytes_in size) ready (put-same b.buffers c c [] refl) r (clear_drained b.buffers c (Load a size found) clear) in
    record {
      next = s;
      allowed = ((runs_here drained s c ready allowed.0.0, (v, at_reaches s c v a (bytes_in size) r, allowed.0.1.2 ∙ sym same, refl)), tt);
      ahead = subst (λ (z : Buffered). IsAhead z s) (sym is) ahead;
      others = λ k ne. ap (λ (z : Buffered). z.buffers k) is;
    }
call_ahead b t s c (Store a size x) ahead clear (m, new, sees, allowed, is) =
    let drained : Buffered = record { memory = m; buffers = put b.buffers c [] } in
    let ready : IsAhead drained s = seen_ahead b s m c ahead sees in
    let v : ℕ = allowed.0.1.0 in
    let r : ReachesAt s c v a (bytes_in size) = reach_too drained s c v a (bytes_in size) ready allowed.0.1.1.reaches in
    let may : Writable s v = may_too drained s c v a (bytes_in size) ready allowed.0.1.1 in
    record {
      next = after_write s v a (bytes_in size) x;
      allowed = ((runs_here drained s c ready allowed.0.0, (v, at_writes s c v a (bytes_in size) may r, refl)), tt);
      ahead = subst (λ (z : Buffered). IsAhead z (after_write s v a (bytes_in size) x)) (sym is) (store_ahead b s ahead c a size x v r may clear);
      others = λ k ne. ap (λ (z : Buffered). z.buffers k) is ∙ more_there b s ahead c a size x v r may clear k ne;
    }
call_ahead b t s c (Atomic a size op operand expected found) ahead clear (d, drains, (p, allowed, is)) =
    let ready : IsAhead d s = drains_ahead b d s c ahead drains in
    let none : d.buffers c ≡ [] = drained_own b d c drains in
    let v : ℕ = allowed.0.1.0 in
    let r : ReachesAt s c v a (bytes_in size) = reach_too d s c v a (bytes_in size) ready allowed.0.1.1.reaches in
    let clear_d : (k x : ℕ) → k ≢ c → within a (bytes_in size) x ≡ true → hits_any (d.buffers k) x ≡ true → ⊥ =
    λ k x ne hit too. clear k x ne hit (sym (ap (λ (es : List Event). hits_any es x) (drained_others b d c drains k ne)) ∙ too) in
    let same : number_in s v a (bytes_in size) ≡ number_in d.memory v a (bytes_in size) = same_read d s c v a (bytes_in size) ready none r clear_d in
    let y : ℕ = number_after op (bytes_in size) found operand expected in
    let after : IsAhead (record { memory = after_write d.memory v a (bytes_in size) y; buffers = d.buffers }) (after_write s v a (bytes_in size) y) =
    atomic_ahead d s c a size y v ready none allowed.0.0 allowed.0.1.1 clear_d in
    record {
      next = after_write s v a (bytes_in size) y;
      allowed = ((runs_here d s c ready allowed.0.0, (v, writes_too d s c v a (bytes_in size) ready allowed.0.1.1, allowed.0.1.2 ∙ sym same, refl)), tt);
      ahead = subst (λ (z : Buffered). IsAhead z (after_write s v a (bytes_in size) y)) (sym is)
          (subst (λ (z : Plain). IsAhead (record { memory = z; buffers = d.buffers }) (after_write s v a (bytes_in size) y)) (sym allowed.0.1.3) after);
      others = λ k ne. ap (λ (z : Buffered). z.buffers k) is ∙ drained_others b d c drains k ne;
    }
call_ahead b t s c (Lookup m key found) ahead clear calls =
    asking b t s c (Lookup m key found) refl ahead calls (λ next a. look_grows s next c m key found a) (λ next a. look_new b s next c m key found ahead a)
call_ahead b t s c (Update m key bytes flags Invalid) ahead clear calls =
    asking b t s c (Update m key bytes flags Invalid) refl ahead calls
    (λ next a v h. ap (λ (z : Plain). reached z c v) a.0.1.4.1 ∙ h)
    (λ next a v i inside h. inl (sym (ap (λ (z : Plain). reached z c v) a.0.1.4.1) ∙ h))
call_ahead b t s c e ahead clear calls = draining b t s c e refl ahead calls.0 calls.1 calls.2
