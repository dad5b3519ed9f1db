-- Each call of a CPU with a buffer is the same call of the store that is ahead, as long as it touches
-- no byte that another CPU's waiting store is to write.
use Rattle.std.proofs.Common.{◌≡◌, ◌≢◌, ℕ, ◌+◌, ◌<◌, ◌≤◌, true, false, List, [], ◌∷◌, ◌++◌, ◌⊎◌, inl, inr, refl, sym, ap, subst, ◌∙◌, arith}
use Rattle.std.specs.Prelude.{map}
use Rattle.std.proofs.lemmas.Bool.{false_from_ne_true}
use Rattle.bpf_shared.specs.Access.{bytes_in}
use Rattle.bpf_shared.specs.declared.events.Size.{Size}
use Rattle.bpf_shared.specs.declared.events.Span.{Span}
use Rattle.bpf_shared.specs.declared.events.Event.{Event}
use Rattle.bpf_shared.specs.declared.events.Event.TheVariants.{Store}
use Rattle.bpf_shared.specs.Shape.{Covers}
use Rattle.bpf_shared.specs.Store.{Plain, put}
use Rattle.bpf_shared.specs.Events.{after_write, number_in}
use Rattle.bpf_shared.specs.Choice.{PlainlyAllowed}
use Rattle.bpf_shared.specs.History.{PlainlyLegal, entry}
use Rattle.bpf_shared.specs.Sound.{IsSoundStore}
use Rattle.bpf_shared.proofs.Soundness.{span-after_write, after_write_sound}
use Rattle.bpf_shared.proofs.Puts.{true_or_false, equal_or_not, put-same, put-other}
use Rattle.bpf_x86.specs.Buffers.{Buffered, Sees, Flushes, Drains}
use Rattle.bpf_x86.specs.Forwarding.{within, byte_after, overlaid}
use Rattle.bpf_x86.proofs.Overlay.{within_parts, hits, hits_any, missed, overlaid-last, last_missed, last_hits}
use Rattle.bpf_x86.proofs.Written.{at, address, write_live, write_unreached, same_number}
use Rattle.bpf_x86.proofs.Alike.{IsLike, same_functions}
use Rattle.bpf_x86.proofs.Buffers.{nobody, IsWaiting, AreWaiting, IsClean, IsAhead, still_waiting, waiting-last, flush_ahead}
use Rattle.bpf_x86.proofs.Reaching.{reached, reached_is_live, ReachesAt, Writable, at_reaches, at_writes, reaches_at}

-- the event touches no byte that another CPU's waiting store is to write
abbrev pub IsClear : (ℕ → List Event) → ℕ → Event → Type 0
IsClear buffers c e = (d x : ℕ) → d ≢ c → hits e x ≡ true → hits_any (buffers d) x ≡ true → ⊥

-- ---- flushes
pub flush_of : (b : Buffered) (s : Plain) (c : ℕ) (oldest : Event) (rest : List Event) (q : Plain) (buffers : ℕ → List Event) → IsAhead b s
    → b.buffers c ≡ oldest ∷ rest → PlainlyAllowed b.memory c oldest q
    → buffers c ≡ rest → ((d : ℕ) → d ≢ c → buffers d ≡ b.buffers d) → IsAhead (record { memory = q; buffers = buffers }) s
flush_of b s c (Store a size x) rest q buffers ahead is allowed here there =
    let sound : IsSoundStore (after_write b.memory allowed.0.1.0 a (bytes_in size) x) = after_write_sound b.memory c allowed.0.1.0 a
    (bytes_in size) x ahead.sound allowed.0.1.1 in
    subst (λ (z : Plain). IsAhead (record { memory = z; buffers = buffers }) s) (sym allowed.0.1.2)
    (flush_ahead b s ahead c a size x rest is buffers here there allowed.0.1.0
    (reaches_at b.memory c allowed.0.1.0 a (bytes_in size) allowed.0.1.1.reaches) sound)
flush_of b s c e rest q buffers ahead is allowed here there = absurd (subst (AreWaiting s c) is (ahead.waiting c)).0

pub flushes_ahead : (b t : Buffered) (s : Plain) (c : ℕ) → IsAhead b s → Flushes b c t → IsAhead t s
flushes_ahead b t s c ahead f =
    subst (λ (z : Buffered). IsAhead z s) (sym f.5)
    (flush_of b s c f.0 f.1 f.2 (put b.buffers c f.1) ahead f.3 f.4 (put-same b.buffers c c f.1 refl) (λ d ne. put-other b.buffers c d f.1 ne))

-- ---- drains
pub put_twice : {A : Type 0} (f : ℕ → A) (c : ℕ) (x y : A) → put (put f c x) c y ≡ put f c y
put_twice f c x y = same_functions (put (put f c x) c y) (put f c y) (λ d. elim (equal_or_not d c) [
  | inl e ↦ put-same (put f c x) c d y e ∙ sym (put-same f c d y e)
  | inr ne ↦ put-other (put f c x) c d y ne ∙ put-other f c d x ne ∙ sym (put-other f c d y ne)
])

pub put_itself : {A : Type 0} (f : ℕ → A) (c : ℕ) (x : A) → f c ≡ x → f ≡ put f c x
put_itself f c x e = same_functions f (put f c x) (λ d. elim (equal_or_not d c) [
  | inl same ↦ ap f same ∙ e ∙ sym (put-same f c d x same)
  | inr ne ↦ sym (put-other f c d x ne)
])

drain_of : (es : List Event) (b : Buffered) (s m : Plain) (c : ℕ) → IsAhead b s → b.buffers c ≡ es → PlainlyLegal b.memory
    (map (entry c) es) m → IsAhead (record { memory = m; buffers = put b.buffers c [] }) s
drain_of [] b s m c ahead is legal =
    subst (λ (z : Plain). IsAhead (record { memory = z; buffers = put b.buffers c [] }) s) legal
    (subst (λ (f : ℕ → List Event). IsAhead (record { memory = b.memory; buffers = f }) s) (put_itself b.buffers c [] is) ahead)
drain_of (e ∷ es) b s m c ahead is legal =
    let next : IsAhead (record { memory = legal.0; buffers = put b.buffers c es }) s =
    flush_of b s c e es legal.0 (put b.buffers c es) ahead is legal.1 (put-same b.buffers c c es refl) (λ d ne. put-other b.buffers c d es ne) in
    subst (λ (f : ℕ → List Event). IsAhead (record { memory = m; buffers = f }) s) (put_twice b.buffers c es [])
    (drain_of es (record { memory = legal.0; buffers = put b.buffers c es }) s m c next (put-same b.buffers c c es refl) legal.2)

-- what the CPU sees is memory with its buffer drained
pub seen_ahead : (b : Buffered) (s m : Plain) (c : ℕ) → IsAhead b s → Sees b c m → IsAhead (record { memory = m; buffers = put b.buffers c [] }) s
seen_ahead b s m c ahead sees = drain_of (b.buffers c) b s m c ahead refl sees

pub drains_ahead : (b t : Buffered) (s : Plain) (c : ℕ) → IsAhead b s → Drains b c t → IsAhead t s
drains_ahead b t s c ahead d = subst (λ (z : Buffered). IsAhead z s) (sym d.2) (seen_ahead b s d.0 c ahead d.1)

-- ---- loads: with its buffer drained, a CPU reads the same number
pub same_read : (b : Buffered) (s : Plain) (c v a n : ℕ) → IsAhead b s → b.buffers c ≡ [] → ReachesAt s c v a n
    → ((d x : ℕ) → d ≢ c → within a n x ≡ true → hits_any (b.buffers d) x ≡ true → ⊥) → number_in s v a n ≡ number_in b.memory v a n
same_read b s c v a n ahead none r clear =
    same_number s b.memory v a n (ahead.like.spans v) r.covers.0 (λ i h.
    let in_it = within_parts a n (address s v i) h in
    let to : a + n ≤ (s.value v).span.at + (s.value v).span.size = r.covers.1 in
    let most : (s.value v).span.at + i < a + n = in_it.1 in
    let inside : i < (s.value v).span.size = omega arith in
    let clean : IsClean b.buffers s c v i = λ d ne held. false_from_ne_true (hits_any (b.buffers d) (address s v i))
    (λ hit. clear d (address s v i) ne h hit) in
    ahead.seen c v i inside clean r.holds ∙ ap (λ (es : List Event). overlaid es (address s v i) (at b.memory v i)) none)

-- others' buffers are as they were
pub clear_drained : (buffers : ℕ → List Event) (c : ℕ) (e : Event) → IsClear buffers c e → IsClear (put buffers c []) c e
clear_drained buffers c e clear d x ne hit too = clear d x ne hit (sym (ap (λ (es : List Event). hits_any es x) (put-other buffers c d [] ne)) ∙ too)

-- ---- a store
module _ (b : Buffered) (s : Plain) (ahead : IsAhead b s) (c a : ℕ) (size : Size) (x v : ℕ) (r : ReachesAt s c v a (bytes_in size))
    (may : Writable s v) (clear : IsClear b.buffers c (Store a size x)) where
  abbrev n : ℕ
  n = bytes_in size

  abbrev e : Event
  e = Store a size x

  abbrev after : Plain
  after = after_write s v a n x

  abbrev more : ℕ → List Event
  more = put b.buffers c (b.buffers c ++ e ∷ [])

  pub more_here : more c ≡ b.buffers c ++ e ∷ []
  more_here = put-same b.buffers c c (b.buffers c ++ e ∷ []) refl

  pub more_there : (d : ℕ) → d ≢ c → more d ≡ b.buffers d
  more_there d ne = put-other b.buffers c d (b.buffers c ++ e ∷ []) ne

  spans : (w : ℕ) → (after.value w).span ≡ (s.value w).span
  spans w = span-after_write s v a n x w

  address_after : (w i : ℕ) → address after w i ≡ address s w i
  address_after w i = ap (λ (q : Span). q.at + i) (spans w)

  store_like : IsLike nobody after b.memory
  store_like = record {
    same = ap (λ (z : Plain). record z { value = after.value }) ahead.like.same;
    spans = λ w. spans w ∙ ahead.like.spans w;
    fewer = ahead.like.fewer;
    others = ahead.like.others;
  }

  store_unmade : (w : ℕ) → s.made ≤ w → after.value w ≡ b.memory.value w
  store_unmade w most = put-other s.value v w _
      (λ same. let less : v < s.made = ahead.sound_too.live_made v (reached_is_live s c v r.holds) in absurd (omega arith)) ∙ ahead.unmade w most

  keeps : (d w : ℕ) → reached s d w ≡ true → (reached after d w ≡ true) × ((after.value w).span ≡ (s.value w).span)
  keeps d w h = (h, spans w)

  waits_new : IsWaiting after c e
  waits_new = (v, record { holds = r.holds; covers = subst (λ (q : Span). Covers q a n) (sym (spans v)) r.covers })

  store_waiting : (d : ℕ) → AreWaiting after d (more d)
  store_waiting d = elim (equal_or_not d c) [
    | inl same ↦ subst (λ (k : ℕ). AreWaiting after k (more k)) (sym same)
        (subst (AreWaiting after c) (sym more_here) (waiting-last after c (b.buffers c) e
        (still_waiting s after c (b.buffers c) (keeps c) (ahead.waiting c)) waits_new))
    | inr ne ↦ subst (AreWaiting after d) (sym (more_there d ne)) (still_waiting s after d (b.buffers d) (keeps d) (ahead.waiting d))
  ]

  -- the new one and those of others are apart
  hits_now : (d w : ℕ) → hits_any (more d) w ≡ true → (hits_any (b.buffers d) w ≡ true) ⊎ ((d ≡ c) × (hits e w ≡ true))
  hits_now d w h = elim (equal_or_not d c) [
    | inl same ↦ elim (last_hits (b.buffers c) e w (sym (ap (λ (es : List Event). hits_any es w) (ap more same ∙ more_here)) ∙ h)) [
      | inl old ↦ inl (ap (λ (k : ℕ). hits_any (b.buffers k) w) same ∙ old)
      | inr new ↦ inr (same, new)
    ]
    | inr ne ↦ inl (sym (ap (λ (es : List Event). hits_any es w) (more_there d ne)) ∙ h)
  ]

  store_apart : (k d w : ℕ) → k ≢ d → hits_any (more k) w ≡ true → hits_any (more d) w ≡ true → ⊥
  store_apart k d w ne h g = elim (hits_now k w h) [
    | inl hk ↦ elim (hits_now d w g) [
      | inl hd ↦ ahead.apart k d w ne hk hd
      | inr hd ↦ clear k w (λ same. ne (same ∙ sym hd.0)) hd.1 hk
    ]
    | inr hk ↦ elim (hits_now d w g) [
      | inl hd ↦ clear d w (λ same. ne (hk.0 ∙ sym same)) hk.1 hd
      | inr hd ↦ ne (hk.0 ∙ sym hd.0)
    ]
  ]

  module _ (w i : ℕ) (inside : i < (s.value w).span.size) where
    abbrev b_at : ℕ
    b_at = address s w i

    byte_now : reached s c w ≡ true → at after w i ≡ byte_after e b_at (at s w i)
    byte_now h = write_live s c v a n ahead.sound_too (at_reaches s c v a n r) x w i (reached_is_live s c w h) inside

    byte_same : reached s c w ≡ false → at after w i ≡ at s w i
    byte_same h = write_unreached s c v a n ahead.sound_too (at_reaches s c v a n r) (reached s c) x w i r.holds h

    -- of its own CPU
    clean_own : IsClean more s c w i → IsClean b.buffers s c w i
    clean_own clean d ne h = sym (ap (λ (es : List Event). hits_any es b_at) (more_there d ne)) ∙ clean d ne h

    own_seen : IsClean more s c w i → reached s c w ≡ true → at after w i ≡ overlaid (more c) b_at (at b.memory w i)
    own_seen clean h =
        byte_now h
        ∙ ap (byte_after e b_at) (ahead.seen c w i inside (clean_own clean) h)
        ∙ sym (overlaid-last (b.buffers c) e b_at (at b.memory w i))
        ∙ ap (λ (es : List Event). overlaid es b_at (at b.memory w i)) (sym more_here)

    own_unseen : IsClean more s c w i → reached s c w ≡ false → at after w i ≡ at b.memory w i
    own_unseen clean h = byte_same h ∙ ahead.unseen c w i inside (clean_own clean) h

    -- of another
    module _ (d : ℕ) (ne : d ≢ c) (clean : IsClean more s d w i) where
      both_missed : reached s c w ≡ true → (hits_any (b.buffers c) b_at ≡ false) × (hits e b_at ≡ false)
      both_missed h = last_missed hits (b.buffers c) e b_at (sym (ap (λ (es : List Event). hits_any es b_at) more_here) ∙ clean c (λ same. ne (sym same)) h)

      clean_other : IsClean b.buffers s d w i
      clean_other k other h = elim (equal_or_not k c) [
        | inl same ↦ ap (λ (j : ℕ). hits_any (b.buffers j) b_at) same ∙ (both_missed (ap (λ (j : ℕ). reached s j w) (sym same) ∙ h)).0
        | inr far ↦ sym (ap (λ (es : List Event). hits_any es b_at) (more_there k far)) ∙ clean k other h
      ]

      byte_stays : at after w i ≡ at s w i
      byte_stays = elim (true_or_false (reached s c w)) [
        | inl h ↦ byte_now h ∙ missed e b_at (at s w i) (both_missed h).1
        | inr h ↦ byte_same h
      ]

      other_seen : reached s d w ≡ true → at after w i ≡ overlaid (more d) b_at (at b.memory w i)
      other_seen h = byte_stays ∙ ahead.seen d w i inside clean_other h ∙ ap (λ (es : List Event). overlaid es b_at (at b.memory w i)) (sym (more_there d ne))

      other_unseen : reached s d w ≡ false → at after w i ≡ at b.memory w i
      other_unseen h = byte_stays ∙ ahead.unseen d w i inside clean_other h

    -- of any, with the value's place as it is before
    pub now_seen : (d : ℕ) → IsClean more s d w i → reached s d w ≡ true → at after w i ≡ overlaid (more d) b_at (at b.memory w i)
    now_seen d clean h = elim (equal_or_not d c) [
      | inl same ↦ subst (λ (k : ℕ). at after w i ≡ overlaid (more k) b_at (at b.memory w i)) (sym same)
          (own_seen (subst (λ (k : ℕ). IsClean more s k w i) same clean) (ap (λ (k : ℕ). reached s k w) (sym same) ∙ h))
      | inr ne ↦ other_seen d ne clean h
    ]

    pub now_unseen : (d : ℕ) → IsClean more s d w i → reached s d w ≡ false → at after w i ≡ at b.memory w i
    now_unseen d clean h = elim (equal_or_not d c) [
      | inl same ↦ own_unseen (subst (λ (k : ℕ). IsClean more s k w i) same clean) (ap (λ (k : ℕ). reached s k w) (sym same) ∙ h)
      | inr ne ↦ other_unseen d ne clean h
    ]

  clean_after : (d w i : ℕ) → IsClean more after d w i → IsClean more s d w i
  clean_after d w i clean k ne h = ap (λ (q : ℕ). hits_any (more k) q) (sym (address_after w i)) ∙ clean k ne h

  pub store_ahead : IsAhead (record { memory = b.memory; buffers = more }) after
  store_ahead = record {
    like = store_like;
    sound = ahead.sound;
    sound_too = after_write_sound s c v a n x ahead.sound_too (at_writes s c v a n may r);
    unmade = store_unmade;
    waiting = store_waiting;
    apart = store_apart;
    seen = λ d w i inside clean h.
        now_seen w i (subst (λ (q : Span). i < q.size) (spans w) inside) d (clean_after d w i clean) h
        ∙ ap (λ (q : ℕ). overlaid (more d) q (at b.memory w i)) (sym (address_after w i));
    unseen = λ d w i inside clean h. now_unseen w i (subst (λ (q : Span). i < q.size) (spans w) inside) d (clean_after d w i clean) h;
  }
