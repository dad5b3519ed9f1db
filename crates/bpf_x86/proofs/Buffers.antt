-- Memory with buffers beside a store of sequential consistency, which makes each store at once: their
-- bytes are equal but for what waits, and stay so.
use Rattle.std.proofs.Common.{◌≡◌, ◌≢◌, ℕ, ◌+◌, ◌<◌, ◌≤◌, true, false, List, [], ◌∷◌, ◌++◌, Option, inl, inr, refl, sym, ap, subst, ◌∙◌, arith}
use Rattle.std.proofs.lemmas.Bool.{or_from, or_left, or_right, false_from_ne_true}
use Rattle.bpf_shared.specs.Access.{bytes_in}
use Rattle.bpf_shared.specs.declared.events.Size.{Size}
use Rattle.bpf_shared.specs.declared.events.Span.{Span}
use Rattle.bpf_shared.specs.declared.events.Event.{Event}
use Rattle.bpf_shared.specs.declared.events.Event.TheVariants.{Begin, End, Lookup, Update, Delete, Keys, Load, Store, Atomic}
use Rattle.bpf_shared.specs.Shape.{Covers}
use Rattle.bpf_shared.specs.Store.{Plain, IsLive}
use Rattle.bpf_shared.specs.Events.{after_write}
use Rattle.bpf_shared.specs.Sound.{IsSoundStore}
use Rattle.bpf_shared.proofs.Soundness.{span-after_write}
use Rattle.bpf_shared.proofs.Puts.{true_or_false, equal_or_not, put-other}
use Rattle.bpf_x86.specs.Buffers.{Buffered}
use Rattle.bpf_x86.specs.Forwarding.{within, written, overlaid}
use Rattle.bpf_x86.proofs.Overlay.{hits, hits_any, not_written, missed, all_missed}
use Rattle.bpf_x86.proofs.Written.{at, address, write_live, write_unreached, apart_missed}
use Rattle.bpf_x86.proofs.Alike.{IsLike}
use Rattle.bpf_x86.proofs.Reaching.{reached, reached_is_live, reached_like, ReachesAt, at_reaches}

-- no CPU is left out
abbrev pub nobody : ℕ → Type 0
nobody c = ⊥

-- a store that waits is one to a value that its CPU reaches
abbrev pub IsWaiting : Plain → ℕ → Event → Type 0
IsWaiting s c (Store a size x) = (v : ℕ) × ReachesAt s c v a (bytes_in size)
IsWaiting s c _ = ⊥

abbrev pub AreWaiting : Plain → ℕ → List Event → Type 0
AreWaiting s c [] = Unit {0}
AreWaiting s c (e ∷ es) = IsWaiting s c e × AreWaiting s c es

-- no other CPU's waiting store is to write the byte
abbrev pub IsClean : (ℕ → List Event) → Plain → ℕ → ℕ → ℕ → Type 0
IsClean buffers s c v i = (d : ℕ) → d ≢ c → reached s d v ≡ true → hits_any (buffers d) (address s v i) ≡ false

-- the store of sequential consistency has what the CPU sees, where no other CPU's store waits
pub record IsAhead (b : Buffered) (s : Plain) : Type 0 where
  pub like : IsLike nobody s b.memory
  pub sound : IsSoundStore b.memory
  pub sound_too : IsSoundStore s
  pub unmade : (v : ℕ) → s.made ≤ v → s.value v ≡ b.memory.value v
  pub waiting : (c : ℕ) → AreWaiting s c (b.buffers c)
  pub apart : (c d x : ℕ) → c ≢ d → hits_any (b.buffers c) x ≡ true → hits_any (b.buffers d) x ≡ true → ⊥
  pub seen : (c v i : ℕ) → i < (s.value v).span.size → IsClean b.buffers s c v i → reached s c v ≡ true
      → at s v i ≡ overlaid (b.buffers c) (address s v i) (at b.memory v i)
  pub unseen : (c v i : ℕ) → i < (s.value v).span.size → IsClean b.buffers s c v i → reached s c v ≡ false
      → at s v i ≡ at b.memory v i

-- ---- what is equal of both
module _ (s p : Plain) (like : IsLike nobody s p) where
  pub same_reached : (c v : ℕ) → reached s c v ≡ reached p c v
  same_reached c v = reached_like nobody s p c v (λ no. no) like

  pub address_same : (v i : ℕ) → address s v i ≡ address p v i
  address_same v i = ap (λ (q : Span). q.at + i) (like.spans v)

  pub reach_here : (c v a n : ℕ) → ReachesAt p c v a n → ReachesAt s c v a n
  reach_here c v a n r = record { holds = same_reached c v ∙ r.holds; covers = subst (λ (q : Span). Covers q a n) (sym (like.spans v)) r.covers }

-- ---- waiting stores stay waiting where the CPU reaches what it did
pub still_waits : (s t : Plain) (c : ℕ) (e : Event) → ((v : ℕ) → reached s c v ≡ true → (reached t c v ≡ true) ×
    ((t.value v).span ≡ (s.value v).span)) → IsWaiting s c e → IsWaiting t c e
still_waits s t c (Store a size x) stays (v, r) = (
  v,
  record {
    holds = (stays v r.holds).0;
    covers = subst
        (λ (q : Span). Covers q a (bytes_in size)) (sym (stays v r.holds).1) r.covers;
  },
)
still_waits s t c Begin stays h = absurd h
still_waits s t c End stays h = absurd h
still_waits s t c (Lookup m key found) stays h = absurd h
still_waits s t c (Update m key bytes flags answer) stays h = absurd h
still_waits s t c (Delete m key answer) stays h = absurd h
still_waits s t c (Keys m ks) stays h = absurd h
still_waits s t c (Load a size found) stays h = absurd h
still_waits s t c (Atomic a size op operand expected found) stays h = absurd h

pub still_waiting : (s t : Plain) (c : ℕ) (es : List Event) → ((v : ℕ) → reached s c v ≡ true → (reached t c v ≡ true) ×
    ((t.value v).span ≡ (s.value v).span)) → AreWaiting s c es → AreWaiting t c es
still_waiting s t c [] stays h = tt
still_waiting s t c (e ∷ es) stays h = (still_waits s t c e stays h.0, still_waiting s t c es stays h.1)

pub waiting-last : (s : Plain) (c : ℕ) (es : List Event) (e : Event) → AreWaiting s c es → IsWaiting s c e → AreWaiting s c (es ++ e ∷ [])
waiting-last s c [] e h k = (k, tt)
waiting-last s c (f ∷ fs) e h k = (h.0, waiting-last s c fs e h.1 k)

-- stores that wait don't touch a live value that their CPU doesn't reach
pub unreached_missed : (s : Plain) (c : ℕ) (es : List Event) → IsSoundStore s → AreWaiting s c es → (v i : ℕ) → IsLive s v → i <
    (s.value v).span.size → reached s c v ≡ false → hits_any es (address s v i) ≡ false
unreached_missed s c [] so h v i live inside none = refl
unreached_missed s c (e ∷ es) so h v i live inside none =
    or_from (hits e (address s v i)) (hits_any es (address s v i)) (one e h.0) (unreached_missed s c es so h.1 v i live inside none)
  where
    one : (e : Event) → IsWaiting s c e → hits e (address s v i) ≡ false
    one (Store a size x) (w, r) = apart_missed s c w a (bytes_in size) so (at_reaches s c w a (bytes_in size) r) v i live
        (λ e. let has : reached s c v ≡ true = ap (reached s c) e ∙ r.holds in cc) inside
    one Begin h = absurd h
    one End h = absurd h
    one (Lookup m key found) h = absurd h
    one (Update m key bytes flags answer) h = absurd h
    one (Delete m key answer) h = absurd h
    one (Keys m ks) h = absurd h
    one (Load a size found) h = absurd h
    one (Atomic a size op operand expected found) h = absurd h

-- ---- a flush
module _ (b : Buffered) (s : Plain) (ahead : IsAhead b s) (c : ℕ) (a : ℕ) (size : Size) (x : ℕ) (rest : List Event) (is : b.buffers c ≡ Store a size x ∷ rest)
    (buffers : ℕ → List Event) (here : buffers c ≡ rest) (there : (d : ℕ) → d ≢ c → buffers d ≡ b.buffers d) (v : ℕ)
    (r : ReachesAt b.memory c v a (bytes_in size)) where
  abbrev n : ℕ
  n = bytes_in size

  abbrev after : Plain
  after = after_write b.memory v a n x

  abbrev flushed : Buffered
  flushed = record { memory = after; buffers = buffers }

  oldest_hits : (w : ℕ) → within a n w ≡ true → hits_any (b.buffers c) w ≡ true
  oldest_hits w h = ap (λ (es : List Event). hits_any es w) is ∙ or_left (within a n w) (hits_any rest w) h

  rest_hits : (w : ℕ) → hits_any rest w ≡ true → hits_any (b.buffers c) w ≡ true
  rest_hits w h = ap (λ (es : List Event). hits_any es w) is ∙ or_right (within a n w) (hits_any rest w) h

  -- what hits a buffer now hit it before
  hit_before : (d w : ℕ) → hits_any (buffers d) w ≡ true → hits_any (b.buffers d) w ≡ true
  hit_before d w h = elim (equal_or_not d c) [
    | inl e ↦ subst (λ (k : ℕ). hits_any (b.buffers k) w ≡ true) (sym e) (rest_hits w (sym (ap (λ (es : List Event). hits_any es w) (ap buffers e ∙ here)) ∙ h))
    | inr ne ↦ sym (ap (λ (es : List Event). hits_any es w) (there d ne)) ∙ h
  ]

  live_held : (d w : ℕ) → reached s d w ≡ true → IsLive b.memory w
  live_held d w h = reached_is_live b.memory d w (sym (same_reached s b.memory ahead.like d w) ∙ h)

  -- the byte in memory now
  module _ (w i : ℕ) (inside : i < (s.value w).span.size) where
    abbrev b_at : ℕ
    b_at = address s w i

    inside_there : i < (b.memory.value w).span.size
    inside_there = subst (λ (q : Span). i < q.size) (ahead.like.spans w) inside

    byte_now : reached s c w ≡ true → at after w i ≡ written a n x b_at (at b.memory w i)
    byte_now h =
        write_live b.memory c v a n ahead.sound (at_reaches b.memory c v a n r) x w i (live_held c w h) inside_there
        ∙ ap (λ (k : ℕ). written a n x k (at b.memory w i)) (sym (address_same s b.memory ahead.like w i))

    byte_same : reached s c w ≡ false → at after w i ≡ at b.memory w i
    byte_same h = write_unreached b.memory c v a n ahead.sound (at_reaches b.memory c v a n r) (reached b.memory c) x w i r.holds
        (sym (same_reached s b.memory ahead.like c w) ∙ h)

    -- its own CPU
    clean_own : IsClean buffers s c w i → IsClean b.buffers s c w i
    clean_own clean d ne h = sym (ap (λ (es : List Event). hits_any es b_at) (there d ne)) ∙ clean d ne h

    own_seen : IsClean buffers s c w i → reached s c w ≡ true → at s w i ≡ overlaid (buffers c) b_at (at after w i)
    own_seen clean h =
        ahead.seen c w i inside (clean_own clean) h
        ∙ ap (λ (es : List Event). overlaid es b_at (at b.memory w i)) is
        ∙ ap (λ (o : Option ℕ). overlaid rest b_at o) (sym (byte_now h))
        ∙ ap (λ (es : List Event). overlaid es b_at (at after w i)) (sym here)

    own_unseen : IsClean buffers s c w i → reached s c w ≡ false → at s w i ≡ at after w i
    own_unseen clean h = ahead.unseen c w i inside (clean_own clean) h ∙ sym (byte_same h)

    -- another CPU, where the flushed store wrote the byte
    module _ (d : ℕ) (ne : d ≢ c) (clean : IsClean buffers s d w i) where
      not_too : (k : ℕ) → k ≢ c → within a n b_at ≡ true → hits_any (b.buffers k) b_at ≡ false
      not_too k other h = false_from_ne_true (hits_any (b.buffers k) b_at) (λ too. ahead.apart c k b_at (λ e. other (sym e)) (oldest_hits b_at h) too)

      wrote : reached s c w ≡ true → within a n b_at ≡ true → at s w i ≡ at after w i
      wrote h hit =
          let rest_missed : hits_any rest b_at ≡ false = sym (ap (λ (es : List Event). hits_any es b_at) here) ∙ clean c (λ e. ne (sym e)) h in
          ahead.seen c w i inside (λ k other held. not_too k other hit) h
          ∙ ap (λ (es : List Event). overlaid es b_at (at b.memory w i)) is
          ∙ all_missed rest b_at (written a n x b_at (at b.memory w i)) rest_missed
          ∙ sym (byte_now h)

      -- where it didn't, all is as before
      clean_before : (reached s c w ≡ true → within a n b_at ≡ false) → IsClean b.buffers s d w i
      clean_before missed k other h = elim (equal_or_not k c) [
        | inl e ↦ (let held : reached s c w ≡ true = ap (λ (j : ℕ). reached s j w) (sym e) ∙ h in
            ap (λ (j : ℕ). hits_any (b.buffers j) b_at) e ∙ ap (λ (es : List Event). hits_any es b_at) is
            ∙ or_from (within a n b_at) (hits_any rest b_at) (missed held)
            (sym (ap (λ (es : List Event). hits_any es b_at) here) ∙ clean c (λ q. ne (sym q)) held))
        | inr far ↦ sym (ap (λ (es : List Event). hits_any es b_at) (there k far)) ∙ clean k other h
      ]

      same_now : (reached s c w ≡ true → within a n b_at ≡ false) → at after w i ≡ at b.memory w i
      same_now missed = elim (true_or_false (reached s c w)) [
        | inl h ↦ byte_now h ∙ not_written a n x b_at (at b.memory w i) (missed h)
        | inr h ↦ byte_same h
      ]

      other_seen : reached s d w ≡ true → at s w i ≡ overlaid (buffers d) b_at (at after w i)
      other_seen h = elim (true_or_false (reached s c w)) [
        | inl hc ↦ elim (true_or_false (within a n b_at)) [
          | inl hit ↦ wrote hc hit ∙ sym (all_missed (buffers d) b_at (at after w i)
              (ap (λ (es : List Event). hits_any es b_at) (there d ne) ∙ not_too d ne hit))
          | inr miss ↦ other_missed (λ q. miss) h
        ]
        | inr hc ↦ other_missed (λ q. let no : true ≡ false = sym q ∙ hc in cc) h
      ]
        where
          other_missed : (reached s c w ≡ true → within a n b_at ≡ false) → reached s d w ≡ true → at s w i ≡ overlaid (buffers d) b_at (at after w i)
          other_missed missed h =
              ahead.seen d w i inside (clean_before missed) h
              ∙ ap (λ (o : Option ℕ). overlaid (b.buffers d) b_at o) (sym (same_now missed))
              ∙ ap (λ (es : List Event). overlaid es b_at (at after w i)) (sym (there d ne))

      other_unseen : reached s d w ≡ false → at s w i ≡ at after w i
      other_unseen h = elim (true_or_false (reached s c w)) [
        | inl hc ↦ elim (true_or_false (within a n b_at)) [
          | inl hit ↦ wrote hc hit
          | inr miss ↦ other_missed (λ q. miss) h
        ]
        | inr hc ↦ other_missed (λ q. let no : true ≡ false = sym q ∙ hc in cc) h
      ]
        where
          other_missed : (reached s c w ≡ true → within a n b_at ≡ false) → reached s d w ≡ false → at s w i ≡ at after w i
          other_missed missed h = ahead.unseen d w i inside (clean_before missed) h ∙ sym (same_now missed)

  flush_like : IsLike nobody s after
  flush_like = record {
    same = ahead.like.same;
    spans = λ w. ahead.like.spans w ∙ sym (span-after_write b.memory v a n x w);
    fewer = ahead.like.fewer;
    others = ahead.like.others;
  }

  flush_unmade : (w : ℕ) → s.made ≤ w → s.value w ≡ after.value w
  flush_unmade w most = ahead.unmade w most ∙ sym (put-other b.memory.value v w _ (λ e.
      let made : s.made ≡ b.memory.made = ap (λ (z : Plain). z.made) ahead.like.same in
      let less : v < b.memory.made = ahead.sound.live_made v (reached_is_live b.memory c v r.holds) in
      absurd (omega arith)))

  flush_waiting : (d : ℕ) → AreWaiting s d (buffers d)
  flush_waiting d = elim (equal_or_not d c) [
    | inl e ↦ subst (λ (k : ℕ). AreWaiting s k (buffers k)) (sym e) (subst (AreWaiting s c) (sym here) (subst (AreWaiting s c) is (ahead.waiting c)).1)
    | inr ne ↦ subst (AreWaiting s d) (sym (there d ne)) (ahead.waiting d)
  ]

  pub flush_ahead : IsSoundStore after → IsAhead flushed s
  flush_ahead so = record {
    like = flush_like;
    sound = so;
    sound_too = ahead.sound_too;
    unmade = flush_unmade;
    waiting = flush_waiting;
    apart = λ k d w ne h g. ahead.apart k d w ne (hit_before k w h) (hit_before d w g);
    seen = λ d w i inside clean h. elim (equal_or_not d c) [
      | inl e ↦ subst (λ (k : ℕ). at s w i ≡ overlaid (buffers k) (address s w i) (at after w i)) (sym e)
          (own_seen w i inside (subst (λ (k : ℕ). IsClean buffers s k w i) e clean) (ap (λ (k : ℕ). reached s k w) (sym e) ∙ h))
      | inr ne ↦ other_seen w i inside d ne clean h
    ];
    unseen = λ d w i inside clean h. elim (equal_or_not d c) [
      | inl e ↦ own_unseen w i inside (subst (λ (k : ℕ). IsClean buffers s k w i) e clean) (ap (λ (k : ℕ). reached s k w) (sym e) ∙ h)
      | inr ne ↦ other_unseen w i inside d ne clean h
    ];
  }
