-- What a CPU's loads and stores need of a store stays where another CPU's events miss them: they can be
-- made after those events too.
use Rattle.std.proofs.Common.{◌≡◌, ◌≢◌, ℕ, ◌+◌, ◌<◌, Bool, true, false, List, [], ◌∷◌, Option, Some, None, inl, inr, refl, sym, ap, subst, ◌∙◌, arith}
use Rattle.std.specs.Prelude.{map, slice_get}
use Rattle.std.specs.FinMap.{get}
use Rattle.std.proofs.lemmas.Bool.{or_left, or_right, false_from_ne_true}
use Rattle.bpf_base.specs.Atomic.{number_after}
use Rattle.bpf_shared.specs.Access.{bytes_in}
use Rattle.bpf_shared.specs.declared.events.Span.{Span}
use Rattle.bpf_shared.specs.declared.events.Event.{Event}
use Rattle.bpf_shared.specs.declared.events.Event.TheVariants.{Begin, End, Lookup, Update, Delete, Keys, Load, Store, Atomic}
use Rattle.bpf_shared.specs.Shape.{Covers}
use Rattle.bpf_shared.specs.Store.{Value, Plain}
use Rattle.bpf_shared.specs.Events.{Allowed, Reaches, MayWrite, after_write, after_lookup, number_in}
use Rattle.bpf_shared.specs.Choice.{PlainlyAllowed}
use Rattle.bpf_shared.specs.History.{PlainlyLegal, entry}
use Rattle.bpf_shared.specs.Sound.{IsSoundStore}
use Rattle.bpf_shared.proofs.Leaving.{event_shape, update_leaves, delete_leaves}
use Rattle.bpf_shared.proofs.Lawful.{values_stay}
use Rattle.bpf_shared.proofs.Puts.{equal_or_not, put-other}
use Rattle.bpf_shared.proofs.Soundness.{allowed_sound, after_write_sound, span-after_write}
use Rattle.bpf_x86.specs.Forwarding.{within, written}
use Rattle.bpf_x86.proofs.Overlay.{hits, hits_any, not_written}
use Rattle.bpf_x86.proofs.Written.{at, address, write_here, write_there, same_number}
use Rattle.bpf_x86.proofs.Alike.{IsLike, HasValues, is_access, follow, held_others}
use Rattle.bpf_x86.proofs.Reaching.{at_reaches, reached, reached_is_live, reached_same, reached_so, writable_too}
use Rattle.bpf_x86.proofs.Buffers.{nobody}
use Rattle.bpf_x86.proofs.Behind.{Misses, AllMiss}
use Rattle.bpf_x86.proofs.StepShapes.{AreNot, is_call}

-- for the CPU, who it is and what it reaches are the same, and the bytes that these events touch
pub record IsSameFor (d : ℕ) (made : List Event) (l k : Plain) : Type 0 where
  pub shape : k.shape ≡ l.shape
  pub running : k.running d ≡ l.running d
  pub reaches : (v : ℕ) → reached k d v ≡ reached l d v
  pub spans : (v : ℕ) → reached l d v ≡ true → (k.value v).span ≡ (l.value v).span
  pub bytes : (v i : ℕ) → reached l d v ≡ true → hits_any made (address l v i) ≡ true → at k v i ≡ at l v i

-- ---- then the same loads and stores can be made
module _ (d : ℕ) (e : Event) (es : List Event) (l k : Plain) (so_l : IsSoundStore l) (so_k : IsSoundStore k) (same : IsSameFor d (e ∷ es) l k) where
  reaches_too : (v a n : ℕ) → Reaches l d v a n → Reaches k d v a n
  reaches_too v a n r =
      let h : reached l d v ≡ true = reached_so l d v r.holds in
      at_reaches k d v a n (record { holds = same.reaches v ∙ h; covers = subst (λ (q : Span). Covers q a n) (sym (same.spans v h)) r.covers })

  writes_too : (v a n : ℕ) → MayWrite l d v a n → MayWrite k d v a n
  writes_too v a n r = record { reaches = reaches_too v a n r.reaches; writable = writable_too l k v (sym same.shape) r.writable }

  -- the first of them touches these bytes
  reads_same : (v a n : ℕ) → Reaches l d v a n → ((i : ℕ) → within a n (address l v i) ≡ true → hits e (address l v i) ≡ true) → number_in l
      v a n ≡ number_in k v a n
  reads_same v a n r hit =
      let h : reached l d v ≡ true = reached_so l d v r.holds in
      same_number l k v a n (sym (same.spans v h)) r.covers.0 (λ i touched. sym
      (same.bytes v i h (or_left (hits e (address l v i)) (hits_any es (address l v i)) (hit i touched))))

  fewer : IsSameFor d es l k
  fewer = record {
    shape = same.shape;
    running = same.running;
    reaches = same.reaches;
    spans = same.spans;
    bytes = λ v i h hit. same.bytes v i h (or_right (hits e (address l v i)) (hits_any es (address l v i)) hit);
  }

  -- a store is made in both
  after_both : (v a n x : ℕ) → Reaches l d v a n → IsSameFor d es (after_write l v a n x) (after_write k v a n x)
  after_both v a n x r = record {
    shape = same.shape;
    running = same.running;
    reaches = same.reaches;
    spans = λ w h. span-after_write k v a n x w ∙ same.spans w h ∙ sym (span-after_write l v a n x w);
    bytes = λ w i h hit.
        let hit_before : hits_any es (address l w i) ≡ true = ap (λ (q : Span). hits_any es (q.at + i)) (sym (span-after_write l v a n x w)) ∙ hit in
        elim (equal_or_not w v) [
          | inl e ↦ subst (λ (u : ℕ). at (after_write k v a n x) u i ≡ at (after_write l v a n x) u i) (sym e)
              (here i (subst (λ (u : ℕ). hits_any es (address l u i) ≡ true) e hit_before))
          | inr far ↦ write_there k d v a n so_k (reaches_too v a n r) x w i far ∙ fewer.bytes w i h hit_before ∙ sym (write_there l d v a n so_l r x w i far)
        ];
  }
    where
      here : (i : ℕ) → hits_any es (address l v i) ≡ true → at (after_write k v a n x) v i ≡ at (after_write l v a n x) v i
      here i hit =
          let h : reached l d v ≡ true = reached_so l d v r.holds in
          write_here k d v a n so_k (reaches_too v a n r) x i
          ∙ ap (λ (q : Span). written a n x (q.at + i) (at k v i)) (same.spans v h)
          ∙ ap (λ (o : Option ℕ). written a n x (address l v i) o) (fewer.bytes v i h hit)
          ∙ sym (write_here l d v a n so_l r x i)

pub legal_same : (d : ℕ) (made : List Event) (l k t : Plain) → AreNot is_call made → IsSoundStore l → IsSoundStore k → IsSameFor d made l k
    → PlainlyLegal l (map (entry d) made) t → (u : Plain) × PlainlyLegal k (map (entry d) made) u
legal_same d [] l k t none so_l so_k same legal = (k, refl)
legal_same d (Load a size found ∷ es) l k t none so_l so_k same (m, allowed, rest) =
    let e : Event = Load a size found in
    let v : ℕ = allowed.0.1.0 in
    let r : Reaches l d v a (bytes_in size) = allowed.0.1.1 in
    let left : PlainlyLegal l (map (entry d) es) t = subst (λ (z : Plain). PlainlyLegal z (map (entry d) es) t) allowed.0.1.3 rest in
    let next = legal_same d es l k t none.1 so_l so_k (fewer d e es l k so_l so_k same) left in
    let read : number_in l v a (bytes_in size) ≡ number_in k v a (bytes_in size) = reads_same d e es l k so_l so_k same v a (bytes_in size) r (λ i h. h) in
    (next.0, (k, ((same.running ∙ allowed.0.0, (v, reaches_too d e es l k so_l so_k same v a (bytes_in size) r, allowed.0.1.2 ∙ read, refl)), tt), next.1))
legal_same d (Store a size x ∷ es) l k t none so_l so_k same (m, allowed, rest) =
    let e : Event = Store a size x in
    let v : ℕ = allowed.0.1.0 in
    let r : MayWrite l d v a (bytes_in size) = allowed.0.1.1 in
    let r_k : MayWrite k d v a (bytes_in size) = writes_too d e es l k so_l so_k same v a (bytes_in size) r in
    let left : PlainlyLegal (after_write l v a (bytes_in size) x) (map (entry d) es) t = subst
    (λ (z : Plain). PlainlyLegal z (map (entry d) es) t) allowed.0.1.2 rest in
    let next = legal_same d es (after_write l v a (bytes_in size) x) (after_write k v a (bytes_in size) x) t none.1
    (after_write_sound l d v a (bytes_in size) x so_l r) (after_write_sound k d v a (bytes_in size) x so_k r_k)
    (after_both d e es l k so_l so_k same v a (bytes_in size) x r.reaches) left in
    (next.0, (after_write k v a (bytes_in size) x, ((same.running ∙ allowed.0.0, (v, r_k, refl)), tt), next.1))
legal_same d (e ∷ es) l k t none so_l so_k same legal = let no : true ≡ false = none.0 in cc

-- ---- another CPU's event
running_others : (s t : Plain) (c d : ℕ) (e : Event) → d ≢ c → Allowed s c e t → t.running d ≡ s.running d
running_others s t c d Begin ne a = ap (λ (z : Plain). z.running d) a.2 ∙ put-other s.running c d true ne
running_others s t c d End ne a = ap (λ (z : Plain). z.running d) a.1 ∙ put-other s.running c d false ne
running_others s t c d (Lookup m key found) ne a = ap (λ (z : Plain). z.running d) a.1.2 ∙ looked (get (s.maps m) key)
  where
    looked : (o : Option ℕ) → (after_lookup s c o).running d ≡ s.running d
    looked None = refl
    looked (Some v) = refl
running_others s t c d (Update m key bytes flags answer) ne a = ap (λ (f : ℕ → Bool). f d) (update_leaves s t m a.1.0 key bytes flags answer a.1.4).running
running_others s t c d (Delete m key answer) ne a = ap (λ (f : ℕ → Bool). f d) (delete_leaves s t m key answer a.1.1).running
running_others s t c d (Keys m ks) ne a = ap (λ (z : Plain). z.running d) a.3
running_others s t c d (Load a size found) ne h = ap (λ (z : Plain). z.running d) h.1.3
running_others s t c d (Store a size x) ne h = ap (λ (z : Plain). z.running d) h.1.2
running_others s t c d (Atomic a size op operand expected found) ne h = ap (λ (z : Plain). z.running d) h.1.3

module _ (c d : ℕ) (ne : c ≢ d) (made : List Event) (l next : Plain) (so : IsSoundStore l) where
  back : d ≢ c
  back q = ne (sym q)

  -- a write of these bytes leaves those that the events touch
  write_missed : (w a n x : ℕ) → Reaches l c w a n → ((b : ℕ) → within a n b ≡ true → hits_any made b ≡ true → ⊥) → (v i : ℕ) → hits_any
      made (address l v i) ≡ true → at (after_write l w a n x) v i ≡ at l v i
  write_missed w a n x r clear v i hit = elim (equal_or_not v w) [
    | inl e ↦ subst (λ (u : ℕ). at (after_write l w a n x) u i ≡ at l u i) (sym e) (here (subst (λ (u : ℕ). hits_any made (address l u i) ≡ true) e hit))
    | inr far ↦ write_there l c w a n so r x v i far
  ]
    where
      here : hits_any made (address l w i) ≡ true → at (after_write l w a n x) w i ≡ at l w i
      here hit = write_here l c w a n so r x i ∙ not_written a n x (address l w i) (at l w i)
          (false_from_ne_true (within a n (address l w i)) (λ h. clear (address l w i) h hit))

  -- what isn't an access leaves them all
  quiet_bytes : (e : Event) → is_access e ≡ false → PlainlyAllowed l c e next → (v i : ℕ) → reached l d v ≡ true → at next v i ≡ at l v i
  quiet_bytes e it allowed v i h = let f = follow nobody l l next c e (λ no. no) it itself allowed in from f.next f.values
    where
      itself : IsLike nobody l l
      itself = record { same = refl; spans = λ w. refl; fewer = λ k w q. q; others = λ k q. refl }

      from : (z : Plain) → HasValues l l z next → at next v i ≡ at l v i
      from z (inl q) = ap (λ (g : ℕ → Value). slice_get (g v).bytes i) q.1
      from z (inr q) = ap (λ (g : ℕ → Value). slice_get (g v).bytes i) q.2 ∙ ap (λ (y : Value). slice_get y.bytes i) (put-other l.value l.made v q.0 (λ e.
          let less : v < l.made = so.live_made v (reached_is_live l d v h) in
          let same : v ≡ l.made = e in
          absurd (omega arith)))

  bytes_stay : (e : Event) → Misses made e → PlainlyAllowed l c e next → (v i : ℕ) → reached l d v ≡ true → hits_any made (address l v i) ≡
      true → at next v i ≡ at l v i
  bytes_stay (Load a size found) miss allowed v i h hit = ap (λ (z : Plain). at z v i) allowed.0.1.3
  bytes_stay (Store a size x) miss allowed v i h hit =
      ap (λ (z : Plain). at z v i) allowed.0.1.2
      ∙ write_missed allowed.0.1.0 a (bytes_in size) x allowed.0.1.1.reaches (λ b there too. miss.1 b there too) v i hit
  bytes_stay (Atomic a size op operand expected found) miss allowed v i h hit =
      ap (λ (z : Plain). at z v i) allowed.0.1.3
      ∙ write_missed allowed.0.1.0 a (bytes_in size) (number_after op (bytes_in size) found operand expected) allowed.0.1.1.reaches
      (λ b there too. miss.1 b there too) v i hit
  bytes_stay e miss allowed v i h hit = quiet_bytes e refl allowed v i h

  event_same : (e : Event) → Misses made e → PlainlyAllowed l c e next → IsSameFor d made l next
  event_same e miss allowed = record {
    shape = event_shape l next c e allowed.0;
    running = running_others l next c d e back allowed.0;
    reaches = λ v. reached_same next l d v (event_shape l next c e allowed.0) (ap (λ (f : ℕ → Bool). f v) (held_others l next c d e back allowed));
    spans = λ v h. (values_stay l next (entry c e ∷ []) v (next, allowed.0, refl) (so.live_made v (reached_is_live l d v h))).1;
    bytes = bytes_stay e miss allowed;
  }

-- and after several
pub legal_along : (c d : ℕ) → c ≢ d → (made : List Event) → AreNot is_call made → (es : List Event) (l next t : Plain) → IsSoundStore l →
    AllMiss made es → PlainlyLegal l (map (entry c) es) next → PlainlyLegal l (map (entry d) made) t
    → (u : Plain) × PlainlyLegal next (map (entry d) made) u
legal_along c d ne made none [] l next t so miss legal own = (t, subst (λ (z : Plain). PlainlyLegal z (map (entry d) made) t) legal own)
legal_along c d ne made none (e ∷ es) l next t so miss legal own =
    let so_m : IsSoundStore legal.0 = allowed_sound l legal.0 c e so legal.1.0 in
    let first = legal_same d made l legal.0 t none so so_m (event_same c d ne made l legal.0 so e miss.0 legal.1) own in
    legal_along c d ne made none es legal.0 next first.0 so_m miss.1 legal.2 first.1
