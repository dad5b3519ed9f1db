-- A store that lags after another: it lacks the stores of one CPU from one of them on, and what that
-- CPU has found since. The events of other CPUs that touch none of their bytes happen alike in both.
use Rattle.std.proofs.Common.{◌≡◌, ◌≢◌, ℕ, ◌+◌, Bool, true, false, List, [], ◌∷◌, ◌++◌, Option, Some, None, ◌⊎◌, inl, inr, refl, sym, ap, subst, ◌∙◌}
use Rattle.std.specs.Prelude.{map, slice_get}
use Rattle.std.specs.FinMap.{get}
use Rattle.std.proofs.lemmas.Bool.{false_from_ne_true}
use Rattle.bpf_base.specs.Atomic.{number_after}
use Rattle.bpf_shared.specs.Access.{bytes_in}
use Rattle.bpf_shared.specs.declared.events.Size.{Size}
use Rattle.bpf_shared.specs.declared.events.Span.{Span}
use Rattle.bpf_shared.specs.declared.events.Event.{Event}
use Rattle.bpf_shared.specs.declared.events.Event.TheVariants.{Lookup, Update, Load, Store, Atomic}
use Rattle.bpf_shared.specs.declared.events.MapAnswer.TheVariants.{Invalid}
use Rattle.bpf_shared.specs.Shape.{Shape, Covers}
use Rattle.bpf_shared.specs.Store.{Value, Plain, put, IsFixed, IsFrozen}
use Rattle.bpf_shared.specs.Events.{Reaches, MayWrite, after_write, after_lookup, number_in}
use Rattle.bpf_shared.specs.Choice.{PlainlyAllowed}
use Rattle.bpf_shared.specs.History.{PlainlyLegal, entry}
use Rattle.bpf_shared.specs.Sound.{IsSoundStore}
use Rattle.bpf_shared.proofs.Leaving.{event_shape}
use Rattle.bpf_shared.proofs.Soundness.{allowed_sound, span-after_write}
use Rattle.bpf_shared.proofs.Puts.{true_or_false, equal_or_not, put-same, put-other, put_pair-old}
use Rattle.bpf_x86.specs.Forwarding.{within, written}
use Rattle.bpf_x86.proofs.Overlay.{hits, changes, hits_any, changes_any, not_written, last_missed}
use Rattle.bpf_x86.proofs.Written.{at, address, write_here, write_there, same_number}
use Rattle.bpf_x86.proofs.Alike.{IsLike, HasValues, is_access, follow, held_others}
use Rattle.bpf_x86.proofs.Reaching.{reached, reached_same, reached_more, reaches_at}

-- all but this CPU
abbrev pub is_it : ℕ → ℕ → Type 0
is_it d c = c ≡ d

pub record IsBehind (d : ℕ) (lacking : List Event) (l s : Plain) : Type 0 where
  pub like : IsLike (is_it d) l s
  pub bytes : (v i : ℕ) → (reached s d v ≡ true → changes_any lacking (address s v i) ≡ false) → at l v i ≡ at s v i

-- the event touches no byte that these write, and writes none that these touch
abbrev pub Misses : List Event → Event → Type 0
Misses lacking e =
    ((x : ℕ) → hits e x ≡ true → changes_any lacking x ≡ true → ⊥)
    × ((x : ℕ) → changes e x ≡ true → hits_any lacking x ≡ true → ⊥)

abbrev pub AllMiss : List Event → List Event → Type 0
AllMiss lacking [] = Unit {0}
AllMiss lacking (e ∷ es) = Misses lacking e × AllMiss lacking es

pub writes_like : (but : ℕ → Type 0) (l s : Plain) (v a n x : ℕ) → IsLike but l s → IsLike but (after_write l v a n x) (after_write s v a n x)
writes_like but l s v a n x like = record {
  same = ap (λ (z : Plain). record z { value = (after_write l v a n x).value }) like.same;
  spans = λ w. span-after_write l v a n x w ∙ like.spans w ∙ sym (span-after_write s v a n x w);
  fewer = like.fewer;
  others = like.others;
}

module _ (d : ℕ) (lacking : List Event) (l s : Plain) (so_l : IsSoundStore l) (so_s : IsSoundStore s) (behind : IsBehind d lacking l s)
    (c : ℕ) (ne : c ≢ d) where
  reaches_l : (v a n : ℕ) → Reaches s c v a n → Reaches l c v a n
  reaches_l v a n r = record {
    holds = from r.holds;
    covers = subst (λ (q : Span). Covers q a n) (sym (behind.like.spans v)) r.covers;
  }
    where
      from : (s.held c v ≡ true) ⊎ IsFixed s.shape v → (l.held c v ≡ true) ⊎ IsFixed l.shape v
      from (inl h) = inl (ap (λ (f : ℕ → Bool). f v) (behind.like.others c ne) ∙ h)
      from (inr fixed) = inr (subst (λ (h : Shape). IsFixed h v) (sym (ap (λ (z : Plain). z.shape) behind.like.same)) fixed)

  may_write_l : (v a n : ℕ) → MayWrite s c v a n → MayWrite l c v a n
  may_write_l v a n r = record {
    reaches = reaches_l v a n r.reaches;
    writable = λ frozen. r.writable (subst (λ (h : Shape). IsFrozen h v) (ap (λ (z : Plain). z.shape) behind.like.same) frozen);
  }

  runs_l : s.running c ≡ true → l.running c ≡ true
  runs_l runs = ap (λ (z : Plain). z.running c) behind.like.same ∙ runs

  address_l : (v i : ℕ) → address l v i ≡ address s v i
  address_l v i = ap (λ (q : Span). q.at + i) (behind.like.spans v)

  reads_l : (v a n : ℕ) → Reaches s c v a n → ((x : ℕ) → within a n x ≡ true → changes_any lacking x ≡ true → ⊥) → number_in s v a n ≡ number_in l v a n
  reads_l v a n r clear = same_number s l v a n (sym (behind.like.spans v)) r.covers.0 (λ i h.
      sym (behind.bytes v i (λ held. false_from_ne_true (changes_any lacking (address s v i)) (λ hit. clear (address s v i) h hit))))

  -- the same bytes are written in both
  writes_l : (v a n x : ℕ) → Reaches s c v a n → IsBehind d lacking (after_write l v a n x) (after_write s v a n x)
  writes_l v a n x r = record {
    like = writes_like (is_it d) l s v a n x behind.like;
    bytes = λ w i clean.
        let old : reached s d w ≡ true → changes_any lacking (address s w i) ≡ false = λ h.
        ap (λ (q : Span). changes_any lacking (q.at + i)) (sym (span-after_write s v a n x w)) ∙ clean h in
        elim (equal_or_not w v) [
          | inl e ↦ subst (λ (k : ℕ). at (after_write l v a n x) k i ≡ at (after_write s v a n x) k i) (sym e)
              (here v i n a x r (subst (λ (k : ℕ). reached s d k ≡ true → changes_any lacking (address s k i) ≡ false) e old))
          | inr far ↦ write_there l c v a n so_l (reaches_l v a n r) x w i far ∙ behind.bytes w i old ∙ sym (write_there s c v a n so_s r x w i far)
        ];
  }
    where
      here : (v i n a x : ℕ) → Reaches s c v a n → (reached s d v ≡ true → changes_any lacking (address s v i) ≡ false) → at
          (after_write l v a n x) v i ≡ at (after_write s v a n x) v i
      here v i n a x r old =
          write_here l c v a n so_l (reaches_l v a n r) x i
          ∙ ap (λ (q : ℕ). written a n x q (at l v i)) (address_l v i)
          ∙ ap (λ (o : Option ℕ). written a n x (address s v i) o) (behind.bytes v i old)
          ∙ sym (write_here s c v a n so_s r x i)

  -- what isn't an access
  quiet_l : (e : Event) (t : Plain) → is_access e ≡ false → PlainlyAllowed s c e t → (next : Plain) × PlainlyAllowed l c e next × IsBehind d lacking next t
  quiet_l e t it a =
      let f = follow (is_it d) l s t c e ne it behind.like a in (
        f.next,
        f.allowed,
        record {
          like = f.like;
          bytes = λ v i clean. from f.next t f.values v i
              (sym (reached_same t s d v (event_shape s t c e a.0) (ap (λ (g : ℕ → Bool). g v) (held_others s t c d e (λ q. ne (sym q)) a)))) clean;
        },
      )
    where
      from : (next t : Plain) → HasValues l s next t → (v i : ℕ) → reached s d v ≡ reached t d v →
          (reached t d v ≡ true → changes_any lacking (address t v i) ≡ false) → at next v i ≡ at t v i
      from next t (inl q) v i held clean =
          let here : next.value v ≡ l.value v = ap (λ (g : ℕ → Value). g v) q.0 in
          let there : t.value v ≡ s.value v = ap (λ (g : ℕ → Value). g v) q.1 in
          ap (λ (y : Value). slice_get y.bytes i) here
          ∙ behind.bytes v i (λ h. ap (λ (y : Value). changes_any lacking (y.span.at + i)) (sym there) ∙ clean (sym held ∙ h))
          ∙ ap (λ (y : Value). slice_get y.bytes i) (sym there)
      from next t (inr q) v i held clean =
          let made : l.made ≡ s.made = ap (λ (z : Plain). z.made) behind.like.same in
          elim (equal_or_not v s.made) [
            | inl e ↦ ap (λ (y : Value). slice_get y.bytes i) (ap (λ (g : ℕ → Value). g v) q.1 ∙ put-same l.value l.made v q.0
                (e ∙ sym made) ∙ sym (ap (λ (g : ℕ → Value). g v) q.2 ∙ put-same s.value s.made v q.0 e))
            | inr far ↦
                let here : next.value v ≡ l.value v = ap (λ (g : ℕ → Value). g v) q.1 ∙ put-other l.value l.made v q.0 (λ e. far (e ∙ made)) in
                let there : t.value v ≡ s.value v = ap (λ (g : ℕ → Value). g v) q.2 ∙ put-other s.value s.made v q.0 far in
                ap (λ (y : Value). slice_get y.bytes i) here
                ∙ behind.bytes v i (λ h. ap (λ (y : Value). changes_any lacking (y.span.at + i)) (sym there) ∙ clean (sym held ∙ h))
                ∙ ap (λ (y : Value). slice_get y.bytes i) (sym there)
          ]

  pub behind_event : (e : Event) (t : Plain) → Misses lacking e → PlainlyAllowed s c e t → (next : Plain) × PlainlyAllowed l c e next ×
      IsBehind d lacking next t
  behind_event (Load a size found) t misses allowed =
      let v : ℕ = allowed.0.1.0 in
      let r : Reaches s c v a (bytes_in size) = allowed.0.1.1 in (
        l,
        ((runs_l allowed.0.0, (v, reaches_l v a (bytes_in size) r, allowed.0.1.2 ∙ reads_l v a (bytes_in size) r misses.0, refl)), tt),
        subst (IsBehind d lacking l) (sym allowed.0.1.3) behind,
      )
  behind_event (Store a size x) t misses allowed =
      let v : ℕ = allowed.0.1.0 in
      let r : Reaches s c v a (bytes_in size) = allowed.0.1.1.reaches in (
        after_write l v a (bytes_in size) x,
        ((runs_l allowed.0.0, (v, may_write_l v a (bytes_in size) allowed.0.1.1, refl)), tt),
        subst (IsBehind d lacking (after_write l v a (bytes_in size) x)) (sym allowed.0.1.2) (writes_l v a (bytes_in size) x r),
      )
  behind_event (Atomic a size op operand expected found) t misses allowed =
      let v : ℕ = allowed.0.1.0 in
      let r : Reaches s c v a (bytes_in size) = allowed.0.1.1.reaches in
      let y : ℕ = number_after op (bytes_in size) found operand expected in (
        after_write l v a (bytes_in size) y,
        ((runs_l allowed.0.0, (v, may_write_l v a (bytes_in size) allowed.0.1.1, allowed.0.1.2 ∙ reads_l v a (bytes_in size) r misses.0, refl)), tt),
        subst (IsBehind d lacking (after_write l v a (bytes_in size) y)) (sym allowed.0.1.3) (writes_l v a (bytes_in size) y r),
      )
  behind_event e t misses allowed = quiet_l e t refl allowed

-- events in order
pub behind_events : (d c : ℕ) → c ≢ d → (lacking es : List Event) (l s t : Plain) → IsSoundStore l → IsSoundStore s → IsBehind d lacking l s
    → AllMiss lacking es → PlainlyLegal s (map (entry c) es) t
    → (next : Plain) × PlainlyLegal l (map (entry c) es) next × IsBehind d lacking next t
behind_events d c ne lacking [] l s t so_l so_s behind miss legal = (l, refl, subst (IsBehind d lacking l) legal behind)
behind_events d c ne lacking (e ∷ es) l s t so_l so_s behind miss legal =
    let first = behind_event d lacking l s so_l so_s behind c ne e legal.0 miss.0 legal.1 in
    let rest = behind_events d c ne lacking es first.0 legal.0 t (allowed_sound l first.0 c e so_l first.1.0)
    (allowed_sound s legal.0 c e so_s legal.1.0) first.2 miss.1 legal.2 in
    (rest.0, (first.0, first.1, rest.1), rest.2)

-- ---- the CPU's own events
-- a store of its own is one more that the first lacks
pub own_store_behind : (d : ℕ) (lacking : List Event) (l s t : Plain) (a : ℕ) (size : Size) (x : ℕ) → IsSoundStore s → IsBehind d lacking l
    s → PlainlyAllowed s d (Store a size x) t → IsBehind d (lacking ++ Store a size x ∷ []) l t
own_store_behind d lacking l s t a size x so behind allowed = subst (IsBehind d (lacking ++ Store a size x ∷ []) l) (sym allowed.0.1.2) (record {
  like = record {
    same = behind.like.same;
    spans = λ w. behind.like.spans w ∙ sym (span-after_write s v a n x w);
    fewer = behind.like.fewer;
    others = behind.like.others;
  };
  bytes = λ w i clean. elim (true_or_false (reached s d w)) [
    | inl h ↦ missed_both w i h (last_missed changes lacking (Store a size x) (address s w i)
        (ap (λ (q : Span). changes_any (lacking ++ Store a size x ∷ []) (q.at + i)) (sym (span-after_write s v a n x w)) ∙ clean h))
    | inr h ↦ behind.bytes w i (λ k. let no : true ≡ false = sym k ∙ h in cc) ∙ sym
        (write_there s d v a n so r x w i
        (λ e. let has : reached s d w ≡ true = ap (reached s d) e ∙ (reaches_at s d v a n r).holds in let no : true ≡ false = sym has ∙ h in cc))
  ];
})
  where
    n : ℕ
    n = bytes_in size

    v : ℕ
    v = allowed.0.1.0

    r : Reaches s d v a n
    r = allowed.0.1.1.reaches

    missed_both : (w i : ℕ) → reached s d w ≡ true → (changes_any lacking (address s w i) ≡ false) ×
        (within a (bytes_in size) (address s w i) ≡ false) → at l w i ≡ at (after_write s v a n x) w i
    missed_both w i h both = behind.bytes w i (λ k. both.0) ∙ sym (elim (equal_or_not w v) [
      | inl e ↦ subst (λ (k : ℕ). at (after_write s v a n x) k i ≡ at s k i) (sym e)
          (write_here s d v a n so r x i ∙ not_written a n x (address s v i) (at s v i) (subst (λ (k : ℕ). within a n (address s k i) ≡ false) e both.1))
      | inr far ↦ write_there s d v a n so r x w i far
    ])

-- it may lack more
pub more_behind : (d : ℕ) (lacking more : List Event) (l s : Plain) → ((x : ℕ) → changes_any lacking x ≡ true → changes_any more x ≡ true) →
    IsBehind d lacking l s → IsBehind d more l s
more_behind d lacking more l s all behind = record {
  like = behind.like;
  bytes = λ v i clean. behind.bytes v i (λ h. false_from_ne_true (changes_any lacking (address s v i))
      (λ hit. let no : true ≡ false = sym (all (address s v i) hit) ∙ clean h in cc));
}

-- what neither stores nor drains
pub own_load_behind : (d : ℕ) (lacking : List Event) (l s t : Plain) (a : ℕ) (size : Size) (found : ℕ) → IsBehind d lacking l s →
    PlainlyAllowed s d (Load a size found) t → IsBehind d lacking l t
own_load_behind d lacking l s t a size found behind allowed = subst (IsBehind d lacking l) (sym allowed.0.1.3) behind

pub own_refused_behind : (d : ℕ) (lacking : List Event) (l s t : Plain) (m flags : ℕ) (key bytes : List ℕ) → IsBehind d lacking l s →
    PlainlyAllowed s d (Update m key bytes flags Invalid) t → IsBehind d lacking l t
own_refused_behind d lacking l s t m flags key bytes behind allowed = subst (IsBehind d lacking l) (sym allowed.0.1.4.1) behind

pub own_lookup_behind : (d : ℕ) (lacking : List Event) (l s t : Plain) (m : ℕ) (key : List ℕ) (found : Option Span) → IsBehind d lacking l s
    → PlainlyAllowed s d (Lookup m key found) t → IsBehind d lacking l t
own_lookup_behind d lacking l s t m key found behind allowed = subst (IsBehind d lacking l) (sym allowed.0.1.2) (looked (get (s.maps m) key))
  where
    looked : (o : Option ℕ) → IsBehind d lacking l (after_lookup s d o)
    looked None = behind
    looked (Some v) = record {
      like = record {
        same = behind.like.same;
        spans = behind.like.spans;
        fewer = λ c w h. put_pair-old s.held d v c w (behind.like.fewer c w h);
        others = λ c ne. behind.like.others c ne ∙ sym (put-other s.held d c (put (s.held d) v true) ne);
      };
      bytes = λ w i clean. behind.bytes w i (λ h. clean (reached_more s (after_lookup s d (Some v)) d w refl (put_pair-old s.held d v d w) h));
    }
