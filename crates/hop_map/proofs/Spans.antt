-- Each span that a lookup of a legal history found is that of an element of its map.
use Rattle.std.proofs.Common.{◌≡◌, ℕ, zero, suc, ◌+◌, ◌<◌, Bool, true, false, true≢false, List, [], ◌∷◌, ◌++◌, length, slice_get, Option}
use Rattle.std.proofs.Common.{Some, None, inl, inr, ◌==◌, if◌then◌else◌, refl, sym, ap, subst, ◌∙◌, arith, IfSome}
use Rattle.std.proofs.lemmas.Bool.Decides.{nat_tests}
use Rattle.std.specs.FinMap.{get, insert, remove, get-empty}
use Rattle.std.specs.Ordering.{nat_cmp}
use Rattle.std.specs.Cmp.Lexicographic.{slice_cmp}
use Rattle.std.proofs.lemmas.Bool.{or_cases, and_parts}
use Rattle.bpf_shared.specs.declared.events.Span.{Span}
use Rattle.bpf_shared.specs.declared.events.Event.{Event}
use Rattle.bpf_shared.specs.declared.events.Event.TheVariants.{Begin, End, Lookup, Update, Delete, Keys, Load, Store, Atomic}
use Rattle.bpf_shared.specs.declared.events.MapAnswer.{MapAnswer}
use Rattle.bpf_shared.specs.declared.events.MapAnswer.TheVariants.{Done, Invalid, Busy, Exists, Absent, Full, NoMemory}
use Rattle.bpf_shared.specs.declared.events.Entry.{Entry}
use Rattle.bpf_shared.specs.declared.shapes.MapShape.{MapShape}
use Rattle.bpf_shared.specs.Shape.{Shape, IsMap, IsShape, IsElementSpan, IsValueSpan}
use Rattle.bpf_shared.specs.Store.{KeyMap, Value, Plain, as_made, Finds, put}
use Rattle.bpf_shared.specs.Events.{Allowed, Updates, Deletes, after_write, after_lookup, span_of}
use Rattle.bpf_shared.specs.History.{Legal, IsLegal, events_of, entry}
use Rattle.bpf_shared.specs.Passage.{same_span}
use Rattle.bpf_shared.specs.Own.{no_span, held_since, held_from, held_by}
use Rattle.bpf_shared.proofs.Puts.{put_cases, insert_cases, remove_cases, put-other}
use Rattle.bpf_shared.proofs.Soundness.{span-after_write}
use Rattle.bpf_shared.proofs.Histories.{history_cut}
use Rattle.bpf_shared.proofs.Places.{stride_most, reach_most}

-- a store of these maps, in which each key leads to a value that was made, in an element of its map
record Lies (maps : List MapShape) (s : Plain) : Type 0 where
  pub shape : s.shape.maps ≡ maps
  pub made : (m : ℕ) (key : List ℕ) (v : ℕ) → Finds s m key v → v < s.made
  pub each : (m : ℕ) (key : List ℕ) (v : ℕ) → Finds s m key v → IsElementSpan maps m (s.value v).span

same_lies : (maps : List MapShape) (s t : Plain) → t ≡ s → Lies maps s → Lies maps t
same_lies maps s t e l = subst (Lies maps) (sym e) l

update_lies : (maps : List MapShape) (s t : Plain) (m : ℕ) (h : MapShape) (key bytes : List ℕ) (flags : ℕ) (answer : MapAnswer)
    → Lies maps s → IsMap s.shape.maps m h → Updates s m h key bytes flags answer t → Lies maps t
update_lies maps s t m h key bytes flags Done l is u = subst (Lies maps) (sym u.1.2) (record { shape = l.shape; made = counted; each = found })
  where
    x : Value
    x = record { bytes = bytes; span = u.1.0 }

    here : IsElementSpan maps m u.1.0
    here = let e = u.1.1.element in (h, e.0, subst (λ (z : List MapShape). IsMap z m h) l.shape is, e.1, e.2)

    old : (n : ℕ) (q : List ℕ) (v : ℕ) → Finds s n q v → IsElementSpan maps n (put s.value s.made x v).span
    old n q v f =
        let below : v < s.made = l.made n q v f in
        subst (λ (y : Value). IsElementSpan maps n y.span) (sym (put-other s.value s.made v x (λ e. omega arith))) (l.each n q v f)

    counted : (n : ℕ) (q : List ℕ) (v : ℕ) → get (put s.maps m (insert (s.maps m) key s.made) n) q ≡ Some v → v < s.made + 1
    counted n q v f = elim (put_cases s.maps m n (insert (s.maps m) key s.made)) [
      | inr k ↦ (let b = l.made n q v (sym (ap (λ (z : KeyMap). get z q) k.1) ∙ f) in omega arith)
      | inl k ↦ elim (insert_cases (s.maps m) key s.made q) [
        | inl i ↦ (let made : Some v ≡ Some s.made = sym f ∙ (ap (λ (z : KeyMap). get z q) k.1 ∙ i.1) in let e : v ≡ s.made = cc in omega arith)
        | inr i ↦ (let b = l.made m q v (sym i ∙ (sym (ap (λ (z : KeyMap). get z q) k.1) ∙ f)) in omega arith)
      ]
    ]

    found : (n : ℕ) (q : List ℕ) (v : ℕ) → get (put s.maps m (insert (s.maps m) key s.made) n) q ≡ Some v → IsElementSpan maps n (put s.value s.made x v).span
    found n q v f = elim (put_cases s.maps m n (insert (s.maps m) key s.made)) [
      | inr k ↦ old n q v (sym (ap (λ (z : KeyMap). get z q) k.1) ∙ f)
      | inl k ↦ elim (insert_cases (s.maps m) key s.made q) [
        | inl i ↦ (let made : Some v ≡ Some s.made = sym f ∙ (ap (λ (z : KeyMap). get z q) k.1 ∙ i.1) in
            let e : v ≡ s.made = cc in
            subst (λ (j : ℕ). IsElementSpan maps j (put s.value s.made x v).span) (sym k.0)
            (elim (put_cases s.value s.made v x) [
              | inl p ↦ subst (λ (y : Value). IsElementSpan maps m y.span) (sym p.1) here
              | inr p ↦ absurd (p.0 e)
            ]))
        | inr i ↦ subst (λ (j : ℕ). IsElementSpan maps j (put s.value s.made x v).span) (sym k.0)
            (old m q v (sym i ∙ (sym (ap (λ (z : KeyMap). get z q) k.1) ∙ f)))
      ]
    ]
update_lies maps s t m h key bytes flags Invalid l is u = same_lies maps s t u.1 l
update_lies maps s t m h key bytes flags Busy l is u = same_lies maps s t u.1 l
update_lies maps s t m h key bytes flags Exists l is u = same_lies maps s t u.1 l
update_lies maps s t m h key bytes flags Absent l is u = same_lies maps s t u.1 l
update_lies maps s t m h key bytes flags Full l is u = same_lies maps s t u.1 l
update_lies maps s t m h key bytes flags NoMemory l is u = same_lies maps s t u.1 l

delete_lies : (maps : List MapShape) (s t : Plain) (m : ℕ) (key : List ℕ) (answer : MapAnswer) → Lies maps s → Deletes s m key answer t → Lies maps t
delete_lies maps s t m key Done l u = subst (Lies maps) (sym u.1) (record { shape = l.shape; made = counted; each = found })
  where
    counted : (n : ℕ) (q : List ℕ) (v : ℕ) → get (put s.maps m (remove (s.maps m) key) n) q ≡ Some v → v < s.made
    counted n q v f = elim (put_cases s.maps m n (remove (s.maps m) key)) [
      | inr k ↦ l.made n q v (sym (ap (λ (z : KeyMap). get z q) k.1) ∙ f)
      | inl k ↦ elim (remove_cases (s.maps m) key q) [
        | inl i ↦ (let none : None ≡ Some v = sym i.1 ∙ (sym (ap (λ (z : KeyMap). get z q) k.1) ∙ f) in cc)
        | inr i ↦ l.made m q v (sym i ∙ (sym (ap (λ (z : KeyMap). get z q) k.1) ∙ f))
      ]
    ]

    found : (n : ℕ) (q : List ℕ) (v : ℕ) → get (put s.maps m (remove (s.maps m) key) n) q ≡ Some v → IsElementSpan maps n (s.value v).span
    found n q v f = elim (put_cases s.maps m n (remove (s.maps m) key)) [
      | inr k ↦ l.each n q v (sym (ap (λ (z : KeyMap). get z q) k.1) ∙ f)
      | inl k ↦ elim (remove_cases (s.maps m) key q) [
        | inl i ↦ (let none : None ≡ Some v = sym i.1 ∙ (sym (ap (λ (z : KeyMap). get z q) k.1) ∙ f) in cc)
        | inr i ↦ subst (λ (j : ℕ). IsElementSpan maps j (s.value v).span) (sym k.0)
            (l.each m q v (sym i ∙ (sym (ap (λ (z : KeyMap). get z q) k.1) ∙ f)))
      ]
    ]
delete_lies maps s t m key Busy l u = same_lies maps s t u l
delete_lies maps s t m key Absent l u = same_lies maps s t u.1 l
delete_lies maps s t m key Invalid l u = absurd u
delete_lies maps s t m key Exists l u = absurd u
delete_lies maps s t m key Full l u = absurd u
delete_lies maps s t m key NoMemory l u = absurd u

looked_lies : (maps : List MapShape) (s : Plain) (c : ℕ) (o : Option ℕ) → Lies maps s → Lies maps (after_lookup s c o)
looked_lies maps s c None l = l
looked_lies maps s c (Some v) l = record { shape = l.shape; made = l.made; each = l.each }

write_lies : (maps : List MapShape) (s : Plain) (v a n x : ℕ) → Lies maps s → Lies maps (after_write s v a n x)
write_lies maps s v a n x l = record {
  shape = l.shape;
  made = l.made;
  each = λ m key w f. subst (IsElementSpan maps m) (sym (span-after_write s v a n x w)) (l.each m key w f);
}

event_lies : (maps : List MapShape) (s t : Plain) (c : ℕ) (e : Event) → Lies maps s → Allowed s c e t → Lies maps t
event_lies maps s t c Begin l a = subst (Lies maps) (sym a.2) (record { shape = l.shape; made = l.made; each = l.each })
event_lies maps s t c End l a = subst (Lies maps) (sym a.1) (record { shape = l.shape; made = l.made; each = l.each })
event_lies maps s t c (Lookup m key answer) l a = subst (Lies maps) (sym a.1.2) (looked_lies maps s c (get (s.maps m) key) l)
event_lies maps s t c (Update m key bytes flags answer) l a = update_lies maps s t m a.1.0 key bytes flags answer l a.1.1 a.1.4
event_lies maps s t c (Delete m key answer) l a = delete_lies maps s t m key answer l a.1.1
event_lies maps s t c (Keys m ks) l a = subst (Lies maps) (sym a.3) l
event_lies maps s t c (Load at size found) l a = same_lies maps s t a.1.3 l
event_lies maps s t c (Store at size x) l a = subst (Lies maps) (sym a.1.2) (write_lies maps s a.1.0 at _ _ l)
event_lies maps s t c (Atomic at size op operand expected found) l a = subst (Lies maps) (sym a.1.3) (write_lies maps s a.1.0 at _ _ l)

history_lies : (maps : List MapShape) (s t : Plain) (log : List Entry) → Lies maps s → Legal s log t → Lies maps t
history_lies maps s t [] l p = subst (Lies maps) p l
history_lies maps s t (x ∷ xs) l p = history_lies maps p.0 t xs (event_lies maps s p.0 x.cpu x.event l p.1) p.2

as_made_lies : (h : Shape) → Lies h.maps (as_made h)
as_made_lies h = record {
  shape = refl;
  made = λ m key v f. let none : None ≡ Some v = sym (get-empty {X = ℕ} (slice_cmp nat_cmp) key) ∙ f in cc;
  each = λ m key v f. let none : None ≡ Some v = sym (get-empty {X = ℕ} (slice_cmp nat_cmp) key) ∙ f in cc;
}

-- ---- what a lookup found
found_lies : (maps : List MapShape) (s : Plain) (m : ℕ) (key : List ℕ) (p : Span) (o : Option ℕ) → Lies maps s → get (s.maps m) key ≡ o →
    Some p ≡ span_of s o → IsElementSpan maps m p
found_lies maps s m key p None l is e = let no : Some p ≡ None = e in cc
found_lies maps s m key p (Some v) l is e =
    let same : p ≡ (s.value v).span = (let k : Some p ≡ Some ((s.value v).span) = e in cc) in
    subst (IsElementSpan maps m) (sym same) (l.each m key v is)

lookup_lies : (maps : List MapShape) (s t : Plain) (c m : ℕ) (key : List ℕ) (p : Span) → Lies maps s → Allowed s c (Lookup m key (Some p)) t
    → IsElementSpan maps m p
lookup_lies maps s t c m key p l a = found_lies maps s m key p (get (s.maps m) key) l refl a.1.1

-- the last event of a legal history is a lookup that found a span
pub last_found_lies : (h : Shape) (log others : List Entry) (c m : ℕ) (key : List ℕ) (o : Option Span)
    → IsLegal h (log ++ (others ++ entry c (Lookup m key o) ∷ [])) → IfSome o (IsElementSpan h.maps m)
last_found_lies h log others c m key None l = tt
last_found_lies h log others c m key (Some p) l =
    let first = history_cut Allowed (as_made h) l.0 log (others ++ entry c (Lookup m key (Some p)) ∷ []) l.1 in
    let second = history_cut Allowed first.0 l.0 others (entry c (Lookup m key (Some p)) ∷ []) first.2 in
    let lie = history_lies h.maps (as_made h) first.0 log (as_made_lies h) first.1 in
    let then_lie = history_lies h.maps first.0 second.0 others lie second.1 in
    lookup_lies h.maps second.0 second.2.0 c m key p then_lie second.2.1

-- ---- what a CPU's own events hold

same_spans : (q p : Span) → same_span q p ≡ true → q ≡ p
same_spans q p h =
    let b = and_parts (q.at == p.at) (q.size == p.size) h in
    let x : q.at ≡ p.at = (let k = b.0 in grind (arith, nat_tests)) in
    let y : q.size ≡ p.size = (let k = b.1 in grind (arith, nat_tests)) in
    λ i. record { at = x i; size = y i }

abbrev Lie : List MapShape → (Span → Bool) → Type 0
Lie maps f = (q : Span) → f q ≡ true → (m : ℕ) × IsElementSpan maps m q

since_lie : (maps : List MapShape) (s t : Plain) (c : ℕ) (e : Event) (f : Span → Bool) → Lies maps s → Allowed s c e t → Lie maps f → Lie maps (held_since f e)
since_lie maps s t c Begin f l a g = λ q h. absurd (true≢false (sym h))
since_lie maps s t c End f l a g = λ q h. absurd (true≢false (sym h))
since_lie maps s t c (Lookup m key None) f l a g = g
since_lie maps s t c (Lookup m key (Some p)) f l a g = λ q h. elim (or_cases (same_span q p) (f q) h) [
  | inl k ↦ (m, subst (IsElementSpan maps m) (sym (same_spans q p k)) (lookup_lies maps s t c m key p l a))
  | inr k ↦ g q k
]
since_lie maps s t c (Update m key bytes flags answer) f l a g = g
since_lie maps s t c (Delete m key answer) f l a g = g
since_lie maps s t c (Keys m ks) f l a g = g
since_lie maps s t c (Load at size found) f l a g = g
since_lie maps s t c (Store at size x) f l a g = g
since_lie maps s t c (Atomic at size op operand expected found) f l a g = g

told_lie : (maps : List MapShape) (c : ℕ) (s t : Plain) (log : List Entry) (f : Span → Bool) → Lies maps s → Legal s log t → Lie maps f →
    Lie maps (held_from f (events_of c log))
told_lie maps c s t [] f l p g = g
told_lie maps c s t (x ∷ xs) f l p g =
    let l2 = event_lies maps s p.0 x.cpu x.event l p.1 in
    go (told_lie maps c p.0 t xs (held_since f x.event) l2 p.2 (since_lie maps s p.0 x.cpu x.event f l p.1 g))
    (told_lie maps c p.0 t xs f l2 p.2 g) (x.cpu == c)
  where
    go : Lie maps (held_from (held_since f x.event) (events_of c xs)) → Lie maps (held_from f (events_of c xs)) → (b : Bool) → Lie maps
        (held_from f (if b then x.event ∷ events_of c xs else events_of c xs))
    go own other true = own
    go own other false = other

-- each span that a CPU's own events hold is that of an element
pub held_spans_lie : (h : Shape) (c : ℕ) (log : List Entry) → IsLegal h log → (q : Span) → held_by (events_of c log) q ≡ true → (m : ℕ) ×
    IsElementSpan h.maps m q
held_spans_lie h c log l = told_lie h.maps c (as_made h) l.0 log no_span (as_made_lies h) l.1 (λ q k. absurd (true≢false (sym k)))

-- an element's span lies among the addresses of values
there : {A : Type 0} (xs : List A) (m : ℕ) (x : A) → slice_get xs m ≡ Some x → m < length xs
there [] m x e = absurd (none_there e)
  where
    none_there : None ≡ Some x → ⊥
    none_there q = cc
there (y ∷ xs) zero x e = omega arith
there (y ∷ xs) (suc m) x e = let z = there xs m x e in omega arith

pub element_in_range : (h : Shape) (m : ℕ) (p : Span) → IsShape h → IsElementSpan h.maps m p → IsValueSpan p
element_in_range h m p s (g, i, is, inside, at) = subst IsValueSpan (sym at) (
    let sized = s.each m g is in
    let few = there h.maps m g is in
    let most = s.count in
    let reach = reach_most g i sized inside in
    let stride = stride_most g sized in
    record { from = omega arith; to = (let a = stride.0 in let b = stride.1 in omega arith); size = sized.value })

pub found_in_range : (h : Shape) (m : ℕ) (o : Option Span) → IsShape h → IfSome o (IsElementSpan h.maps m) → IfSome o IsValueSpan
found_in_range h m None s e = tt
found_in_range h m (Some p) s e = element_in_range h m p s e
