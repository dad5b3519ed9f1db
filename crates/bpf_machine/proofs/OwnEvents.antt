-- Over a `PlainStore` a CPU's events are all that a passage has, and they lead from store to store.
use Rattle.std.proofs.Common.{◌≡◌, ◌≢◌, ℕ, ◌<◌, Bool, true, false, List, [], ◌∷◌, Option, Some, None, inl, inr, refl, sym, ap, subst, ◌∙◌}
use Rattle.std.proofs.Common.{if◌then◌else◌, length, eq-eqb, ne_eqb}
use Rattle.std.specs.Prelude.{map}
use Rattle.std.proofs.lemmas.Bool.{lt-ltb}
use Rattle.bpf_shared.specs.declared.events.Event.{Event}
use Rattle.bpf_shared.specs.declared.events.Entry.{Entry}
use Rattle.bpf_shared.specs.declared.events.Event.TheVariants.{Begin, End, Lookup, Update, Delete, Keys, Load, Store, Atomic}
use Rattle.bpf_shared.specs.declared.events.MapAnswer.{MapAnswer}
use Rattle.bpf_shared.specs.declared.events.MapAnswer.TheVariants.{Done, Invalid, Busy, Exists, Absent, Full, NoMemory}
use Rattle.bpf_shared.specs.declared.shapes.MapShape.{MapShape}
use Rattle.bpf_shared.specs.Shape.{Shape}
use Rattle.bpf_shared.specs.Store.{Plain, put}
use Rattle.bpf_shared.specs.Events.{after_lookup, Updates, Deletes, Allowed}
use Rattle.bpf_shared.specs.History.{PlainlyLegal, events_of, entry}
use Rattle.bpf_shared.specs.Choice.{PlainlyAllowed}
use Rattle.bpf_shared.specs.Passage.{Calls}
use Rattle.bpf_shared.specs.Chain.{Chain}
use Rattle.bpf_shared.proofs.Chains.{chain_one}
use Rattle.bpf_shared.specs.Sound.{IsSoundStore}
use Rattle.bpf_shared.proofs.Puts.{equal_or_not, put_cases}
use Rattle.bpf_plain.specs.PlainStore.{Contents, has_cpu, StandsFor, Passes}
use Rattle.bpf_plain.proofs.Served.{runs_are_served}

-- each CPU that is in a run is one of the store's
abbrev pub RunsWithin : Plain → Type 0
RunsWithin s = (c : ℕ) → s.running c ≡ true → c < s.shape.cpus

-- an event of a CPU of the store, and what it keeps
record Kept (s : Plain) (c : ℕ) (t : Plain) : Type 0 where
  below : c < s.shape.cpus
  shape : t.shape ≡ s.shape
  within : RunsWithin t

-- a run's event leaves the shape, and begins no run
module _ (s : Plain) (c : ℕ) (within : RunsWithin s) (runs : s.running c ≡ true) where
  stays : (t : Plain) → t.shape ≡ s.shape → ((d : ℕ) → t.running d ≡ true → s.running d ≡ true) → Kept s c t
  stays t shape still = record {
    below = within c runs;
    shape = shape;
    within = λ d q. subst (λ (h : Shape). d < h.cpus) (sym shape) (within d (still d q));
  }

  -- the store after it is one with the same shape and runs
  is : (t u : Plain) → t ≡ u → u.shape ≡ s.shape → u.running ≡ s.running → Kept s c t
  is t u e shape running =
      stays t (ap (λ (x : Plain). x.shape) e ∙ shape) (λ d q. ap (λ (f : ℕ → Bool). f d) (sym (ap (λ (x : Plain). x.running) e ∙ running)) ∙ q)

  found : (t : Plain) (o : Option ℕ) → t ≡ after_lookup s c o → Kept s c t
  found t None e = is t s e refl refl
  found t (Some v) e = is t (after_lookup s c (Some v)) e refl refl

  updated : (t : Plain) (m : ℕ) (h : MapShape) (key bytes : List ℕ) (flags : ℕ) (answer : MapAnswer) → Updates s m h key bytes flags answer t → Kept s c t
  updated t m h key bytes flags Done u = is t _ u.1.2 refl refl
  updated t m h key bytes flags Invalid u = is t s u.1 refl refl
  updated t m h key bytes flags Busy u = is t s u.1 refl refl
  updated t m h key bytes flags Exists u = is t s u.1 refl refl
  updated t m h key bytes flags Absent u = is t s u.1 refl refl
  updated t m h key bytes flags Full u = is t s u.1 refl refl
  updated t m h key bytes flags NoMemory u = is t s u.1 refl refl

  deleted : (t : Plain) (m : ℕ) (key : List ℕ) (answer : MapAnswer) → Deletes s m key answer t → Kept s c t
  deleted t m key Done d = is t _ d.1 refl refl
  deleted t m key Busy d = is t s d refl refl
  deleted t m key Absent d = is t s d.1 refl refl
  deleted t m key Invalid d = absurd d
  deleted t m key Exists d = absurd d
  deleted t m key Full d = absurd d
  deleted t m key NoMemory d = absurd d

allowed_kept : (s t : Plain) (c : ℕ) (e : Event) → RunsWithin s → Allowed s c e t → Kept s c t
allowed_kept s t c Begin within a = record {
  below = a.0;
  shape = ap (λ (x : Plain). x.shape) a.2;
  within = λ d q.
      let r : put s.running c true d ≡ true = ap (λ (x : Plain). x.running d) (sym a.2) ∙ q in
      let below : d < s.shape.cpus = elim (put_cases s.running c d true) [
        | inl k ↦ subst (λ (n : ℕ). n < s.shape.cpus) (sym k.0) a.0
        | inr k ↦ within d (sym k.1 ∙ r)
      ] in
      subst (λ (x : Plain). d < x.shape.cpus) (sym a.2) below;
}
allowed_kept s t c End within a = stays s c within a.0 t (ap (λ (x : Plain). x.shape) a.1) (λ d q.
    let r : put s.running c false d ≡ true = ap (λ (x : Plain). x.running d) (sym a.1) ∙ q in
    elim (put_cases s.running c d false) [ inl k ↦ (let no : false ≡ true = sym k.1 ∙ r in cc) | inr k ↦ sym k.1 ∙ r ])
allowed_kept s t c (Lookup m key answer) within a = found s c within a.0 t _ a.1.2
allowed_kept s t c (Update m key bytes flags answer) within a = updated s c within a.0 t m a.1.0 key bytes flags answer a.1.4
allowed_kept s t c (Delete m key answer) within a = deleted s c within a.0 t m key answer a.1.1
allowed_kept s t c (Keys m ks) within a = record {
  below = a.0;
  shape = ap (λ (x : Plain). x.shape) a.3;
  within = subst RunsWithin (sym a.3) within;
}
allowed_kept s t c (Load at size number) within a = is s c within a.0 t s a.1.3 refl refl
allowed_kept s t c (Store at size word) within a = is s c within a.0 t _ a.1.2 refl refl
allowed_kept s t c (Atomic at size op operand expected number) within a = is s c within a.0 t _ a.1.3 refl refl

-- a plain history leaves the shape
pub legal_shape : (s t : Plain) (log : List Entry) → RunsWithin s → PlainlyLegal s log t → (t.shape ≡ s.shape) × RunsWithin t
legal_shape s t [] within legal =
    (ap (λ (x : Plain). x.shape) (sym legal), subst RunsWithin legal within)
legal_shape s t (x ∷ xs) within legal =
    let kept = allowed_kept s legal.0 x.cpu x.event within legal.1.0 in
    let rest = legal_shape legal.0 t xs kept.within legal.2 in
    (rest.0 ∙ kept.shape, rest.1)

-- ---- the events of one CPU
events_of-here : (c : ℕ) (x : Entry) (xs : List Entry) → x.cpu ≡ c → events_of c (x ∷ xs) ≡ x.event ∷ events_of c xs
events_of-here c x xs e = ap (λ (b : Bool). if b then x.event ∷ events_of c xs else events_of c xs) (eq-eqb x.cpu c e)

events_of-elsewhere : (c : ℕ) (x : Entry) (xs : List Entry) → x.cpu ≢ c → events_of c (x ∷ xs) ≡ events_of c xs
events_of-elsewhere c x xs ne = ap (λ (b : Bool). if b then x.event ∷ events_of c xs else events_of c xs) (ne_eqb x.cpu c ne)

-- where no other CPU of the store has events, a history is the CPU's events
history_is_own : (s t : Plain) (c : ℕ) (log : List Entry) → RunsWithin s → PlainlyLegal s log t →
    ((d : ℕ) → d < s.shape.cpus → d ≢ c → events_of d log ≡ []) → log ≡ map (entry c) (events_of c log)
history_is_own s t c [] within legal foreign = refl
history_is_own s t c (x ∷ xs) within legal foreign =
    let kept = allowed_kept s legal.0 x.cpu x.event within legal.1.0 in
    elim (equal_or_not x.cpu c) [
      | inl e ↦
          let others : (d : ℕ) → d < legal.0.shape.cpus → d ≢ c → events_of d xs ≡ [] =
          λ d l ne. sym (events_of-elsewhere d x xs (λ q. ne (sym q ∙ e))) ∙ foreign d (subst (λ (h : Shape). d < h.cpus) kept.shape l) ne
          in
          let rest : xs ≡ map (entry c) (events_of c xs) = history_is_own legal.0 t c xs kept.within legal.2 others in
          let first : x ≡ entry c x.event = ap (λ (n : ℕ). entry n x.event) e in
          ap (λ (l : List Entry). x ∷ l) rest ∙ (ap (λ (y : Entry). y ∷ map (entry c) (events_of c xs)) first ∙ ap
          (λ (es : List Event). map (entry c) es) (sym (events_of-here c x xs e)))
      | inr ne ↦
          let none : x.event ∷ events_of x.cpu xs ≡ [] = sym (events_of-here x.cpu x xs refl) ∙ foreign x.cpu kept.below ne in
          cc
    ]

-- ---- passages
pub shown_within : (p : Contents) (s : Plain) → StandsFor p s → RunsWithin s
shown_within p s shows = runs_are_served p s shows

-- from each plain store that the first value shows, the CPU's events lead to one that the second shows
abbrev pub Leads : Contents → ℕ → List Event → Contents → Type 0
Leads x c events y = (s : Plain) → IsSoundStore s → StandsFor x s → (t : Plain) × PlainlyLegal s (map (entry c) events) t × IsSoundStore t × StandsFor y t

pub chain_leads : (x y : Contents) (c : ℕ) (events : List Event) → Chain Passes has_cpu c x y events → Leads x c events y
chain_leads x y c events chain s sound shows =
    let end = chain.passage s sound shows in
    let foreign : (d : ℕ) → d < s.shape.cpus → d ≢ c → events_of d chain.log ≡ [] =
    λ d l ne. chain.foreign d (lt-ltb d (length x.maps.runs) (subst (λ (n : ℕ). d < n) shows.maps.cpus l)) ne
    in
    let own : chain.log ≡ map (entry c) events = history_is_own s end.0 c chain.log (shown_within x s shows) end.1 foreign ∙ ap
    (λ (es : List Event). map (entry c) es) chain.own in
    (end.0, subst (λ (l : List Entry). PlainlyLegal s l end.0) own end.1, end.2, end.3)

-- a call alone
pub call_leads : (x y : Contents) (c : ℕ) (e : Event) → has_cpu x c ≡ true → Calls (Passes x y) (has_cpu x) c e → has_cpu y ≡ has_cpu x
    → (s : Plain) → IsSoundStore s → StandsFor x s → (t : Plain) × PlainlyAllowed s c e t × IsSoundStore t × StandsFor y t
call_leads x y c e served call same s sound shows =
    let r = chain_leads x y c (e ∷ []) (chain_one Passes has_cpu c x y e served call same) s sound shows in
    (r.0, subst (λ (m : Plain). PlainlyAllowed s c e m) r.1.2 r.1.1, r.2, r.3)
