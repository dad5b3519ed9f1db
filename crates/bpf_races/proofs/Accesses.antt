-- What is gathered of what calls touch.
use Rattle.std.proofs.Common.{◌≡◌, ◌∙◌, ℕ, ◌+◌, ◌<◌, ◌≤◌, List, [], ◌∷◌, ◌++◌, Option, Some, None, length, get_or, map, inl, inr, refl, sym, ap, subst, arith}
use Rattle.std.specs.Prelude.{slice_get, option_map}
use Rattle.std.proofs.lemmas.Bool.{cases_lt}
use Rattle.std.proofs.lemmas.List.{length-map}
use Rattle.std.proofs.lemmas.Option.{slice_get-map, slice_get_read, slice_get_within}
use Rattle.bpf_shared.specs.declared.events.Event.{Event}
use Rattle.bpf_events.specs.declared.note.Note.{Note}
use Rattle.bpf_events.specs.Watched.{event_of}
use Rattle.bpf_races.specs.declared.access.Access.{Access}
use Rattle.bpf_races.specs.Touch.{access_of, IsAmong}
use Rattle.bpf_races.specs.Private.Accesses.{Adds, AreAccesses, IsTouched}
use Rattle.bpf_races.proofs.Lists.{in_front, in_last, in_cases}

-- of the first n events
pub record AccessesBelow (events : List Event) (n : ℕ) (accesses : List Access) : Type 0 where
  pub each : (a : Access) → IsAmong accesses a → IsTouched events a
  pub all : (a : Access) (event : Event) (k : ℕ) → k < n → slice_get events k ≡ Some event → access_of event ≡ Some a → IsAmong accesses a

pub none_below : (events : List Event) → AccessesBelow events 0 []
none_below events = record { each = λ a (i, at). cc; all = λ a event k less at is. absurd (omega arith) }

-- the note that is read
pub event_at : (notes : List Note) (n : ℕ) (note : Note) → n < length notes → note ≡ get_or notes n note → slice_get (map event_of notes) n
    ≡ Some (event_of note)
event_at notes n note inside read =
    slice_get-map event_of notes n ∙ ap (λ (o : Option Note). option_map event_of o) (slice_get_read notes (length notes) n note refl inside read)

same_event : (o : Option Event) (event other : Event) → o ≡ Some event → o ≡ Some other → event ≡ other
same_event o event other a b = let both : Some event ≡ Some other = sym a ∙ b in cc

pub none_more : (events : List Event) (n : ℕ) (accesses : List Access) (event : Event) → AccessesBelow events n accesses → slice_get events
    n ≡ Some event → access_of event ≡ None → AccessesBelow events (n + 1) accesses
none_more events n accesses event far here none = record {
  each = far.each;
  all = λ a other k less at is. elim (cases_lt k n) [
    | inl below ↦ far.all a other k below at is
    | inr past ↦
        let e : k ≡ n = omega arith in
        let same : event ≡ other = same_event (slice_get events n) event other here (ap (λ (i : ℕ). slice_get events i) (sym e) ∙ at) in
        let no : None ≡ Some a = sym none ∙ (ap (λ (x : Event). access_of x) same ∙ is) in
        cc
  ];
}

pub one_more : (events : List Event) (n : ℕ) (old new : List Access) (event : Event) (access : Access) → AccessesBelow events n old →
    slice_get events n ≡ Some event → access_of event ≡ Some access → new ≡ old ++ access ∷ [] → AccessesBelow events (n + 1) new
one_more events n old new event access far here some is = subst (AccessesBelow events (n + 1)) (sym is) (record {
  each = λ a there. elim (in_cases old access a there) [
    | inl before ↦ far.each a before
    | inr same ↦ subst (λ (x : Access). IsTouched events x) (sym same) (event, (n, here), some)
  ];
  all = λ a other k less at touched. elim (cases_lt k n) [
    | inl below ↦ in_front old access a (far.all a other k below at touched)
    | inr past ↦
        let e : k ≡ n = omega arith in
        let same : event ≡ other = same_event (slice_get events n) event other here (ap (λ (i : ℕ). slice_get events i) (sym e) ∙ at) in
        let two : Some access ≡ Some a = sym some ∙ (ap (λ (x : Event). access_of x) same ∙ touched) in
        let one : access ≡ a = cc in
        subst (λ (x : Access). IsAmong (old ++ access ∷ []) x) one (in_last old access)
  ];
})

pub next_below : (events : List Event) (n : ℕ) (old new : List Access) (event : Event) → AccessesBelow events n old → slice_get events n ≡
    Some event → Adds old (access_of event) new → AccessesBelow events (n + 1) new
next_below events n old new event far here adds = go (access_of event) refl adds
  where
    go : (o : Option Access) → access_of event ≡ o → Adds old o new → AccessesBelow events (n + 1) new
    go None none same = subst (AccessesBelow events (n + 1)) (sym same) (none_more events n old event far here none)
    go (Some a) some is = one_more events n old new event a far here some is

pub all_below : (notes : List Note) (n : ℕ) (accesses : List Access) → length notes ≤ n → AccessesBelow (map event_of notes) n accesses →
    AreAccesses (map event_of notes) accesses
all_below notes n accesses past far = record {
  each = far.each;
  all = λ a (event, (k, at), is).
      (let inside = slice_get_within (map event_of notes) k event at in let count = length-map notes event_of in far.all a event k (omega arith) at is);
}
