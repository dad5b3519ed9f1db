-- What a call of a port is to the shared store that has the port.
use Rattle.std.proofs.Common.{◌≡◌, ℕ, Bool, true, false, List, [], ◌∷◌, ◌++◌, ◌==◌, ◌&&◌, ◌||◌, if◌then◌else◌, refl, ap, sym, ◌∙◌, subst}
use Rattle.std.proofs.Common.{arith, Option, Some, None, Result, Ok, Err, OnOk, OnErr, inl}
use Rattle.std.proofs.lemmas.Bool.Decides.{nat_tests}
use Rattle.bpf_shared.specs.declared.sharing.Worn.{Worn}
use Rattle.bpf_shared.specs.declared.events.Span.{Span}
use Rattle.bpf_shared.specs.declared.events.Event.{Event}
use Rattle.bpf_shared.specs.declared.events.Event.TheVariants.{Begin, End, Lookup}
use Rattle.bpf_shared.specs.History.{events_of, entry}
use Rattle.bpf_shared.specs.Own.{no_span, held_since, held_from, held_by}
use Rattle.bpf_shared.specs.Passage.{Calls, IsWritable, same_span, held_with, held_without}
use Rattle.bpf_shared.proofs.Chains.{events_of-append, events_of-own}
use Rattle.hop_words.specs.Inside.{Shown}
use Rattle.hop_map.specs.Port.{Port, PortDoes, own_events, runs, port_holds}
use Rattle.hop_map.specs.Noting.{CallNotes, CallsNote}
use Rattle.hop_map.proofs.Ports.{own_after}
use Rattle.hop_cpu.specs.Serving.{Serving, serves, running, serves_span}
use Rattle.hop_cpu.specs.Passing.{ExtendsHistory}
use Rattle.hop_cpu.specs.Lemmas.Passing.{nothing}

abbrev pub with_port : Shown → Port → Serving
with_port t p = record { table = t; port = p }

pub own_cpu : (p : Port) (c : ℕ) → (c == p.known.cpu) ≡ true → p.known.cpu ≡ c
own_cpu p c served = grind (arith, nat_tests)

-- of its own CPU, what it says of that CPU is what the port says
pub own_value : (p : Port) (c : ℕ) (b x : Bool) → (c == p.known.cpu) ≡ true → ((c == p.known.cpu) && x) ≡ b → x ≡ b
own_value p c b x served is = ap (λ (t : Bool). t && x) (sym served) ∙ is

module _ (t : Shown) (p q : Port) (c : ℕ) (e : Event) (d : PortDoes t.about p e q) where
  own_event : events_of p.known.cpu (d.seen.others ++ entry p.known.cpu e ∷ []) ≡ e ∷ []
  own_event =
      events_of-append p.known.cpu d.seen.others (entry p.known.cpu e ∷ [])
      ∙ (ap (λ (es : List Event). es ++ events_of p.known.cpu (entry p.known.cpu e ∷ [])) d.seen.foreign ∙ events_of-own p.known.cpu e)

  noted_one : CallNotes t.about e p.known q.known → CallsNote t.about (e ∷ []) p.known q.known
  noted_one (sights, is, may) = (sights, is, (sights, [], refl, inl may, refl))

  -- a call of the CPU that is served
  calls_growing : CallsNote t.about (e ∷ []) p.known q.known → serves (with_port t p) c ≡ true → Calls
      (ExtendsHistory (with_port t p) (with_port t q)) (serves (with_port t p)) c e
  calls_growing notes served = record {
    others = d.seen.others;
    foreign = λ b is. ap (λ (k : ℕ). events_of k d.seen.others) (sym (own_cpu p b is)) ∙ d.seen.foreign;
    passage = record {
      table = refl;
      cpu = d.cpu;
      seen = d.seen.after ∙ ap (λ (k : ℕ). p.known.seen ++ (d.seen.others ++ entry k e ∷ [])) (own_cpu p c served);
      legal = λ l. d.seen.legal;
      noted = subst (λ (es : List Event). CallsNote t.about es p.known q.known)
          (sym own_event ∙ ap (λ (k : ℕ). events_of p.known.cpu (d.seen.others ++ entry k e ∷ [])) (own_cpu p c served)) notes;
    };
  }

  calls : CallNotes t.about e p.known q.known → serves (with_port t p) c ≡ true → Calls (ExtendsHistory (with_port t p) (with_port t q))
      (serves (with_port t p)) c e
  calls notes served = calls_growing (noted_one notes) served

  serves_same : serves (with_port t q) ≡ serves (with_port t p)
  serves_same = λ i b. b == d.cpu i

  -- the CPU is in a run where it was
  runs_on : runs q ≡ runs p → running (with_port t q) ≡ running (with_port t p)
  runs_on still = λ i b. (b == d.cpu i) && still i

  -- what is held after the event
  held_after : port_holds q ≡ held_since (port_holds p) e
  held_after = ap held_by (own_after t.about p.known q.known e d.seen d.cpu) ∙ from_append no_span (own_events p)
    where
      from_append : (f : Span → Bool) (xs : List Event) → held_from f (xs ++ e ∷ []) ≡ held_since (held_from f xs) e
      from_append f [] = refl
      from_append f (x ∷ xs) = from_append (held_since f x) xs

  holds_on : held_since (port_holds p) e ≡ port_holds p → serves_span (with_port t q) ≡ serves_span (with_port t p)
  holds_on same = λ i b s. (b == d.cpu i) && (held_after ∙ same) i s

pub and_false : (b : Bool) → (b && false) ≡ false
and_false true = refl
and_false false = refl

holds_none : (t : Shown) (p q : Port) (c : ℕ) → q.known.cpu ≡ p.known.cpu → serves (with_port t p) c ≡ true → port_holds q ≡ no_span →
    serves_span (with_port t q) ≡ held_without (serves_span (with_port t p)) c
holds_none t p q c cpu served now = λ i b s. go b s (b == c) refl i
  where
    mine : p.known.cpu ≡ c
    mine = own_cpu p c served

    go : (b : ℕ) (s : Span) (same : Bool) → (b == c) ≡ same → ((b == q.known.cpu) && port_holds q s) ≡
        (if b == c then false else ((b == p.known.cpu) && port_holds p s))
    go b s true here = ap (λ (f : Span → Bool). (b == q.known.cpu) && f s) now ∙ (and_false (b == q.known.cpu) ∙ rw here refl)
    go b s false here = ap (λ (f : Span → Bool). (b == q.known.cpu) && f s) now ∙
        (and_false (b == q.known.cpu) ∙ rw here (sym (ap (λ (x : Bool). x && port_holds p s) (ap (λ (k : ℕ). b == k) mine ∙ here))))

holds_more : (t : Shown) (p q : Port) (c m : ℕ) (key : List ℕ) (r : Option Span) → serves (with_port t p) c ≡ true → PortDoes t.about p
    (Lookup m key r) q → serves_span (with_port t q) ≡ held_with (serves_span (with_port t p)) c r
holds_more t p q c m key None served d = holds_on t p q c (Lookup m key None) d refl
holds_more t p q c m key (Some r) served d = λ i b s. go b s (b == c) refl i
  where
    e : Event
    e = Lookup m key (Some r)

    mine : p.known.cpu ≡ c
    mine = own_cpu p c served

    now : port_holds q ≡ held_since (port_holds p) e
    now = held_after t p q c e d

    go : (b : ℕ) (s : Span) (same : Bool) → (b == c) ≡ same → ((b == q.known.cpu) && port_holds q s) ≡
        (((b == c) && same_span s r) || ((b == p.known.cpu) && port_holds p s))
    go b s true here =
        let same : (b == p.known.cpu) ≡ true = ap (λ (k : ℕ). b == k) mine ∙ here in
        ap (λ (k : ℕ). (b == k) && port_holds q s) (d.cpu ∙ mine)
        ∙ (ap (λ (f : Span → Bool). (b == c) && f s) now
        ∙ (ap (λ (x : Bool). x && (same_span s r || port_holds p s)) here
        ∙ (sym (ap (λ (x : Bool). same_span s r || (x && port_holds p s)) same)
        ∙ ap (λ (x : Bool). (x && same_span s r) || ((b == p.known.cpu) && port_holds p s)) (sym here))))
    go b s false here =
        ap (λ (k : ℕ). (b == k) && port_holds q s) (d.cpu ∙ mine)
        ∙ rw here (sym (ap (λ (k : ℕ). (b == k) && port_holds p s) mine ∙ rw here refl))

-- ---- the same of the store's value, which is the table with the port
module _ (x : Serving) (t : Shown) (p : Port) (is : with_port t p ≡ x) (c : ℕ) (served : serves x c ≡ true) where
  own : serves (with_port t p) c ≡ true
  own = subst (λ (z : Serving). serves z c ≡ true) (sym is) served

  pub is_running : (b : Bool) → running x c ≡ b → runs p ≡ b
  is_running b r = own_value p c b (runs p) own (subst (λ (z : Serving). running z c ≡ b) (sym is) r)

  -- where the CPU may write, its port may
  pub is_writable : (a n : ℕ) → IsWritable x.table.about.shape (serves_span x c) a n → IsWritable t.about.shape (port_holds p) a n
  is_writable a n w =
      subst (λ (f : Span → Bool). IsWritable t.about.shape f a n) (λ i q. own i && port_holds p q)
      (subst (λ (z : Serving). IsWritable z.table.about.shape (serves_span z c) a n) (sym is) w)

  module _ (q : Port) (e : Event) (d : PortDoes t.about p e q) where
    pub called : CallNotes t.about e p.known q.known → Calls (ExtendsHistory x (with_port t q)) (serves x) c e
    called notes = subst (λ (z : Serving). Calls (ExtendsHistory z (with_port t q)) (serves z) c e) is (calls t p q c e d notes own)

    pub called_growing : CallsNote t.about (e ∷ []) p.known q.known → Calls (ExtendsHistory x (with_port t q)) (serves x) c e
    called_growing notes = subst (λ (z : Serving). Calls (ExtendsHistory z (with_port t q)) (serves z) c e) is (calls_growing t p q c e d notes own)

    -- an event in a run or out of one, which stays as it is
    pub still : runs q ≡ runs p → (t.about.shape ≡ x.table.about.shape) × (serves (with_port t q) ≡ serves x) × (running (with_port t q) ≡ running x)
    still on = subst (λ (z : Serving). (t.about.shape ≡ z.table.about.shape) × (serves (with_port t q) ≡ serves z) × (running (with_port t q) ≡ running z)) is
        (refl, serves_same t p q c e d, runs_on t p q c e d on)

    -- an event in a run, which goes on
    pub same : running x c ≡ true → runs q ≡ true → (t.about.shape ≡ x.table.about.shape) × (serves (with_port t q) ≡ serves x) ×
        (running (with_port t q) ≡ running x)
    same before after = still (after ∙ sym (is_running true before))

    pub same_held : held_since (port_holds p) e ≡ port_holds p → serves_span (with_port t q) ≡ serves_span x
    same_held k = subst (λ (z : Serving). serves_span (with_port t q) ≡ serves_span z) is (holds_on t p q c e d k)

  pub found_held : (q : Port) (m : ℕ) (key : List ℕ) (r : Option Span) → PortDoes t.about p (Lookup m key r) q → serves_span (with_port t q)
      ≡ held_with (serves_span x) c r
  found_held q m key r d = subst (λ (z : Serving). serves_span (with_port t q) ≡ held_with (serves_span z) c r) is (holds_more t p q c m key r own d)

  pub ended_held : (q : Port) → PortDoes t.about p End q → serves_span (with_port t q) ≡ held_without (serves_span x) c
  ended_held q d = subst (λ (z : Serving). serves_span (with_port t q) ≡ held_without (serves_span z) c) is
      (holds_none t p q c d.cpu own (held_after t p q c End d))

  -- ---- a beginning, which may be refused
  abbrev Begun : Result (Unit {0}) Worn → Port → Type 0
  Begun r q = OnOk r (PortDoes t.about p Begin q)

  pub begun : (q : Port) (r : Result (Unit {0}) Worn) → Begun r q → OnOk r (CallNotes t.about Begin p.known q.known) → OnOk r
      (Calls (ExtendsHistory x (with_port t q)) (serves x) c Begin)
  begun q (Ok u) d notes = called q Begin d notes
  begun q (Err w) d notes = tt

  pub begun_held : (q : Port) (r : Result (Unit {0}) Worn) → Begun r q → OnOk r (serves_span (with_port t q) ≡ held_without (serves_span x) c)
  begun_held q (Ok u) d = subst (λ (z : Serving). serves_span (with_port t q) ≡ held_without (serves_span z) c) is
      (holds_none t p q c d.cpu own (held_after t p q c Begin d))
  begun_held q (Err w) d = tt

  pub refused : (q : Port) (r : Result (Unit {0}) Worn) → OnErr r (q ≡ p) → OnErr r
      (ExtendsHistory x (with_port t q) [] × (running (with_port t q) ≡ running x) × (serves_span (with_port t q) ≡ serves_span x))
  refused q (Ok u) w = tt
  refused q (Err e) w = subst (λ (z : Serving). ExtendsHistory x z [] × (running z ≡ running x) × (serves_span z ≡ serves_span x))
      (sym (ap (with_port t) w ∙ is)) (nothing x, refl, refl)
