-- See count; read under lock.
use Rattle.std.proofs.Common.{length, ◌≡◌, ◌≢◌, ℕ, ◌+◌, ◌<◌, ◌≤◌, nat_lt, Bool, true, false, not, ◌&&◌, List, [], ◌∷◌, ◌++◌, Option, Some}
use Rattle.std.proofs.Common.{None, is_some, ◌==◌, refl, ap, sym, subst, ◌∙◌, arith, eq-eqb, ne_eqb}
use Rattle.std.proofs.lemmas.Bool.Decides.{nat_tests}
use native.Mathlib.Decide.{ℕ_discrete}
use mathlib.Core.Logic.{dite}
use Rattle.std.specs.FinMap.{get, len}
use Rattle.bpf_shared.specs.declared.events.Event.{Event}
use Rattle.bpf_shared.specs.declared.events.Event.TheVariants.{Update}
use Rattle.bpf_shared.specs.declared.events.MapAnswer.TheVariants.{Invalid, Exists, Absent, Full, NoMemory}
use Rattle.bpf_shared.specs.First.{first_of}
use Rattle.bpf_shared.specs.Store.{as_made}
use Rattle.bpf_shared.specs.Events.{Allowed}
use Rattle.bpf_shared.specs.History.{entry}
use Rattle.bpf_shared.proofs.Soundness.{as_made_sound, legal_sound}
use Rattle.hop_layout.specs.declared.place.Place.{Place}
use Rattle.hop_layout.specs.declared.place.Place.TheVariants.{KeyCount, Stamp, Head, Hop, Slot}
use Rattle.hop_layout.specs.declared.about.About.{About}
use Rattle.hop_words.specs.declared.known.Known.{Known}
use Rattle.hop_words.specs.declared.known.Lock.{Lock}
use Rattle.hop_layout.specs.Layout.{mem, put_at}
use Rattle.hop_words.specs.Content.{words_by_place}
use Rattle.hop_words.specs.Ghost.{lane, Ghost, shape_at}
use Rattle.hop_words.specs.Rule.{begun_in, Rule, Holds, changed, numbered, image}
use Rattle.bpf_shared.specs.Own.{turns_of}
use Rattle.hop_words.specs.Shortage.{HasCause}
use Rattle.hop_words.specs.Private.Step.{Next, Steps}
use Rattle.hop_words.specs.Kinds.{AddsEvent, CountsUnderLock, Misflagged, SawAllTaken}
use Rattle.hop_words.proofs.CountUp.{four, and_false}
use Rattle.hop_words.proofs.Locks.{holds}
use Rattle.hop_words.proofs.Shortages.{lack_cause}
use Rattle.hop_words.proofs.Unlocks.{noted_event, event_rule}
use Rattle.hop_words.proofs.Stays.{put_again, stay, next_as, saw, running_is, map_there}

-- a load at which an event takes effect that leaves the store as it is
pub event_next : (a : About) (w : Place → ℕ) (g : Ghost) (r : Rule a w g) (l : Known) (is : lane g.lanes l.cpu ≡ l)
    (inside : l.cpu < a.shape.cpus) (p : Place) (ev : Event) → turns_of (ev ∷ []) ≡ 0 → HasCause a.version (begun_in g.log g.lanes.fresh)
    (record { shape = a.shape; before = g.log; store = g.last; cpu = l.cpu }) ev → Allowed g.last l.cpu ev g.last
    → Next a (put_at w p (w p)) g l.cpu (AddsEvent a l ev)
event_next a w g r l is inside p ev quiet cause may =
    let rule = event_rule a w g r l inside ev quiet cause may in
    record {
      ghost = noted_event g l.cpu ev;
      rule = subst (λ (z : Place → ℕ). Rule a z (noted_event g l.cpu ev)) (sym (put_again w p)) rule;
      others = λ d ne. rw (ne_eqb d l.cpu ne) refl;
      longer = (entry l.cpu ev ∷ [], refl);
      tally = refl;
      says = subst (AddsEvent a l ev) (sym (rw (eq-eqb l.cpu l.cpu refl)
          (ap (λ (z : Known). record z { seen = g.log ++ entry l.cpu ev ∷ [] }) is)))
          (record { seen = saw a w g r l is inside ev g.last may rule.logged; after = refl });
    }

last_true : (b0 b1 b2 b3 : Bool) → b0 ≡ false → b1 ≡ false → b2 ≡ false → b3 ≡ true → first_of
    ((Invalid, b0) ∷ (Exists, b1) ∷ (Absent, b2) ∷ (Full, b3) ∷ []) ≡ Some Full
last_true b0 b1 b2 b3 e0 e1 e2 e3 = rw (e0, e1, e2, e3) refl

first_true : (b0 b1 b2 b3 : Bool) → b0 ≡ true → first_of ((Invalid, b0) ∷ (Exists, b1) ∷ (Absent, b2) ∷ (Full, b3) ∷ []) ≡ Some Invalid
first_true b0 b1 b2 b3 e0 = rw e0 refl

module _ (a : About) (l : Known) (k : Lock) (key bytes : List ℕ) (flags : ℕ) (i : CountsUnderLock a l k key bytes flags) (w : Place → ℕ)
    (g : Ghost) (r : Rule a w g) (is : lane g.lanes l.cpu ≡ l) (inside : l.cpu < a.shape.cpus) where
  h : Holds a g.depths (words_by_place w) (λ n t. w (Stamp n t)) g.eras g.linked g.holder l.cpu k
  h = holds a l k i.lock w g r is

  get_none : get (g.last.maps k.map) key ≡ None
  get_none = r.keyed.leads k.map key ∙ ap (numbered (g.number k.map))
      (h.due.2 key i.home ∙ (ap (λ x. changed x h.due.0 key) i.nothing ∙ i.absent h.due.0 h.due.1))

  count_is : w (KeyCount k.map) ≡ len (g.last.maps k.map)
  count_is = r.keyed.counted k.map h.inside.0

  pub most : w (KeyCount k.map) ≤ (shape_at a k.map).max
  most = let z = (legal_sound (as_made a.shape) g.last g.log (as_made_sound a.shape r.shaped) r.logged.legal).keys k.map (shape_at a k.map) (map_there a w g r l is inside k.map h.inside.0) in
      let c = count_is in omega arith

  invalid_false : nat_lt 2 flags ≡ false
  invalid_false = let t = i.flags_known in grind (arith, nat_tests)

  exists_false : (flags == 1) && is_some (get (g.last.maps k.map) key) ≡ false
  exists_false = ap (λ (o : Option ℕ). (flags == 1) && is_some o) get_none ∙ and_false (flags == 1)

  absent_false : (flags == 2) && not (is_some (get (g.last.maps k.map) key)) ≡ false
  absent_false = ap (λ (b : Bool). b && not (is_some (get (g.last.maps k.map) key))) (ne_eqb flags 2 (λ (q : flags ≡ 2). let t = i.flags_known in omega arith))

  full_is : (b : Bool) → (len (g.last.maps k.map) == (shape_at a k.map).max) ≡ b →
      (not (is_some (get (g.last.maps k.map) key)) && (len (g.last.maps k.map) == (shape_at a k.map).max)) ≡ b
  full_is b e = ap (λ (o : Option ℕ). not (is_some o) && (len (g.last.maps k.map) == (shape_at a k.map).max)) get_none ∙ e

  pub in_map : k.map < length a.shape.maps
  in_map = h.inside.0

  pub may_full : w (KeyCount k.map) ≡ (shape_at a k.map).max → Allowed g.last l.cpu (Update k.map key bytes flags Full) g.last
  may_full full = (
    running_is a w g r l is inside i.runs,
    (
      shape_at a k.map,
      map_there a w g r l is inside k.map h.inside.0,
      i.key_size,
      i.size,
      (last_true _ _ _ _ invalid_false exists_false absent_false (full_is true (eq-eqb _ _ (sym count_is ∙ full))), refl),
    ),
  )

  pub may_lack : w (KeyCount k.map) ≢ (shape_at a k.map).max → Allowed g.last l.cpu (Update k.map key bytes flags NoMemory) g.last
  may_lack less = (
    running_is a w g r l is inside i.runs,
    (
      shape_at a k.map,
      map_there a w g r l is inside k.map h.inside.0,
      i.key_size,
      i.size,
      (four _ _ _ _ invalid_false exists_false absent_false (full_is false (ne_eqb _ _ (λ e. less (count_is ∙ e)))), refl),
    ),
  )

-- with an element in hand: full, or there is room
pub see_count : (a : About) (l : Known) (k : Lock) (key bytes : List ℕ) (flags : ℕ) → CountsUnderLock a l k key bytes flags
    → Steps a l (KeyCount k.map) (λ n. n) (λ ws n l'. (n ≡ (shape_at a k.map).max → AddsEvent a l (Update k.map key bytes flags Full) l') ×
    (n ≢ (shape_at a k.map).max → (l' ≡ l) × (n < (shape_at a k.map).max)))
see_count a l k key bytes flags i ws g sized r is inside fits =
    let w = mem a.shape ws in
    dite (ℕ_discrete (w (KeyCount k.map)) (shape_at a k.map).max)
    (λ full. next_as _ _ _ _ _ _ (λ q t. ((λ _. t), (λ ne. absurd (ne full))))
    (event_next a w g r l is inside (KeyCount k.map) (Update k.map key bytes flags Full) refl tt
    (may_full a l k key bytes flags i w g r is inside full)))
    (λ less. stay a w g l.cpu (KeyCount k.map) _ r (
      (λ full. absurd (less full)),
      (λ _. (is, (let z = most a l k key bytes flags i w g r is inside in grind arith))),
    ))

-- without one: full, or no memory
pub see_count_lacking : (a : About) (l : Known) (k : Lock) (key bytes : List ℕ) (flags : ℕ) → CountsUnderLock a l k key bytes flags → SawAllTaken a l k.map
    → Steps a l (KeyCount k.map) (λ n. n) (λ ws n l'. (n ≡ (shape_at a k.map).max → AddsEvent a l (Update k.map key bytes flags Full) l') ×
    (n ≢ (shape_at a k.map).max → AddsEvent a l (Update k.map key bytes flags NoMemory) l'))
see_count_lacking a l k key bytes flags i saw ws g sized r is inside fits =
    let w = mem a.shape ws in
    dite (ℕ_discrete (w (KeyCount k.map)) (shape_at a k.map).max)
    (λ full. next_as _ _ _ _ _ _ (λ q t. ((λ _. t), (λ ne. absurd (ne full))))
    (event_next a w g r l is inside (KeyCount k.map) (Update k.map key bytes flags Full) refl tt
    (may_full a l k key bytes flags i w g r is inside full)))
    (λ less. next_as _ _ _ _ _ _ (λ q t. ((λ full. absurd (less full)), (λ _. t)))
    (event_next a w g r l is inside (KeyCount k.map) (Update k.map key bytes flags NoMemory) refl
    (lack_cause a w g r l k.map is inside (in_map a l k key bytes flags i w g r is inside) saw)
    (may_lack a l k key bytes flags i w g r is inside less)))

pub see_count_misflagged : (a : About) (l : Known) (m : ℕ) (key bytes : List ℕ) (flags : ℕ) → Misflagged a l m key bytes flags → Steps a l
    (KeyCount m) (λ n. n) (λ ws n l'. AddsEvent a l (Update m key bytes flags Invalid) l')
see_count_misflagged a l m key bytes flags i ws g sized r is inside fits =
    let w = mem a.shape ws in
    event_next a w g r l is inside (KeyCount m) (Update m key bytes flags Invalid) refl tt (
      running_is a w g r l is inside i.runs,
      (
        shape_at a m,
        map_there a w g r l is inside m i.map,
        i.key_size,
        i.size,
        (first_true _ _ _ _ (let t = i.unknown in grind (arith, nat_tests)), refl),
      ),
    )

-- ---- read under the lock taken last: the words are those of the copy, and the stamp is locked
module _ (a : About) (l : Known) (k : Lock) {rest : List Lock} (held : l.locks ≡ k ∷ rest) where
  pub read_stamp : Steps a l (Stamp k.map k.segment) (λ n. n) (λ ws n l'. (n ≡ k.stamp + 1) × (l' ≡ l))
  read_stamp ws g sized r is inside fits = stay a (mem a.shape ws) g l.cpu (Stamp k.map k.segment) _ r ((holds a l k held (mem a.shape ws) g r is).locked, is)

  pub read_head : Steps a l (Head k.map k.segment) (λ n. n) (λ ws n l'. (n ≡ (image a k.copy).head k.map k.segment) × (l' ≡ l))
  read_head ws g sized r is inside fits = stay a (mem a.shape ws) g l.cpu (Head k.map k.segment) _ r
      ((holds a l k held (mem a.shape ws) g r is).copied.head, is)

  pub read_hop : (b : ℕ) → Steps a l (Hop k.map k.segment b) (λ n. n) (λ ws n l'. (n ≡ (image a k.copy).hop k.map k.segment b) × (l' ≡ l))
  read_hop b ws g sized r is inside fits = stay a (mem a.shape ws) g l.cpu (Hop k.map k.segment b) _ r
      ((holds a l k held (mem a.shape ws) g r is).copied.hop b, is)

  pub read_slot : (b : ℕ) → Steps a l (Slot k.map k.segment b) (λ n. n) (λ ws n l'. (n ≡ (image a k.copy).slot k.map k.segment b) × (l' ≡ l))
  read_slot b ws g sized r is inside fits = stay a (mem a.shape ws) g l.cpu (Slot k.map k.segment b) _ r
      ((holds a l k held (mem a.shape ws) g r is).copied.slot b, is)
