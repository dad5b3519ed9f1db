-- A value that a lookup found is held, and its first word may be touched.
use Rattle.std.proofs.Common.{◌≡◌, ℕ, ◌%◌, ◌≤◌, ◌==◌, ◌&&◌, ◌||◌, Bool, true, List, [], ◌∷◌, ◌++◌, Option, Some, refl, ap, subst, ◌∙◌, arith, eq-eqb}
use Rattle.bpf_shared.specs.declared.events.Span.{Span}
use Rattle.bpf_shared.specs.declared.events.Event.{Event}
use Rattle.bpf_shared.specs.declared.events.Event.TheVariants.{Lookup}
use Rattle.bpf_shared.specs.Own.{no_span, held_since, held_from, held_by}
use Rattle.bpf_shared.specs.Passage.{same_span, IsHeldPlace}
use Rattle.hop_layout.specs.declared.about.About.{About}
use Rattle.hop_map.specs.Port.{Port, PortDoes, own_events, port_holds}
use Rattle.hop_map.proofs.Ports.{own_after}

from_append : (f : Span → Bool) (xs : List Event) (e : Event) → held_from f (xs ++ e ∷ []) ≡ held_since (held_from f xs) e
from_append f [] e = refl
from_append f (x ∷ xs) e = from_append (held_since f x) xs e

same : (s : Span) → same_span s s ≡ true
same s = ap (λ (b : Bool). b && (s.size == s.size)) (eq-eqb s.at s.at refl) ∙ eq-eqb s.size s.size refl

pub found_held : (a : About) (p q : Port) (m : ℕ) (key : List ℕ) (o : Option Span) (s : Span) → PortDoes a p (Lookup m key o) q → o ≡ Some s
    → port_holds q s ≡ true
found_held a p q m key o s d is =
    let e : Event = Lookup m key (Some s) in
    let here : PortDoes a p e q = subst (λ (r : Option Span). PortDoes a p (Lookup m key r) q) is d in
    ap (λ (es : List Event). held_by es s) (own_after a p.known q.known e here.seen here.cpu)
    ∙ (ap (λ (f : Span → Bool). f s) (from_append no_span (own_events p) e)
    ∙ ap (λ (b : Bool). b || held_by (own_events p) s) (same s))

pub first_word : (q : Port) (s : Span) (at : ℕ) → port_holds q s ≡ true → (at ≡ s.at) × (8 ≤ s.size) × (at % 8 ≡ 0) → IsHeldPlace (port_holds q) at 8
first_word q s at held (is, wide, aligned) = record {
  span = s;
  holds = held;
  covers = (omega arith, omega arith);
  aligned = aligned;
}
