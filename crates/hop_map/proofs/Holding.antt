-- What a port holds lies in elements, and an access to it is one event more.
use Rattle.std.proofs.Common.{◌≡◌, ℕ, ◌<◌, Bool, true, true≢false, List, [], ◌∷◌, Some, None, inl, inr, ◌==◌, ◌||◌, length, ap, sym, subst, ◌∙◌, arith}
use Rattle.std.proofs.lemmas.Bool.Decides.{nat_tests}
use Rattle.std.proofs.lemmas.Bool.{or_cases, and_parts}
use Rattle.atomic_table.specs.Seated.{TableId}
use Rattle.bpf_shared.specs.declared.events.Span.{Span}
use Rattle.bpf_shared.specs.declared.events.Event.{Event}
use Rattle.bpf_shared.specs.declared.events.Event.TheVariants.{Begin, End, Lookup, Update, Delete, Keys, Load, Store, Atomic}
use Rattle.bpf_shared.specs.declared.shapes.MapShape.{MapShape}
use Rattle.bpf_shared.specs.Shape.{IsElementSpan, element_span, elements, Covers}
use Rattle.bpf_shared.specs.History.{events_of}
use Rattle.bpf_shared.specs.Own.{no_span, held_from, turns_of}
use Rattle.bpf_shared.specs.Passage.{same_span, IsHeldPlace}
use Rattle.hop_words.specs.declared.known.Known.{Known}
use Rattle.hop_words.specs.Ghost.{shape_at}
use Rattle.hop_words.specs.Inside.{Shown}
use Rattle.hop_words.specs.Kinds.{spans_of, IsAmongSpans, AddsEvent}
use Rattle.hop_layout.proofs.Maps.{map_is}
use Rattle.hop_map.specs.Private.Accesses.{IsHeldAt}
use Rattle.hop_map.specs.Port.{Port, IsPortOf, runs, port_holds}
use Rattle.hop_map.proofs.Spans.{held_spans_lie}
use Rattle.hop_map.proofs.Ports.{map_inside, moved, room_stays}

-- ---- the spans that a CPU's events hold are among those that it looked up

same_spans : (q p : Span) → same_span q p ≡ true → q ≡ p
same_spans q p h =
    let b = and_parts (q.at == p.at) (q.size == p.size) h in
    let x : q.at ≡ p.at = (let k = b.0 in grind (arith, nat_tests)) in
    let y : q.size ≡ p.size = (let k = b.1 in grind (arith, nat_tests)) in
    λ i. record { at = x i; size = y i }

abbrev Among : (Span → Bool) → List Span → Type 0
Among f ps = (p : Span) → f p ≡ true → IsAmongSpans p ps

held_among : (f : Span → Bool) (ps : List Span) (es : List Event) → Among f ps → Among (held_from f es) (spans_of ps es)
held_among f ps [] all = all
held_among f ps (Begin ∷ es) all = held_among no_span [] es (λ p h. absurd (true≢false (sym h)))
held_among f ps (End ∷ es) all = held_among no_span [] es (λ p h. absurd (true≢false (sym h)))
held_among f ps (Lookup m key None ∷ es) all = held_among f ps es all
held_among f ps (Lookup m key (Some q) ∷ es) all = held_among (λ p. same_span p q || f p) (q ∷ ps) es
    (λ p h. elim (or_cases (same_span p q) (f p) h) [ inl k ↦ inl (same_spans p q k) | inr k ↦ inr (all p k) ])
held_among f ps (Update m key b g r ∷ es) all = held_among f ps es all
held_among f ps (Delete m key r ∷ es) all = held_among f ps es all
held_among f ps (Keys m ks ∷ es) all = held_among f ps es all
held_among f ps (Load at z n ∷ es) all = held_among f ps es all
held_among f ps (Store at z n ∷ es) all = held_among f ps es all
held_among f ps (Atomic at z o n m r ∷ es) all = held_among f ps es all

-- ---- a held place is one of an element
pub held_at : (t : Shown) (p : Port) (at n : ℕ) → IsPortOf t p → runs p ≡ true → IsHeldPlace (port_holds p) at n → IsHeldAt t.about p.known at n
held_at t p at n fits running h = record {
  place = record {
    map = m;
    element = e;
    inside = (inside, subst (λ (z : MapShape). e < elements z) shape lies.1.3);
    covers = subst (λ (q : Span). Covers q at n) is h.covers;
    aligned = h.aligned;
  };
  held = subst (λ (q : Span). IsAmongSpans q (spans_of [] (events_of p.known.cpu p.known.seen))) is
      (held_among no_span [] (events_of p.known.cpu p.known.seen) (λ q no. absurd (true≢false (sym no))) h.span h.holds);
  runs = running;
}
  where
    lies : (k : ℕ) × IsElementSpan t.about.shape.maps k h.span
    lies = held_spans_lie t.about.shape p.known.cpu p.known.seen fits.legal h.span h.holds

    m : ℕ
    m = lies.0

    e : ℕ
    e = lies.1.1

    inside : m < length t.about.shape.maps
    inside = map_inside t.about.shape.maps m lies.1.0 lies.1.2

    shape : lies.1.0 ≡ shape_at t.about m
    shape = let k : Some lies.1.0 ≡ Some (shape_at t.about m) = sym lies.1.2 ∙ map_is t.about.shape m inside in cc

    is : h.span ≡ element_span m (shape_at t.about m) e
    is = lies.1.4 ∙ ap (λ (z : MapShape). element_span m z e) shape

-- ---- one event more
pub told_fits : (t : Shown) (p : Port) (z : TableId) (l : Known) (e : Event) → IsPortOf t p → z ≡ p.table → turns_of (e ∷ []) ≡ 0 →
    AddsEvent t.about p.known e l
    → IsPortOf t (record { table = z; known = l; arenas = p.arenas; batches = p.batches; spilled = p.spilled })
told_fits t p z l e h table quiet c =
    let cpu = ap (λ (k : Known). k.cpu) c.after in
    moved t p z l h table cpu (ap (λ (k : Known). k.limbo) c.after) (room_stays t.about p.known l e c.seen cpu quiet h.room) c.seen.legal
