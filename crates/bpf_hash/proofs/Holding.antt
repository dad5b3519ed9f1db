-- Whether a run holds the value of a span, by the element that lies at its address.
use Rattle.std.proofs.Common.{◌≡◌, ◌∙◌, ℕ, ◌==◌, ◌&&◌, Bool, true, false, true≢false, length, inl, inr, sym, ap, subst, arith}
use Rattle.std.proofs.lemmas.Bool.Decides.{nat_tests}
use Rattle.bpf_shared.specs.declared.events.Span.{Span}
use Rattle.bpf_shared.specs.Shape.{IsIn, IsValueSpan}
use Rattle.bpf_shared.specs.Passage.{same_span}
use Rattle.bpf_hash.specs.declared.store.Reach.{Reach}
use Rattle.bpf_hash.specs.Private.Contents.{Contents, rows, element_count, span_at, holds, held_spans, any_below, IsStore}
use Rattle.bpf_hash.specs.Private.Changes.{IsAtValue, IsReach}
use Rattle.bpf_shared.proofs.Puts.{true_or_false}
use Rattle.bpf_shared.proofs.Places.{reach_most}
use Rattle.bpf_hash.proofs.Accessing.{held_element}
use Rattle.bpf_hash.proofs.Places.{sized_map, one_at, first_in}
use Rattle.bpf_hash.proofs.SavedAlike.{any_below_some}

span_is_itself : (q : Span) → same_span q q ≡ true
span_is_itself q =
    let a : (q.at == q.at) ≡ true = grind (arith, nat_tests) in
    let s : (q.size == q.size) ≡ true = grind (arith, nat_tests) in
    ap (λ (b : Bool). b && (q.size == q.size)) a ∙ s

module _ (p : Contents) (is : IsStore p) (c : ℕ) (q : Span) where
  pub holds_nothing : (IsAtValue p q.at → ⊥) → false ≡ held_spans p c q
  holds_nothing none = elim (true_or_false (held_spans p c q)) [
    | inl held ↦
        let e = held_element p c q held in
        let inside : IsIn q.at (span_at p e.0 e.1) = subst (λ (r : Span). IsIn r.at (span_at p e.0 e.1)) (sym e.4) (first_in p is e.0 e.1 e.2) in
        absurd (none (e.0, e.1, sized_map p e.0 e.1 e.2, e.2, inside))
    | inr idle ↦ sym idle
  ]

  -- it is one of a value
  pub value_span : held_spans p c q ≡ true → IsValueSpan q
  value_span held =
      let e = held_element p c q held in
      let there = sized_map p e.0 e.1 e.2 in
      let shape = (is.tables e.0 there).0.shape in
      let most = reach_most (rows p e.0).shape e.1 shape e.2 in
      let few = is.maps in
      subst IsValueSpan (sym e.4) (record { from = omega arith; to = (let size = shape.value.1 in omega (arith, most, few, there, size)); size = shape.value })

  module _ (r : Reach) (at : IsReach p q.at r) where
    abbrev test : Bool
    test = holds p c r.map r.element && same_span q (span_at p r.map r.element)

    here : IsIn q.at (span_at p r.map r.element)
    here = let e = at.at in let l = at.inside in (omega arith, omega arith)

    held_tests : held_spans p c q ≡ true → test ≡ true
    held_tests held =
        let e = held_element p c q held in
        let inside : IsIn q.at (span_at p e.0 e.1) = subst (λ (s : Span). IsIn s.at (span_at p e.0 e.1)) (sym e.4) (first_in p is e.0 e.1 e.2) in
        let one = one_at p is e.0 r.map e.1 r.element q.at e.2 at.element inside here in
        let held_here : holds p c r.map r.element ≡ true = ap (λ (m : ℕ). holds p c m r.element) (sym one.0) ∙ (ap (holds p c e.0) (sym one.1) ∙ e.3) in
        let span : q ≡ span_at p r.map r.element = e.4 ∙ (ap (λ (m : ℕ). span_at p m e.1) one.0 ∙ ap (span_at p r.map) one.1) in
        ap (λ (b : Bool). b && same_span q (span_at p r.map r.element)) held_here ∙ (ap (same_span q) (sym span) ∙ span_is_itself q)

    tests_held : test ≡ true → held_spans p c q ≡ true
    tests_held e =
        any_below_some (length p.tables) (λ m. any_below (element_count p m) (λ i. holds p c m i && same_span q (span_at p m i))) r.map at.map
        (any_below_some (element_count p r.map) (λ i. holds p c r.map i && same_span q (span_at p r.map i)) r.element at.element e)

    pub holds_there : test ≡ held_spans p c q
    holds_there = elim (true_or_false test) [
      | inl passes ↦ passes ∙ sym (tests_held passes)
      | inr fails ↦ elim (true_or_false (held_spans p c q)) [
        | inl held ↦ absurd (true≢false (sym (held_tests held) ∙ fails))
        | inr idle ↦ fails ∙ sym idle
      ]
    ]
