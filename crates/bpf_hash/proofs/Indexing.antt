-- The index of a map's elements after a key is put into one of them, and after one leaves the map.
use Rattle.std.proofs.Common.{◌≡◌, ℕ, ◌<◌, List, length, inl, inr, sym, ap, subst, ◌∙◌}
use Rattle.bpf_hash.specs.declared.runs.Runs.{Runs}
use Rattle.bpf_shared.specs.Shape.{elements}
use Rattle.bpf_hash.specs.Private.Rows.{Rows, key_of, IsLinked, IsTable, IsMissing, linked_row, unlinked_row}
use Rattle.bpf_hash.specs.Private.Chains.{Links, IsChainedAt, GetsChained, GetsUnchained}
use Rattle.bpf_hash.specs.Private.Home.{home_of}
use Rattle.bpf_hash.specs.Private.Index.{home_at, IsIndexed}
use Rattle.bpf_hash.proofs.Linking.{key-here, key-old, linked_here, linked_more, linked_was, unlinked_was, unlinked_still}

pub linked_indexed : (t : Rows) (is : IsTable t) (i : ℕ) (key bytes : List ℕ) → IsMissing t key → i < elements t.shape → (IsLinked t i → ⊥)
    → length key ≡ t.shape.key → length bytes ≡ t.shape.value
    → (x y : Links) (b : ℕ) → b ≡ home_of t.shape.max key → IsIndexed t x → GetsChained b i x y → IsIndexed (linked_row i key bytes t) y
linked_indexed t is i key bytes missing inside free size long x y b home indexed comes = record {
  homes = comes.many.homes ∙ indexed.homes;
  elements = comes.many.elements ∙ indexed.elements;
  found = λ e l. elim (linked_was t is i key bytes missing inside free size long e l) [
    | inl s ↦ subst (λ (n : ℕ). IsChainedAt y (home_at (linked_row i key bytes t) n) n) (sym s)
        (subst (λ (n : ℕ). IsChainedAt y n i) (home ∙ ap (home_of t.shape.max) (sym here)) comes.here)
    | inr w ↦ subst (λ (n : ℕ). IsChainedAt y n e) (ap (home_of t.shape.max)
        (sym (key-old t is i key bytes missing inside free size long e w))) (comes.still (home_at t e) e (indexed.found e w))
  ];
  linked = λ c e at. elim (comes.was c e at) [
    | inl p ↦ (
      subst (IsLinked (linked_row i key bytes t)) (sym p.1) (linked_here t is i key bytes missing inside free size long),
      p.0 ∙ (home ∙ (ap (home_of t.shape.max) (sym here) ∙ ap (home_at (linked_row i key bytes t)) (sym p.1))),
    )
    | inr o ↦
        let w = indexed.linked c e o in (
          linked_more t is i key bytes missing inside free size long e w.0,
          w.1 ∙ ap (home_of t.shape.max)
              (sym (key-old t is i key bytes missing inside free size long e w.0)),
        )
  ];
}
  where
    here : key_of (linked_row i key bytes t) i ≡ key
    here = key-here t is i key bytes missing inside free size long

pub unlinked_indexed : (runs : List Runs) (t : Rows) (is : IsTable t) (o : ℕ) → IsLinked t o → length runs ≡ t.cpus
    → (x y : Links) → IsIndexed t x → GetsUnchained o x y → IsIndexed (unlinked_row runs o t) y
unlinked_indexed runs t is o linked cpus x y indexed goes = record {
  homes = goes.many.homes ∙ indexed.homes;
  elements = goes.many.elements ∙ indexed.elements;
  found = λ e l. (let w = unlinked_was runs t is o linked cpus e l in goes.still (home_at t e) e (indexed.found e w.0) w.1);
  linked = λ c e at.
      (let g = goes.was c e at in
      let w = indexed.linked c e g.0 in
      (unlinked_still runs t is o linked cpus e w.0 g.1, w.1));
}
