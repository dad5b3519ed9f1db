-- The maps of a `PlainStore`, and the spans that its runs hold.
use Rattle.std.proofs.Common.{◌≡◌, ℕ, true, List, subst, arith}
use Rattle.std.proofs.lemmas.Option.{slice_get_within}
use Rattle.bpf_shared.specs.declared.events.Span.{Span}
use Rattle.bpf_shared.specs.declared.shapes.MapShape.{MapShape}
use Rattle.bpf_shared.specs.Shape.{AreMaps, IsElement}
use Rattle.bpf_hash.proofs.Elements as maps
use Rattle.bpf_plain.specs.Private.Contents.{Contents, shapes_of, held_spans, IsStore}

pub are_maps : (p : Contents) → IsStore p → AreMaps (shapes_of p)
are_maps p is m h at =
    let there = slice_get_within p.shape.maps m h at in
    let few = is.shape.count in
    (omega arith, is.shape.each m h at)

pub held_is_element : (p : Contents) → IsStore p → (c : ℕ) (q : Span) → held_spans p c q ≡ true → IsElement (shapes_of p) q
held_is_element p is c q e = subst (λ (hs : List MapShape). IsElement hs q) is.maps (maps.held_is_element p.maps c q e)
