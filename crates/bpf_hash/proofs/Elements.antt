-- The maps of a `HashStore`, and the spans that its runs hold.
use Rattle.std.proofs.Common.{◌≡◌, ℕ, ◌<◌, true, length, sym, subst, arith}
use Rattle.bpf_shared.specs.declared.events.Span.{Span}
use Rattle.bpf_shared.specs.Shape.{AreMaps, IsElement, IsMapShape}
use Rattle.bpf_hash.specs.Private.Contents.{Contents, rows, shapes_of, held_spans, IsStore}
use Rattle.bpf_hash.proofs.Accessing.{held_element}
use Rattle.bpf_hash.proofs.Changing.{map_there, same_shape, shape_at}
use Rattle.bpf_hash.proofs.Places.{sized_map}

pub are_maps : (p : Contents) → IsStore p → AreMaps (shapes_of p)
are_maps p is m h at =
    let there : m < length p.tables = map_there p m h at in
    let few = is.maps in
    (omega arith, subst IsMapShape (sym (same_shape p m h at)) (is.tables m there).0.shape)

pub held_is_element : (p : Contents) (c : ℕ) (q : Span) → held_spans p c q ≡ true → IsElement (shapes_of p) q
held_is_element p c q e =
    let h = held_element p c q e in
    (h.0, ((rows p h.0).shape, h.1, shape_at p.tables h.0 (sized_map p h.0 h.1 h.2), h.2, h.4))
