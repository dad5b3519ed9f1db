use Rattle.std.proofs.Common.{◌≡◌, ℕ, ◌<◌, List, length, slice_index_or, refl, ap, sym, subst, ◌∙◌, arith}
use Rattle.std.proofs.Math.ListN.{length-set}
use Rattle.bpf_shared.specs.declared.shapes.MapShape.{MapShape}
use Rattle.bpf_shared.specs.Shape.{IsMapShape}
use Rattle.hop_layout.specs.declared.place.Place.TheVariants.{KeyCount}
use Rattle.hop_layout.specs.Layout.{map_shape, no_map, at}
use Rattle.hop_layout.specs.Private.Index.{bases, bases_from, end_from, AreBases}
use Rattle.hop_layout.proofs.Maps.{map_is}
use Rattle.hop_layout.proofs.Indexes.{at_start, at_first_array, bases_at, end_at, one_more}
use Rattle.hop_layout.proofs.index.Index.new.Goals as goal

pub maps-init : goal.maps-init
maps-init c =
    let n = c.from-start.ensures in
    let k = c.cpus.ensures.cpus in
    let f = c.cpus.ensures.in_range.cpus.1 in (
      (λ m few. absurd (omega arith)),
      refl,
      (let s = at_start c.args.about.shape in omega arith),
      omega arith,
    )

pub lay_out-end-requires-clause-shape : goal.lay_out-end-requires-clause-shape
lay_out-end-requires-clause-shape c =
    subst (λ (gs : List MapShape). IsMapShape (slice_index_or gs c.maps.map no_map)) (sym c.maps-shapes.ensures.maps)
    (c.maps-shapes.ensures.in_range.each c.maps.map (map_shape c.args.about.shape c.maps.map) (map_is c.args.about.shape c.maps.map
    (let t = c.maps-test.true in let z = ap length c.maps-shapes.ensures.maps in omega arith)))

pub maps-preserved : goal.maps-preserved
maps-preserved c =
    let i = c.maps.map in
    let h = c.args.about.shape in
    let inv = c.maps.invariant in
    let shape : slice_index_or c.maps-shapes.result.now i no_map ≡ map_shape h i = ap (λ (gs : List MapShape). slice_index_or gs i no_map)
    c.maps-shapes.ensures.maps in
    let b : c.lay_out-end.result.0 ≡ bases h i = c.lay_out-end.ensures.bases ∙
    (ap (bases_from c.maps.start) shape ∙ bases_at h i c.maps.start inv.2) in
    let room : i < length c.maps.maps = (let t = c.maps-test.true in let z = ap length c.maps-shapes.ensures.maps in
    let f = c.maps-shapes.ensures.in_range.count in let l = inv.1 in omega arith) in (
      one_more h i c.maps.maps c.lay_out-end.result.0 room b inv.0,
      length-set c.maps.maps i c.lay_out-end.result.0 ∙ inv.1,
      c.lay_out-end.ensures.end ∙ (ap (end_from c.maps.start) shape ∙ end_at h i c.maps.start inv.2),
      (let m = c.lay_out-end.ensures.most in let l = inv.3 in omega arith),
    )

pub lay_out_arrays-requires-clause-first : goal.lay_out_arrays-requires-clause-first
lay_out_arrays-requires-clause-first c =
    let n : c.maps.map ≡ length c.args.about.shape.maps =
    (let z = ap length c.maps-shapes.ensures.maps in let f = c.maps-test.false in let w = c.maps.auto.map-end in omega arith) in
    c.maps.invariant.2 ∙ (ap (λ (n : ℕ). at c.args.about.shape (KeyCount n)) n ∙ sym (at_first_array c.args.about.shape))

pub invariant_of-result : goal.invariant_of-result
invariant_of-result c =
    let n : c.maps.map ≡ length c.args.about.shape.maps =
    (let z = ap length c.maps-shapes.ensures.maps in let f = c.maps-test.false in let w = c.maps.auto.map-end in omega arith) in
    record {
      few = c.maps-shapes.ensures.in_range.count;
      each = subst (λ (n : ℕ). AreBases c.args.about.shape n c.maps.maps) n c.maps.invariant.0;
      arrays = (c.in_ok-arrays.ensures).starts;
      whole = (c.in_ok-arrays.ensures).end;
    }
