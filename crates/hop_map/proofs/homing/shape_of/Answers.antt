use Rattle.std.proofs.Common.{◌<◌, List, length, slice_index_or, sym, subst, arith}
use Rattle.bpf_shared.specs.declared.shapes.MapShape.{MapShape}
use Rattle.bpf_shared.specs.Shape.{IsMapShape}
use Rattle.hop_layout.specs.declared.about.About.{About}
use Rattle.hop_layout.specs.Layout.{map_shape, no_map}
use Rattle.hop_layout.proofs.Maps.{map_is}
use Rattle.hop_map.proofs.homing.shape_of.Goals as goal

pub returns-clause-sizes : goal.returns-clause-sizes
returns-clause-sizes c =
    let m = c.from.result in
    let h = c.about.result.now.shape in
    let f = c.from.ensures in
    let r = c.requires.map in
    subst (λ (gs : List MapShape). IsMapShape (slice_index_or gs m no_map)) (sym c.maps.ensures.maps)
    (c.maps.ensures.in_range.each m (map_shape h m) (map_is h m (subst (λ (a : About). m < length a.shape.maps) (sym c.about.ensures) (omega arith))))
