use Rattle.std.proofs.Common.{◌≡◌, ℕ, ◌+◌, ◌<◌, List, length, slice_index_or, ap, sym, subst, ◌∙◌, arith}
use Rattle.hop_layout.specs.declared.place.Place.{Place}
use Rattle.hop_layout.specs.declared.place.Place.TheVariants.{RunCount}
use Rattle.hop_layout.specs.declared.about.About.{About}
use Rattle.bpf_shared.specs.declared.shapes.MapShape.{MapShape}
use Rattle.bpf_shared.specs.Shape.{IsMapShape}
use Rattle.hop_layout.specs.Layout.{mem, put_at, map_shape, no_map}
use Rattle.hop_words.specs.Private.Made.{IsPartly}
use Rattle.hop_layout.proofs.Maps.{map_is}
use Rattle.hop_words.proofs.FirstWords.{runs_on, zeros}
use Rattle.hop_words.proofs.making.first_words.Goals as goal

pub runs-init : goal.runs-init
runs-init c = (
  (let l = c.in_ok-words.ensures.len in let w = c.words.ensures in omega arith),
  zeros c.args.index.now c.in_ok-words.words.items c.words.result (c.in_ok-words.ensures.items_if_clones_equal (λ y e. e)),
)

pub runs-preserved : goal.runs-preserved
runs-preserved c =
    let a = c.args.index.now in
    let w : Place → ℕ = mem a.shape c.runs.words.items in
    let count = ap (λ (x : About). x.count) c.about-in-runs.ensures in (
      c.put.ensures.sized,
      subst (λ (v : Place → ℕ). IsPartly a v (c.runs.cpu + 1) 0 0 0)
          (sym (c.put.ensures.put ∙ ap (λ (n : ℕ). put_at w (RunCount c.runs.cpu) n) count)) (runs_on a w c.runs.cpu 0 0 0 c.runs.invariant.1),
    )

pub put_map-requires-clause-sizes : goal.put_map-requires-clause-sizes
put_map-requires-clause-sizes c =
    let gs = c.maps-shape-items.ensures.maps in
    subst (λ (gs : List MapShape). IsMapShape (slice_index_or gs c.maps.map no_map)) (sym gs)
    (c.maps-shape-items.ensures.in_range.each c.maps.map (map_shape c.about-2.result.now.shape c.maps.map) (map_is c.about-2.result.now.shape c.maps.map
    (subst (λ (gs : List MapShape). c.maps.map < length gs) gs c.maps-test.true)))

pub put_arrays-requires-clause-partly : goal.put_arrays-requires-clause-partly
put_arrays-requires-clause-partly c =
    let a = c.args.index.now in
    let n : c.maps.map ≡ length a.shape.maps =
    (let f = c.maps-test.false in let g = c.maps.auto.map-end in let z = ap length c.maps-shape-items.ensures.maps in
    let v = ap (λ (x : About). length x.shape.maps) c.about-2.ensures in omega arith)
    in
    subst (λ (m : ℕ). IsPartly a (mem a.shape c.maps.words.items) a.shape.cpus m 0 0) n c.maps.invariant.1
