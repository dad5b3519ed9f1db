use Rattle.std.proofs.Common.{◌≡◌, ◌<◌, List, length, ap, ◌∙◌, subst, arith}
use Rattle.std.proofs.lemmas.Bool.Decides.{nat_tests}
use Rattle.bpf_shared.specs.declared.shapes.ArrayShape.{ArrayShape}
use Rattle.bpf_shared.specs.Shape.{IsShape}
use Rattle.hop_layout.specs.declared.about.About.{About}
use Rattle.hop_layout.specs.Layout.{no_array}
use Rattle.hop_map.proofs.Arrays.{array_sized}
use Rattle.hop_map.proofs.port.HopPort.array.Goals as goal

pub returns-clause-in_range : goal.returns-clause-in_range
returns-clause-in_range c =
    let n = c.args.array in
    let h = c.args.table.now.about.shape in
    let shaped : IsShape h = subst (λ (x : About). IsShape x.shape) c.about.ensures c.arrays.ensures.in_range in
    let gs = c.arrays.result.now in
    let same : gs ≡ h.arrays = c.arrays.ensures.arrays ∙ ap (λ (x : About). x.shape.arrays) c.about.ensures in
    let l : n < length gs = (let t = c.in_ok-shape.ensures.lookup.0 in grind (arith, nat_tests)) in
    let few = shaped.array_count in
    let long : length gs ≡ length h.arrays = ap (λ (xs : List ArrayShape). length xs) same in
    (omega arith, array_sized h shaped gs same n l c.in_ok-shape.shape.now (c.in_ok-shape.ensures.lookup.3.1 no_array))
