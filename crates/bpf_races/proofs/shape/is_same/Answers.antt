use Rattle.std.proofs.Common.{◌≡◌, ℕ, List, refl, sym, ap, ◌∙◌}
use Rattle.bpf_shared.specs.declared.shapes.ArrayShape.{ArrayShape}
use Rattle.bpf_shared.specs.declared.shapes.MapShape.{MapShape}
use Rattle.bpf_shared.specs.Shape.{Shape}
use Rattle.bpf_races.proofs.shape.is_same.Goals as goal

pub returns : goal.returns
returns c = λ is.
    let one = c.args.one.now in
    let two = c.args.two.now in
    let cpus : one.cpus ≡ two.cpus = sym c.cpus.ensures.cpus ∙ (c.if-cpus.false ∙ c.cpus-2.ensures.cpus) in
    let maps : one.maps ≡ two.maps = sym c.maps.ensures.maps ∙ (c.if-not-are_maps.ensures refl ∙ c.maps-2.ensures.maps) in
    let arrays : one.arrays ≡ two.arrays = sym c.arrays.ensures.arrays ∙ (c.if-not-are_arrays.ensures refl ∙ c.arrays-2.ensures.arrays) in
    let contents : one.contents ≡ two.contents = sym c.contents.ensures ∙ (c.are_alike.ensures is ∙ c.contents-2.ensures) in
    ap (λ (n : ℕ). record one { cpus = n }) cpus
    ∙ (ap (λ (l : List MapShape). record one { cpus = two.cpus; maps = l }) maps
    ∙ (ap (λ (l : List ArrayShape). record one { cpus = two.cpus; maps = two.maps; arrays = l }) arrays
    ∙ ap (λ (l : List (List ℕ)). let s : Shape = record { cpus = two.cpus; maps = two.maps; arrays = two.arrays; contents = l } in s) contents))
