use Rattle.std.proofs.Common.{◌≡◌, ◌<◌, false, List, length, get_or, refl, subst, ap, sym, arith}
use Rattle.std.proofs.lemmas.Bool.Decides.{nat_tests}
use Rattle.bpf_shared.specs.declared.shapes.ArrayShape.{ArrayShape}
use Rattle.bpf_shared.specs.Shape.{IsArrayShape}
use Rattle.bpf_plain.specs.Private.Contents.{Contents, shape_of}
use Rattle.bpf_plain.proofs.Places.{array_sized}
use Rattle.bpf_plain.proofs.plain.calls.PlainStoreShared.array.Goals as goal

abbrev none : ArrayShape
none = record { value = 0; max = 0; per_cpu = false; frozen = false }

pub returns-clause-in_range : goal.returns-clause-in_range
returns-clause-in_range c =
    let n = c.args.array in
    let gs = c.arrays.result.now in
    let l : n < length gs = (let t = c.in_ok-shape.ensures.lookup.0 in grind (arith, nat_tests)) in
    let item : c.in_ok-shape.shape.now ≡ get_or gs n none = c.in_ok-shape.ensures.lookup.3.1 none in
    let sized = array_sized c.self.inside.shape c.self.invariant.shape gs c.arrays.ensures.arrays n c.self.inside.shape.cpus none refl l in
    let same = ap (λ (xs : List ArrayShape). length xs) c.arrays.ensures.arrays in
    let few = c.self.invariant.shape.array_count in (
      omega arith,
      subst (λ (p : Contents). IsArrayShape (shape_of p).cpus c.in_ok-shape.shape.now) c.self.view_is
          (subst (IsArrayShape c.self.inside.shape.cpus) (sym item) sized.1),
    )
