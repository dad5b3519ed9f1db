use Rattle.std.proofs.Common.{◌≡◌, ◌+◌, ◌≤◌, ℕ, false, List, [], ◌∷◌, ◌++◌, length, get_or, length-append, ap, sym, subst, ◌∙◌, arith}
use Rattle.std.specs.Prelude.{Vec}
use Rattle.std.specs.declared.alloc.Global.{Global}
use Rattle.bpf_shared.specs.declared.shapes.ArrayShape.{ArrayShape}
use Rattle.bpf_shared.specs.Shape.{contents_of, copy_size}
use Rattle.bpf_plain.specs.Private.Contents.{IsAsMade}
use Rattle.bpf_plain.proofs.Places.{array_sized}
use Rattle.bpf_plain.proofs.Growing.{AreMadeBelow, more_made, all_made}
use Rattle.bpf_plain.proofs.bytes.new_arrays.Goals as goal

abbrev none : ArrayShape
none = record { value = 0; max = 0; per_cpu = false; frozen = false }

pub new_array-requires-clause-shape : goal.new_array-requires-clause-shape
new_array-requires-clause-shape c = (array_sized c.args.shape.now c.cpus-cpus.ensures.in_range c.arrays-array-items.result.now
    c.arrays-array-items.ensures.arrays c.loop-number.number c.cpus-cpus.result _ c.cpus-cpus.ensures.cpus c.loop-number-test.true).1

pub new_array-requires-clause-first : goal.new_array-requires-clause-first
new_array-requires-clause-first c =
    let n = c.loop-number.number in
    let first : c.first_bytes-first.result.now ≡ contents_of c.args.shape.now n = c.first_bytes-first.ensures ∙ ap
    (λ (x : List (List ℕ)). get_or x n []) c.contents.ensures in
    subst (λ (bs : List ℕ). length bs ≤ copy_size (get_or c.arrays-array-items.result.now n none)) (sym first)
    (array_sized c.args.shape.now c.cpus-cpus.ensures.in_range c.arrays-array-items.result.now c.arrays-array-items.ensures.arrays n
    c.cpus-cpus.result none c.cpus-cpus.ensures.cpus c.loop-number-test.true).2

pub loop-number-preserved : goal.loop-number-preserved
loop-number-preserved c =
    let n = c.loop-number.number in
    let old = c.loop-number.arrays.items in
    let v = c.in_ok-new_array.field-0 in
    let g = get_or c.arrays-array-items.result.now n none in
    let pushed : c.push.new.self.items ≡ old ++ v ∷ [] = c.in_ok-push.ensures.items in
    let first : c.first_bytes-first.result.now ≡ contents_of c.args.shape.now n = c.first_bytes-first.ensures ∙ ap
    (λ (x : List (List ℕ)). get_or x n []) c.contents.ensures in
    let sized = array_sized c.args.shape.now c.cpus-cpus.ensures.in_range c.arrays-array-items.result.now
    c.arrays-array-items.ensures.arrays n c.cpus-cpus.result none c.cpus-cpus.ensures.cpus c.loop-number-test.true in
    let made : IsAsMade c.args.shape.now.cpus g (contents_of c.args.shape.now n) v.items =
    subst (λ (k : ℕ). IsAsMade k g (contents_of c.args.shape.now n) v.items) c.cpus-cpus.ensures.cpus
    (subst (λ (bs : List ℕ). IsAsMade c.cpus-cpus.result g bs v.items) first c.in_ok-new_array.ensures)
    in
    let many = ap (λ (xs : List (Vec ℕ Global)). length xs) pushed in
    let added = length-append old (v ∷ []) in
    let count = c.loop-number.invariant.count in
    record {
      count = omega arith;
      each = subst (AreMadeBelow c.args.shape.now (n + 1)) (sym pushed) (more_made c.args.shape.now n old v g count c.loop-number.invariant.each sized.0 made);
    }

pub returns : goal.returns
returns c =
    let n = c.loop-number.number in
    let same = ap (λ (gs : List ArrayShape). length gs) c.arrays-array-items.ensures.arrays in
    let most = c.loop-number-test.false in
    let least = c.loop-number.auto.number-end in
    let many : length c.args.shape.now.arrays ≡ n = omega arith in
    all_made c.args.shape.now n c.loop-number.arrays.items c.loop-number.invariant.count many c.loop-number.invariant.each
