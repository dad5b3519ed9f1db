use Rattle.std.proofs.Common.{[], ◌∷◌, length-append, ◌≡◌, ℕ, ◌+◌, ◌*◌, ◌/◌, ◌<◌, suc, List, length, slice_index_or, ap, sym, subst, ◌∙◌, arith}
use Rattle.bpf_shared.specs.declared.shapes.ArrayShape.{ArrayShape}
use Rattle.bpf_shared.specs.Shape.{IsArrayShape, copies, copy_stride}
use Rattle.hop_layout.specs.declared.place.Place.TheVariants.{FixedWord}
use Rattle.hop_layout.specs.Layout.{array_shape, array_words, no_array, at}
use Rattle.hop_layout.specs.Private.Index.{AreArrayBases}
use Rattle.hop_layout.proofs.Maps.{array_is}
use Rattle.hop_layout.proofs.Indexes.{at_next_array, at_end, one_array_more}
use Rattle.hop_layout.proofs.index.lay_out_arrays.Goals as goal

pub words_of-end-requires-clause-shape : goal.words_of-end-requires-clause-shape
words_of-end-requires-clause-shape c =
    subst (λ (n : ℕ). IsArrayShape n (slice_index_or c.arrays-array-items.result.now c.loop-array.array-index no_array)) (sym c.cpus.ensures.cpus)
    (subst (λ (gs : List ArrayShape). IsArrayShape c.args.shape.now.cpus (slice_index_or gs c.loop-array.array-index no_array))
    (sym c.arrays-array-items.ensures.arrays)
    (c.arrays-array-items.ensures.in_range.arrays c.loop-array.array-index (array_shape c.args.shape.now c.loop-array.array-index)
    (array_is c.args.shape.now c.loop-array.array-index
    (subst (λ (gs : List ArrayShape). c.loop-array.array-index < length gs) c.arrays-array-items.ensures.arrays c.loop-array-test.true))).0)

pub loop-array-preserved : goal.loop-array-preserved
loop-array-preserved c =
    let i = c.loop-array.array-index in
    let h = c.args.shape.now in
    let inv = c.loop-array.invariant in
    let shape : slice_index_or c.arrays-array-items.result.now i no_array ≡ array_shape h i = ap
    (λ (gs : List ArrayShape). slice_index_or gs i no_array) c.arrays-array-items.ensures.arrays in
    let words : c.words_of-end.result ≡ array_words h i = c.words_of-end.ensures.words ∙
    (λ j. copies (c.cpus.ensures.cpus j) (shape j) * copy_stride (shape j) / 8) in
    let items = c.in_ok-push.ensures.items in
    let next = at_next_array h i in (
      subst (AreArrayBases h (i + 1)) (sym items) (one_array_more h i c.loop-array.starts.items c.loop-array.end inv.1 inv.2 inv.0),
      (ap length items ∙ (length-append c.loop-array.starts.items (c.loop-array.end ∷ []) ∙ (let l = inv.1 in omega arith))),
      ap (λ (n : ℕ). n + c.words_of-end.result) inv.2 ∙ (ap (λ (n : ℕ). at h (FixedWord i 0) + n) words ∙
          (sym next ∙ ap (λ (n : ℕ). at h (FixedWord n 0)) (let z : suc i ≡ i + 1 = omega arith in z))),
      (let m = c.words_of-end.ensures.most in let l = inv.3 in omega arith),
    )

pub returns-clause-end : goal.returns-clause-end
returns-clause-end c =
    let n : c.loop-array.array-index ≡ length c.args.shape.now.arrays =
    (let z = ap length c.arrays-array-items.ensures.arrays in let f = c.loop-array-test.false in let w = c.loop-array.auto.array-index-end in omega arith)
    in
    c.loop-array.invariant.2 ∙ (ap (λ (n : ℕ). at c.args.shape.now (FixedWord n 0)) n ∙ sym (at_end c.args.shape.now))
