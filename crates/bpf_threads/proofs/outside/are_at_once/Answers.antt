use Rattle.std.proofs.Common.{◌≡◌, ◌<◌, ℕ, length, arith, below_more, refl, subst}
use Rattle.std.proofs.lemmas.Option.{slice_get_within}
use Rattle.bpf_shared.specs.declared.shapes.ArrayShape.{ArrayShape}
use Rattle.bpf_shared.specs.Shape.{IsArray}
use Rattle.bpf_threads.specs.Outside.{IsCopiedAtOnce}
use Rattle.bpf_threads.proofs.outside.are_at_once.Goals as goal

pub loop-place-preserved : goal.loop-place-preserved
loop-place-preserved c =
    let P : ℕ → Type 0 = λ k. (g : ArrayShape) → IsArray c.args.arrays.now k g → IsCopiedAtOnce g in
    below_more P c.loop-place.place c.loop-place.invariant (λ g at.
    let same : c.array_at.result ≡ g = cc in
    subst IsCopiedAtOnce same (c.if-not-is_copied_at_once.ensures refl))

pub returns : goal.returns
returns c t a g at =
    let inside : a < length c.args.arrays.now = slice_get_within c.args.arrays.now a g at in
    c.loop-place.invariant a (omega arith) g at
