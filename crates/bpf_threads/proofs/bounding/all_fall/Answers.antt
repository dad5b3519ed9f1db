use Rattle.std.proofs.Common.{◌<◌, ℕ, length, arith, below_more, refl}
use Rattle.std.proofs.lemmas.Option.{slice_get_within}
use Rattle.bpf_threads.specs.Counting.{FallsAlong}
use Rattle.bpf_threads.proofs.bounding.all_fall.Goals as goal

pub loop-place-preserved : goal.loop-place-preserved
loop-place-preserved c =
    below_more (λ (i : ℕ). FallsAlong c.args.counted c.args.program.now c.args.spots.now c.args.most.now i) c.loop-place.place
    c.loop-place.invariant (c.if-not-falls.ensures refl)

pub returns : goal.returns
returns c t i p n at =
    let inside : i < length c.args.spots.now = slice_get_within c.args.spots.now i p at in
    c.loop-place.invariant i (omega arith) p n at
