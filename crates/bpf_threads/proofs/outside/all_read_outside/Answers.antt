use Rattle.std.proofs.Common.{◌<◌, List, length, arith, below_more, refl, subst}
use Rattle.std.proofs.lemmas.Option.{slice_get_within}
use Rattle.bpf_shared.specs.declared.shapes.ArrayShape.{ArrayShape}
use Rattle.bpf_threads.specs.Private.Outside.{PlaceReadsOutside, SpotReadsOutside}
use Rattle.bpf_threads.proofs.Runs.{all_read_outside}
use Rattle.bpf_threads.proofs.outside.all_read_outside.Goals as goal

pub loop-place-preserved : goal.loop-place-preserved
loop-place-preserved c =
    below_more (PlaceReadsOutside c.arrays-arrays.result.now c.args.program.now c.args.spots.now) c.loop-place.place c.loop-place.invariant
    (c.if-not-place_reads_outside.ensures refl)

pub returns : goal.returns
returns c t =
    let program = c.args.program.now in
    let spots = c.args.spots.now in
    all_read_outside program spots c.requires c.args.shape.now (λ k p at.
    let inside : k < length spots = slice_get_within spots k p at in
    subst (λ (arrays : List ArrayShape). SpotReadsOutside arrays program p) c.arrays-arrays.ensures.arrays (c.loop-place.invariant k (omega arith) p at))
