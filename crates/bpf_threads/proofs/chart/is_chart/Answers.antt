use Rattle.std.proofs.Common.{◌<◌, length, arith, below_more, refl}
use Rattle.std.proofs.lemmas.Option.{slice_get_within}
use Rattle.bpf_threads.specs.Private.Charts.{IsSpotFrom}
use Rattle.bpf_threads.proofs.chart.is_chart.Goals as goal

pub loop-place-preserved : goal.loop-place-preserved
loop-place-preserved c =
    below_more (IsSpotFrom c.args.program.now c.args.spots.now) c.loop-place.place c.loop-place.invariant (c.if-not-is_spot_at.ensures refl)

pub returns : goal.returns
returns c t = record {
  each = λ i p at. let inside : i < length c.args.spots.now = slice_get_within c.args.spots.now i p at in c.loop-place.invariant i (omega arith) p at;
  first = c.if-not-begin.ensures refl;
}
