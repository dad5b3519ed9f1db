use Rattle.std.proofs.Common.{◌≡◌, subst}
use Rattle.bpf_threads.specs.declared.spot.Spot.{Spot}
use Rattle.bpf_threads.specs.Chart.{IsCharted}
use Rattle.bpf_threads.proofs.chart.is_spot_at.Goals as goal

pub returns : goal.returns
returns c t p at =
    let spot = c.spot_at.ensures in
    let same : c.spot_at.result.now ≡ p = cc in
    subst (λ (q : Spot). IsCharted c.args.program.now c.args.spots.now q) same (c.is_spot.ensures t)
