use Rattle.std.proofs.Common.{◌∙◌, ◌∷◌, [], length, ap, subst, sym, arith, length-append}
use Rattle.bpf_threads.specs.Private.Charts.{AreCharts}
use Rattle.bpf_threads.proofs.Adding.{charts_more}
use Rattle.bpf_threads.proofs.threads.charts.Goals as goal

pub loop-place-preserved : goal.loop-place-preserved
loop-place-preserved c =
    let old = c.loop-place.charts.items in
    let new = c.in_ok-chart.chart in
    let made = c.in_ok-push.ensures.items in
    let more = charts_more c.args.programs.now old c.loop-place.place c.program_at.result.now new c.loop-place.invariant.0
    c.program_at.ensures c.in_ok-chart.ensures c.loop-place.invariant.1 in
    (ap length made ∙ omega (arith, length-append old (new ∷ []), c.loop-place.invariant.0), subst (AreCharts c.args.programs.now) (sym made) more)
