use Rattle.std.proofs.Common.{◌∙◌, ◌∷◌, [], length, ap, subst, sym, arith, length-append}
use Rattle.bpf_threads.specs.Counting.{AreBounds}
use Rattle.bpf_threads.proofs.Adding.{bounds_more}
use Rattle.bpf_threads.proofs.threads.bounds.Goals as goal

pub loop-place-preserved : goal.loop-place-preserved
loop-place-preserved c =
    let old = c.loop-place.bounds.items in
    let new = c.in_ok-most.most in
    let made = c.in_ok-push.ensures.items in
    let more = bounds_more c.args.counted c.args.programs.now old c.loop-place.place new c.loop-place.invariant.0 c.in_ok-most.ensures
    c.loop-place.invariant.1 in (
      ap length made ∙ omega (arith, length-append old (new ∷ []), c.loop-place.invariant.0),
      subst
          (AreBounds c.args.counted c.args.programs.now) (sym made) more,
    )
