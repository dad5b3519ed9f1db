use Rattle.std.proofs.Common.{◌≡◌, ◌∙◌, ap, subst}
use Rattle.bpf_threads.specs.declared.spot.Spot.{Spot}
use Rattle.bpf_threads.specs.Counting.{FallsFrom, known_in}
use Rattle.bpf_threads.proofs.bounding.falls.Goals as goal

pub returns : goal.returns
returns c t p n at has =
    let spot = c.spot_at.ensures in
    let same : c.spot_at.result.now ≡ p = cc in
    subst (λ (q : Spot). FallsFrom c.args.counted c.args.program.now q c.args.most.now n) same
    (c.may_fall.ensures t n (c.number_at-number.ensures ∙ ap known_in has))
