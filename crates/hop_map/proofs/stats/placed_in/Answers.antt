use Rattle.std.proofs.Common.{◌≡◌, ap, ◌∙◌, arith}
use Rattle.hop_map.specs.Stats.{placed_in}
use Rattle.hop_map.proofs.stats.placed_in.Goals as goal

pub returns-clause-counted : goal.returns-clause-counted
returns-clause-counted c =
    let all : c.places.place ≡ 64 = omega arith in
    c.places.invariant.counted ∙ ap (placed_in c.args.rest.now c.args.map c.args.segment) all
