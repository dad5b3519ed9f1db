use Rattle.std.proofs.Common.{sym, arith}
use Rattle.bpf_helpers.proofs.Reaching.{value_address}
use Rattle.bpf_helpers.proofs.reading.is_reached.Goals as goal

pub returns-then-reaches-clause-low : goal.returns-then-reaches-clause-low
returns-then-reaches-clause-low g c = λ t.
    let low = value_address c.args.held.now c.args.at c.requires (sym c.if-reaches.ensures) in
    omega arith
