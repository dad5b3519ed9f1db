use Rattle.std.proofs.Common.{arith}
use Rattle.bpf_explore.proofs.SpreadLaws.{all_swapped, one_swapped}
use Rattle.bpf_explore.proofs.spread.exchange_turns.Goals as goal

pub loop-place-preserved : goal.loop-place-preserved
loop-place-preserved c =
    one_swapped c.args.one c.args.other c.args.by.now c.loop-place.by c.loop-place.place c.exchange.result (omega arith) c.loop-place.auto.by
    c.loop-place.invariant c.exchange.ensures

pub returns : goal.returns
returns c = all_swapped c.args.one c.args.other c.args.by.now c.loop-place.by c.loop-place.place (omega arith) c.loop-place.invariant
