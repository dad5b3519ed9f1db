use Rattle.std.proofs.Common.{refl, arith}
use Rattle.bpf_explore.proofs.HungLaws.{next_sparing, are_sparing}
use Rattle.bpf_explore.proofs.depths.is_sparing.Goals as goal

pub loop-place-preserved : goal.loop-place-preserved
loop-place-preserved c = next_sparing c.args.turns.now.peers.items c.args.explorer.now.kept c.args.depths.now c.least_budget-least.result c.loop-place.place
    c.loop-place.invariant (c.if-not-is_sparing_at.ensures refl)

pub returns : goal.returns
returns c is = (
  c.least_budget-least.result,
  are_sparing c.args.turns.now.peers.items c.args.explorer.now.kept c.args.depths.now c.least_budget-least.result
      c.loop-place.place c.least_budget-least.ensures (omega arith) c.loop-place.invariant,
)
