use Rattle.std.proofs.Common.{◌<◌, ℕ, refl, subst, arith}
use Rattle.bpf_explore.proofs.HungLaws.{next_deeper, all_deeper}
use Rattle.bpf_explore.proofs.depths.is_sparing_at.Goals as goal

pub loop-cpu-preserved : goal.loop-cpu-preserved
loop-cpu-preserved c = next_deeper c.args.turns.now.peers.items c.args.explorer.now.kept c.args.depths.now c.args.place c.loop-cpu.cpu c.loop-cpu.invariant
    (c.if-not-leads_deeper.ensures refl)

pub returns : goal.returns
returns c is = (
  subst (λ (n : ℕ). n < c.args.least) c.depth_of.ensures (omega arith),
  all_deeper c.args.turns.now.peers.items c.args.explorer.now.kept c.args.depths.now c.args.place c.loop-cpu.cpu c.args.turns.now.cpus c.requires.turns.idle
      (omega arith) c.loop-cpu.invariant,
)
