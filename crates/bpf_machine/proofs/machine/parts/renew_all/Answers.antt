use Rattle.std.proofs.Common.{arith}
use Rattle.bpf_machine.proofs.FillLaws.{next_renewed}
use Rattle.bpf_machine.proofs.machine.parts.renew_all.Goals as goal

pub loop-cpu-preserved : goal.loop-cpu-preserved
loop-cpu-preserved c = next_renewed c.args.parts.now c.args.numbers.now c.args.cpus c.loop-cpu.cpu c.loop-cpu.lanes.items c.loop-cpu.spares.items
    c.renew_lane.new.lane c.renew_lane.new.spare c.loop-cpu.invariant (omega arith) c.renew_lane.ensures
