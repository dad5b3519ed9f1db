use Rattle.std.proofs.Common.{◌<◌, length, subst, arith}
use Rattle.bpf_machine.specs.Private.Parts.{CanFill}
use Rattle.bpf_machine.proofs.WorkLaws.{lane_read}
use Rattle.bpf_machine.proofs.FillLaws.{next_filled}
use Rattle.bpf_machine.proofs.machine.parts.fill_all.Goals as goal

pub fill_lane-requires-clause-fits : goal.fill_lane-requires-clause-fits
fill_lane-requires-clause-fits c =
    let lanes = c.loop-cpu.lanes.items in
    let cpu = c.loop-cpu.cpu in
    let count = c.loop-cpu.invariant.count in
    let within : cpu < length lanes = omega arith in
    subst (CanFill c.args.parts.now c.args.numbers.now cpu) (lane_read lanes cpu c.index_mut.result.now within c.index_mut.ensures.value)
    (c.loop-cpu.invariant.rest cpu (omega arith) (omega arith))

pub loop-cpu-preserved : goal.loop-cpu-preserved
loop-cpu-preserved c = next_filled c.args.parts.now c.args.numbers.now c.args.cpus c.loop-cpu.cpu c.loop-cpu.lanes.items
    c.fill_lane.new.lane c.loop-cpu.invariant (omega arith) c.fill_lane.ensures
