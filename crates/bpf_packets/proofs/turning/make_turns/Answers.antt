use Rattle.std.proofs.Common.{arith}
use Rattle.bpf_shared.specs.Contents.{bytes_of_all}
use Rattle.bpf_packets.proofs.Kept.{all_runs, kept_nothing, next_run}
use Rattle.bpf_packets.proofs.turning.make_turns.Goals as goal

pub loop-cpu-init : goal.loop-cpu-init
loop-cpu-init c = kept_nothing c.args.machine.now (bytes_of_all c.args.packets.now)

pub loop-cpu-preserved : goal.loop-cpu-preserved
loop-cpu-preserved c =
    next_run c.args.schedule.now c.loop-cpu.cpu-index _ c.args.machine.now c.loop-cpu.machine c.make_run.new.machine (bytes_of_all c.args.packets.now)
    (bytes_of_all c.loop-cpu.packets) (bytes_of_all c.make_run.new.packets) (omega arith) c.loop-cpu.invariant c.in_ok-make_run.ensures

pub returns : goal.returns
returns c =
    all_runs c.args.schedule.now c.loop-cpu.cpu-index c.args.machine.now c.loop-cpu.machine (bytes_of_all c.args.packets.now)
    (bytes_of_all c.loop-cpu.packets) (omega arith) c.loop-cpu.invariant
