use Rattle.std.proofs.Common.{arith}
use Rattle.bpf_races.proofs.Nexts.{next_more, all_nexts}
use Rattle.bpf_races.proofs.next.Watcher.nexts.Goals as goal

pub loop-cpu-preserved : goal.loop-cpu-preserved
loop-cpu-preserved c = next_more c.args.machine.now c.loop-cpu.nexts.items c.push.new.self.items c.loop-cpu.cpu c.in_ok-next.next
    c.loop-cpu.invariant c.in_ok-next.ensures c.in_ok-push.ensures.items

pub returns : goal.returns
returns c = all_nexts c.args.machine.now c.loop-cpu.nexts.items c.loop-cpu.cpu c.cpus-cpu-end.result c.stands.ensures c.cpus-cpu-end.ensures
    c.loop-cpu.invariant (omega arith)
