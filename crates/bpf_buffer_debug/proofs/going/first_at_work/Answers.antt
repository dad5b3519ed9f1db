use Rattle.std.proofs.Common.{arith}
use Rattle.bpf_debug.proofs.GoLaws.{idle_more}
use Rattle.bpf_buffer_debug.proofs.going.first_at_work.Goals as goal

pub loop-cpu-preserved : goal.loop-cpu-preserved
loop-cpu-preserved c = idle_more c.args.machine.now.machine.jobs c.args.from c.loop-cpu.cpu c.loop-cpu.invariant c.in-Idle.ensures

pub returns-clause-none : goal.returns-clause-none
returns-clause-none c d above below = c.loop-cpu.invariant d above (omega arith)
