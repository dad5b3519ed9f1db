use Rattle.std.proofs.Common.{arith}
use Rattle.bpf_machine.proofs.HostLaws.{same_host_still}
use Rattle.bpf_machine.proofs.LengthLaws.{next_run, all_runs}
use Rattle.bpf_machine.proofs.machine.Machine.turns_by.Goals as goal

pub loop-cpu-preserved : goal.loop-cpu-preserved
loop-cpu-preserved c = record {
  runs = next_run c.args.self.now c.loop-cpu.self c.repeat.new.self c.args.runs.now c.loop-cpu.cpu-index _ (omega arith)
      c.loop-cpu.invariant.runs c.repeat.ensures.runs;
  same = same_host_still _ _ _ c.loop-cpu.invariant.same c.repeat.ensures.same;
}

pub returns-clause-runs : goal.returns-clause-runs
returns-clause-runs c = all_runs c.args.self.now c.loop-cpu.self c.args.runs.now c.loop-cpu.cpu-index (omega arith) c.loop-cpu.invariant.runs
