use Rattle.std.proofs.Common.{◌-◌, length, drop, map}
use Rattle.bpf_cpu.specs.Task.{waiting}
use Rattle.bpf_threads.specs.Counting.{AddUp}
use Rattle.bpf_threads.proofs.threads.add_up.Given as goal

abbrev pub invariant-loop-behind : goal.invariant-loop-behind
invariant-loop-behind l = AddUp l.bounds (map waiting (drop (length l.jobs - l.behind) l.jobs)) l.sum
