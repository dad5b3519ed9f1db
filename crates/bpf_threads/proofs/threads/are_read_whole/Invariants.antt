use Rattle.std.proofs.Common.{◌-◌, length, drop, map}
use Rattle.std.specs.Prelude.{All}
use Rattle.bpf_cpu.specs.Task.{waiting}
use Rattle.bpf_threads.specs.Threads.{IsReadWhole}
use Rattle.bpf_threads.proofs.threads.are_read_whole.Given as goal

abbrev pub invariant-loop-behind : goal.invariant-loop-behind
invariant-loop-behind l = All (IsReadWhole l.shape l.programs) (map waiting (drop (length l.jobs - l.behind) l.jobs))
