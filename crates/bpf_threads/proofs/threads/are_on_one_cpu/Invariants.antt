use Rattle.std.proofs.Common.{◌≡◌, ◌-◌, length, drop, map}
use Rattle.std.specs.Prelude.{All}
use Rattle.bpf_cpu.specs.Task.{Task, waiting}
use Rattle.bpf_threads.proofs.threads.are_on_one_cpu.Given as goal

abbrev pub invariant-loop-behind : goal.invariant-loop-behind
invariant-loop-behind l = All (λ (job : Task). job.cpu ≡ l.cpu) (map waiting (drop (length l.jobs - l.behind) l.jobs))
