use Rattle.std.proofs.Common.{ℕ, List, drop}
use Rattle.std.specs.Prelude.{Option}
use Rattle.bpf_machine.specs.Schedule.{unrolled}
use Rattle.bpf_debug.specs.Course.{KeepsOn}
use Rattle.bpf_debug.proofs.course.Course.add_runs.Given as goal

abbrev pub invariant-loop-run : goal.invariant-loop-run
invariant-loop-run l =
    (end : Option (List (ℕ × ℕ))) → KeepsOn l.self (unrolled (drop l.run-index l.runs)) end
    → KeepsOn l.fn.self (unrolled l.runs) end
