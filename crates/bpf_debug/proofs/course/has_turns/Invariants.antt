use Rattle.std.proofs.Common.{◌≡◌, ◌+◌, drop, length}
use Rattle.bpf_machine.specs.Schedule.{unrolled}
use Rattle.bpf_debug.proofs.course.has_turns.Given as goal

abbrev pub invariant-loop-run : goal.invariant-loop-run
invariant-loop-run l = l.count + length (unrolled (drop l.run-index l.runs)) ≡ l.left + length (unrolled l.runs)
