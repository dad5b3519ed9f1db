use Rattle.std.proofs.Common.{replicate}
use Rattle.bpf_debug.specs.Course.{KeepsOn}
use Rattle.bpf_debug.proofs.course.Course.add_times.Given as goal

abbrev pub invariant-loop : goal.invariant-loop
invariant-loop l = KeepsOn l.fn.self (replicate l.counter l.cpu) l.self
