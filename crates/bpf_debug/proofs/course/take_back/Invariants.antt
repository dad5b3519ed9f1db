use Rattle.bpf_debug.specs.Course.{TakesBack}
use Rattle.bpf_debug.proofs.course.take_back.Given as goal

abbrev pub invariant-loop : goal.invariant-loop
invariant-loop l = TakesBack l.fn.runs.items l.counter l.runs.items l.first
