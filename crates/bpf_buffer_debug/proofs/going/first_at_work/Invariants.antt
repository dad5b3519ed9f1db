use Rattle.bpf_debug.specs.Go.{AreIdle}
use Rattle.bpf_buffer_debug.proofs.going.first_at_work.Given as goal

abbrev pub invariant-loop-cpu : goal.invariant-loop-cpu
invariant-loop-cpu l = AreIdle l.machine.machine.jobs l.from l.cpu
