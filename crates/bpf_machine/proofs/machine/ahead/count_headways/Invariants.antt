use Rattle.bpf_machine.specs.Private.Headways.{AreCounted}
use Rattle.bpf_machine.proofs.machine.ahead.count_headways.Given as goal

abbrev pub invariant-loop-cpu : goal.invariant-loop-cpu
invariant-loop-cpu l = AreCounted l.headways l.cpu l.working l.least
