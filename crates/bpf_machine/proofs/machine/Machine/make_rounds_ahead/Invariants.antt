use Rattle.bpf_machine.specs.Questions.{turns_left}
use Rattle.bpf_machine.proofs.AheadLaws.{RoundsSoFar}
use Rattle.bpf_machine.proofs.machine.Machine.make_rounds_ahead.Given as goal

abbrev pub invariant-loop-headways : goal.invariant-loop-headways
invariant-loop-headways l = RoundsSoFar l.fn.self l.headways l.self

abbrev pub decreases-loop-headways : goal.decreases-loop-headways
decreases-loop-headways l = turns_left l.self.jobs
