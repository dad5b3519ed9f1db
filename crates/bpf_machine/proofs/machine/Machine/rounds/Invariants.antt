use Rattle.bpf_machine.specs.Questions.{turns_left}
use Rattle.bpf_machine.proofs.RoundLaws.{SoMany}
use Rattle.bpf_machine.proofs.machine.Machine.rounds.Given as goal

abbrev pub invariant-loop : goal.invariant-loop
invariant-loop l = SoMany l.fn.self l.self

abbrev pub decreases-loop : goal.decreases-loop
decreases-loop l = turns_left l.self.jobs
