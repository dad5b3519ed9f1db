use Rattle.bpf_machine.specs.Questions.{turns_left}
use Rattle.bpf_flushes.proofs.Rounding.{Going}
use Rattle.bpf_flushes.proofs.rounds.run_rounds.Given as goal

abbrev pub invariant-loop-machine : goal.invariant-loop-machine
invariant-loop-machine l = Going l.fn.machine l.machine

abbrev pub decreases-loop-machine : goal.decreases-loop-machine
decreases-loop-machine l = turns_left l.machine.machine.jobs
