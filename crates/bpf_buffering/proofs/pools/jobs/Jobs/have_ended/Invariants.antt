use Rattle.bpf_machine.specs.Parts.{chosen}
use Rattle.bpf_buffering.proofs.Ends.{EndedBelow}
use Rattle.bpf_buffering.proofs.pools.jobs.Jobs.have_ended.Given as goal

abbrev pub invariant-loop-job : goal.invariant-loop-job
invariant-loop-job l = EndedBelow (chosen l.self l.numbers) l.job
