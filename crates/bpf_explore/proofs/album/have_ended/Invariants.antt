use Rattle.bpf_machine.specs.Parts.{chosen}
use Rattle.bpf_explore.proofs.TellLaws.{HaveEndedBelow}
use Rattle.bpf_explore.proofs.album.have_ended.Given as goal

abbrev pub invariant-loop-job : goal.invariant-loop-job
invariant-loop-job l = HaveEndedBelow (chosen l.parts l.numbers) l.job
