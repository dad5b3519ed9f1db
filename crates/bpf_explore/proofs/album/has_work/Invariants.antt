use Rattle.bpf_machine.specs.Parts.{chosen}
use Rattle.bpf_explore.specs.Private.Album.{HasEndedOn}
use Rattle.bpf_explore.proofs.EachLaws.{EachBelow}
use Rattle.bpf_explore.proofs.album.has_work.Given as goal

abbrev pub invariant-loop-job : goal.invariant-loop-job
invariant-loop-job l = EachBelow (HasEndedOn l.cpu) (chosen l.parts l.numbers) l.job
