use Rattle.bpf_explore.specs.Scouts.{AreScouts}
use Rattle.bpf_explore.proofs.scouts.Scouts.hire.Given as goal

abbrev pub invariant-loop : goal.invariant-loop
invariant-loop l = AreScouts l.patient l.album.kept l.album.stock l.self.scouts.items
