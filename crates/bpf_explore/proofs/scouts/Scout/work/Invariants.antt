use Rattle.bpf_explore.specs.Scouts.{StaysScout}
use Rattle.bpf_explore.proofs.scouts.Scout.work.Given as goal

abbrev pub invariant-loop-place : goal.invariant-loop-place
invariant-loop-place l = StaysScout l.album.kept l.album.stock l.fn.self l.self
