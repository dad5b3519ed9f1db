use Rattle.bpf_explore.specs.Scouts.{StaysScout}
use Rattle.bpf_explore.proofs.scouts.Scout.expand.Given as goal

abbrev pub invariant-loop-cpu : goal.invariant-loop-cpu
invariant-loop-cpu l = StaysScout l.album.kept l.album.stock l.fn.self l.self
