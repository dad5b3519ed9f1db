use Rattle.bpf_races.specs.Touch.{AreAtOdds}
use Rattle.bpf_races.specs.Private.Clashes.{Collects}
use Rattle.bpf_races.proofs.Clashing.{Below}
use Rattle.bpf_races.proofs.clash.push_of_one.Given as goal

abbrev pub invariant-loop-k : goal.invariant-loop-k
invariant-loop-k l = Collects (Below (AreAtOdds l.first) l.seconds l.k) l.sync l.fn.bytes.items l.bytes.items
