use Rattle.std.proofs.Common.{[]}
use Rattle.bpf_races.specs.declared.access.Access.{Access}
use Rattle.bpf_races.specs.Touch.{AreAtOdds, IsAmong}
use Rattle.bpf_races.specs.Private.Clashes.{Collects}
use Rattle.bpf_races.proofs.Clashing.{Below}
use Rattle.bpf_races.proofs.clash.racing_bytes.Given as goal

abbrev pub invariant-loop-k : goal.invariant-loop-k
invariant-loop-k l = Collects (Below (λ first b. (second : Access) × IsAmong l.seconds second × AreAtOdds first second b) l.firsts l.k) l.sync [] l.bytes.items
