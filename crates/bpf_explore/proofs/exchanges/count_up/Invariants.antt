use Rattle.bpf_explore.specs.Private.Peers.{CountUp}
use Rattle.bpf_explore.proofs.exchanges.count_up.Given as goal

abbrev pub invariant-loop-place : goal.invariant-loop-place
invariant-loop-place l = CountUp l.numbers.items l.place
