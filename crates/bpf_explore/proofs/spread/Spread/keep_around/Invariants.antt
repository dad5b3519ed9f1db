use Rattle.bpf_explore.specs.Private.Peers.{HasGrown, IsKeptAround}
use Rattle.bpf_explore.proofs.spread.Spread.keep_around.Given as goal

abbrev pub invariant-loop-one : goal.invariant-loop-one
invariant-loop-one g l = record {
  kept : IsKeptAround l.peers l.self.kept l.place l.one;
  grown : HasGrown l.fn.self l.self;
}
