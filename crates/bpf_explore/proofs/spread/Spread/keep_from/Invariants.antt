use Rattle.bpf_explore.specs.Private.Peers.{HasGrown, IsKeptFrom}
use Rattle.bpf_explore.proofs.spread.Spread.keep_from.Given as goal

abbrev pub invariant-loop-other : goal.invariant-loop-other
invariant-loop-other g l = record {
  kept : IsKeptFrom l.peers l.self.kept l.place l.one l.other;
  grown : HasGrown l.fn.self l.self;
}
