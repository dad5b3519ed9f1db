use Rattle.std.proofs.Common.{◌+◌, ◌-◌}
use Rattle.bpf_explore.specs.Private.Peers.{HasGrown}
use Rattle.bpf_explore.proofs.CloseLaws.{IsClosedBelow}
use Rattle.bpf_explore.proofs.spread.Spread.close.Given as goal

abbrev pub invariant-loop-next : goal.invariant-loop-next
invariant-loop-next g l = record {
  closed : IsClosedBelow l.peers l.self.kept l.next;
  grown : HasGrown l.fn.self l.self;
}

abbrev pub decreases-loop-next : goal.decreases-loop-next
decreases-loop-next g l = l.limit + 1 - l.next
