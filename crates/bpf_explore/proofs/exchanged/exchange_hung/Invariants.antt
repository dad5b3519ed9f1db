use Rattle.std.proofs.Common.{◌-◌, ◌^◌}
use Rattle.bpf_explore.specs.Private.Exchanged.{AreClosedBelow, Grows}
use Rattle.bpf_explore.proofs.exchanged.exchange_hung.Given as goal

abbrev pub invariant-loop-next : goal.invariant-loop-next
invariant-loop-next l = record {
  closed : AreClosedBelow l.peers l.hung.items l.next;
  grows : Grows l.peers l.fn.hung.items l.hung.items;
}

abbrev pub decreases-loop-next : goal.decreases-loop-next
decreases-loop-next l = 2 ^ 64 - l.next
