use Rattle.std.proofs.Common.{◌-◌, ◌^◌, ◌≤◌, length}
use Rattle.bpf_races.specs.Private.Exchanging.{HaveExchangesBelow, Grows}
use Rattle.bpf_races.proofs.exchanging.close_from.Given as goal

abbrev pub invariant-loop-next : goal.invariant-loop-next
invariant-loop-next l = record {
  within : l.next ≤ length l.races.items;
  closed : HaveExchangesBelow l.peers l.races.items l.next;
  grows : Grows l.peers l.fn.races.items l.races.items;
}

abbrev pub decreases-loop-next : goal.decreases-loop-next
decreases-loop-next l = 2 ^ 64 - l.next
