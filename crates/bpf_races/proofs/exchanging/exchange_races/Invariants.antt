use Rattle.std.proofs.Common.{◌≡◌, length}
use Rattle.bpf_races.specs.Private.Exchanging.{HaveExchangesBelow, CoversBelow}
use Rattle.bpf_races.proofs.exchanging.exchange_races.Given as goal

abbrev pub invariant-loop-k : goal.invariant-loop-k
invariant-loop-k l = record {
  all : l.next ≡ length l.races.items;
  closed : HaveExchangesBelow l.peers l.races.items l.next;
  covers : CoversBelow l.peers l.found l.races.items l.k;
}
