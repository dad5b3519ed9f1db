use Rattle.bpf_races.specs.Private.Exchanging.{Grows, IsListedAround}
use Rattle.bpf_races.proofs.exchanging.add_around.Given as goal

abbrev pub invariant-loop-one : goal.invariant-loop-one
invariant-loop-one l = record {
  listed : IsListedAround l.peers l.races.items l.race l.one;
  grows : Grows l.peers l.fn.races.items l.races.items;
}
