use Rattle.bpf_races.specs.Private.Exchanging.{Grows, IsListedFrom}
use Rattle.bpf_races.proofs.exchanging.add_from.Given as goal

abbrev pub invariant-loop-other : goal.invariant-loop-other
invariant-loop-other l = record {
  listed : IsListedFrom l.peers l.races.items l.race l.one l.other;
  grows : Grows l.peers l.fn.races.items l.races.items;
}
