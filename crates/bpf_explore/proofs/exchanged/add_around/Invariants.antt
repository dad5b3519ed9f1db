use Rattle.bpf_explore.specs.Private.Exchanged.{Grows, IsListedAround}
use Rattle.bpf_explore.proofs.exchanged.add_around.Given as goal

abbrev pub invariant-loop-one : goal.invariant-loop-one
invariant-loop-one l = record {
  listed : IsListedAround l.peers l.hung.items l.by l.one;
  grows : Grows l.peers l.fn.hung.items l.hung.items;
}
