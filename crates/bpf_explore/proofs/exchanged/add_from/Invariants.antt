use Rattle.bpf_explore.specs.Private.Exchanged.{Grows, IsListedFrom}
use Rattle.bpf_explore.proofs.exchanged.add_from.Given as goal

abbrev pub invariant-loop-other : goal.invariant-loop-other
invariant-loop-other l = record {
  listed : IsListedFrom l.peers l.hung.items l.by l.one l.other;
  grows : Grows l.peers l.fn.hung.items l.hung.items;
}
