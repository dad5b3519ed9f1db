use Rattle.bpf_hash.specs.Private.Normal.{IsFilled}
use Rattle.bpf_hash.specs.Private.Sized.{AreApart}
use Rattle.bpf_hash.proofs.table.restoring.fill_index.Given as goal

abbrev pub invariant-loop-element : goal.invariant-loop-element
invariant-loop-element l = record {
  filled : IsFilled l.homes l.size l.linked l.keys l.element l.index;
  apart : AreApart l.size l.linked l.keys l.element;
}
