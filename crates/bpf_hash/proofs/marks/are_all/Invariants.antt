use Rattle.std.proofs.Common.{IsTrue}
use Rattle.bpf_hash.specs.Private.Rows.{AreMarked}
use Rattle.bpf_hash.proofs.marks.are_all.Given as goal

abbrev pub invariant-loop-mark : goal.invariant-loop-mark
invariant-loop-mark l = IsTrue l.all → AreMarked l.marks l.mark-index
