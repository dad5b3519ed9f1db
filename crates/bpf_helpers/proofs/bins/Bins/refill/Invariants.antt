use Rattle.std.proofs.Common.{take}
use Rattle.bpf_helpers.specs.Private.Bins.{AreBinned}
use Rattle.bpf_helpers.proofs.bins.Bins.refill.Given as goal

abbrev pub invariant-loop-number : goal.invariant-loop-number
invariant-loop-number l = AreBinned l.self.latest l.self.earlier (take l.number l.spans)
