use Rattle.std.proofs.Common.{◌<◌}
use Rattle.bpf_helpers.proofs.Binned.{IsAt}
use Rattle.bpf_helpers.proofs.bins.Bins.have.Given as goal

abbrev pub invariant-loop-other : goal.invariant-loop-other
invariant-loop-other l = record { small : l.number < 256; at : IsAt l.spans l.span l.number }

abbrev pub decreases-loop-other : goal.decreases-loop-other
decreases-loop-other l = l.number
