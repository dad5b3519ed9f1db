use Rattle.std.proofs.Common.{◌≡◌, ◌+◌, false, if◌then◌else◌, length}
use Rattle.bpf_equal.specs.Patient.{AreStuckPermuted}
use Rattle.bpf_explore.specs.Private.Ends.{LeadToEnds, unmarked}
use Rattle.bpf_explore.proofs.ends.mark_ends.Given as goal

abbrev pub invariant-loop-more : goal.invariant-loop-more
invariant-loop-more l = record {
  count : length l.marks.items ≡ length l.explorer.kept;
  lead : LeadToEnds l.turns.peers.items l.explorer.kept l.marks.items;
  stuck : l.more ≡ false → AreStuckPermuted l.turns.peers.items l.explorer.kept l.marks.items;
}

-- each time but the last more are marked
abbrev pub decreases-loop-more : goal.decreases-loop-more
decreases-loop-more l = unmarked l.marks.items + (if l.more then 1 else 0)
