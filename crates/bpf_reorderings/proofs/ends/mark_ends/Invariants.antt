use Rattle.std.proofs.Common.{◌≡◌, ◌+◌, false, if◌then◌else◌, length}
use Rattle.bpf_patience.specs.Ends.{AreStuckX86}
use Rattle.bpf_explore.specs.Private.Ends.{unmarked}
use Rattle.bpf_reorderings.specs.Private.Hung.{LeadToEnds}
use Rattle.bpf_reorderings.proofs.ends.mark_ends.Given as goal

abbrev pub invariant-loop-more : goal.invariant-loop-more
invariant-loop-more l = record {
  count : length l.marks.items ≡ length l.explorer.kept;
  lead : LeadToEnds l.explorer.kept l.marks.items;
  stuck : l.more ≡ false → AreStuckX86 l.explorer.kept l.marks.items;
}

-- each time but the last more are marked
abbrev pub decreases-loop-more : goal.decreases-loop-more
decreases-loop-more l = unmarked l.marks.items + (if l.more then 1 else 0)
