use Rattle.std.proofs.Common.{◌≡◌, ◌-◌, false, length}
use Rattle.bpf_explore.specs.Private.Ends.{LeadToEnds}
use Rattle.bpf_explore.proofs.MarkLaws.{Counted, StuckFrom}
use Rattle.bpf_explore.proofs.ends.mark_more.Given as goal

abbrev pub invariant-loop-step : goal.invariant-loop-step
invariant-loop-step l = record {
  count : length l.marks.items ≡ length l.explorer.kept;
  lead : LeadToEnds l.turns.peers.items l.explorer.kept l.marks.items;
  counted : Counted l.fn.marks.items l.marks.items l.more;
  stuck : l.more ≡ false → StuckFrom l.turns.peers.items l.explorer.kept l.marks.items (length l.explorer.kept - l.step);
}
