use Rattle.std.proofs.Common.{List, length, ◌-◌, ◌≡◌, ◌≤◌, false, take}
use Rattle.bpf_talk.specs.Terminal.{Call, IsPut}
use Rattle.bpf_talk.proofs.talking.put.Given as goal

abbrev pub invariant-loop-count : goal.invariant-loop-count
invariant-loop-count g l = record {
  fits : l.count ≤ length l.bytes;
  put : (calls : List Call) × g.D.Terminal.passes l.initial.terminal l.terminal calls × IsPut (take l.count l.bytes) calls;
  works : g.D.Terminal.has_failed l.terminal ≡ false;
  quiet : g.D.Terminal.is_unread l.terminal ≡ g.D.Terminal.is_unread l.initial.terminal;
}

abbrev pub decreases-loop-count : goal.decreases-loop-count
decreases-loop-count g l = length l.bytes - l.count
