use Rattle.std.proofs.Common.{length, ◌-◌, ◌≡◌, ◌≤◌, false, take}
use Rattle.std.specs.Io.KnownBytes.{Appends}
use Rattle.bpf_replies.proofs.output.write_whole.Given as goal

abbrev pub invariant-loop-count : goal.invariant-loop-count
invariant-loop-count g l = (l.count ≤ length l.bytes)
    × Appends (g.W.Sink.contents l.initial.sink) (g.W.Sink.contents l.sink) (take l.count l.bytes)
    × (g.W.Sink.has_failed l.sink ≡ false)

abbrev pub decreases-loop-count : goal.decreases-loop-count
decreases-loop-count g l = length l.bytes - l.count
