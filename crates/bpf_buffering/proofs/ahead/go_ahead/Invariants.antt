use Rattle.bpf_buffering.proofs.Unseen.{Gone}
use Rattle.bpf_buffering.proofs.ahead.go_ahead.Given as goal

abbrev pub invariant-loop : goal.invariant-loop
invariant-loop l = Gone l.program l.fn.here l.fn.state l.fn.left l.here l.state l.left

abbrev pub decreases-loop : goal.decreases-loop
decreases-loop l = l.left
