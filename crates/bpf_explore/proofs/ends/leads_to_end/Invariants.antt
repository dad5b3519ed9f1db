use Rattle.bpf_explore.proofs.MarkLaws.{StuckBelow}
use Rattle.bpf_explore.proofs.ends.leads_to_end.Given as goal

abbrev pub invariant-loop-cpu : goal.invariant-loop-cpu
invariant-loop-cpu l = StuckBelow l.turns.peers.items l.explorer.kept l.marks l.place l.cpu
