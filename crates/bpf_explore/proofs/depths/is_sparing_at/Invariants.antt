use Rattle.bpf_explore.proofs.HungLaws.{DeeperBelow}
use Rattle.bpf_explore.proofs.depths.is_sparing_at.Given as goal

abbrev pub invariant-loop-cpu : goal.invariant-loop-cpu
invariant-loop-cpu l = DeeperBelow l.turns.peers.items l.explorer.kept l.depths l.place l.cpu
