use Rattle.bpf_reorderings.proofs.Marking.{OffBelow}
use Rattle.bpf_reorderings.proofs.ends.leads_to_end.Given as goal

abbrev pub invariant-loop-cpu : goal.invariant-loop-cpu
invariant-loop-cpu l = OffBelow l.explorer.kept l.marks l.place l.cpu
