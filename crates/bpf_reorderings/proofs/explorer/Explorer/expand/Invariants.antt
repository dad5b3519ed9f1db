use Rattle.std.proofs.Common.{◌≡◌}
use Rattle.bpf_reorderings.proofs.Growing.{MovedSoFar}
use Rattle.bpf_reorderings.proofs.explorer.Explorer.expand.Given as goal

abbrev pub invariant-loop-cpu : goal.invariant-loop-cpu
invariant-loop-cpu l = (l.self.patient ≡ l.fn.self.patient) × MovedSoFar l.fn.self.patient l.fn.self.kept l.place l.cpu l.self.kept
