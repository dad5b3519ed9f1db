use Rattle.std.proofs.Common.{◌≡◌}
use Rattle.bpf_names.specs.Names.{names_of}
use Rattle.bpf_explore.proofs.PatienceLaws.{Gathered}
use Rattle.bpf_explore.proofs.patience.gather_patiently.Given as goal

abbrev pub invariant-loop-place : goal.invariant-loop-place
invariant-loop-place l = (l.spread.kept ≡ l.fn.spread.kept) × Gathered l.fn.spread.kept (names_of l.names) l.maps l.place l.whole l.answers.items
