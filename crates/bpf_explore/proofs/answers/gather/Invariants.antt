use Rattle.std.proofs.Common.{◌≡◌}
use Rattle.bpf_names.specs.Names.{names_of}
use Rattle.bpf_explore.specs.Private.Answers.{Gathered}
use Rattle.bpf_explore.proofs.answers.gather.Given as goal

abbrev pub invariant-loop-place : goal.invariant-loop-place
invariant-loop-place l = (l.spread.kept ≡ l.fn.spread.kept) × Gathered l.fn.spread.kept (names_of l.names) l.maps l.place l.answers.items
