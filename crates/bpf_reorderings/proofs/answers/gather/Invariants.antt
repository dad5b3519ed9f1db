use Rattle.std.proofs.Common.{◌≡◌}
use Rattle.bpf_names.specs.Names.{names_of}
use Rattle.bpf_reorderings.specs.Private.Answers.{Gathered}
use Rattle.bpf_reorderings.proofs.answers.gather.Given as goal

abbrev pub invariant-loop-place : goal.invariant-loop-place
invariant-loop-place l = (l.explorer.kept ≡ l.fn.explorer.kept) × (l.explorer.patient ≡ l.fn.explorer.patient)
    × Gathered l.fn.explorer.patient l.fn.explorer.kept (names_of l.names) l.maps l.place l.told
