use Rattle.std.proofs.Common.{arith}
use Rattle.bpf_loader.proofs.CheckLemmas.{clear_past}
use Rattle.bpf_loader.proofs.checks.check_end.Goals as goal
use Rattle.bpf_loader.proofs.checks.check_end.Goals.{else-goes_on-via-then-goes_on+else-pc-words, else-goes_on-via-else-goes_on}

pub returns-clause-ok : goal.returns-clause-ok
returns-clause-ok c =
    clear_past _ _ _ 11 _ _ c.requires.begins c.requires.clear (λ a. a)
    (λ last.
    elim c.else-goes_on.branch [
      | else-goes_on-via-then-goes_on+else-pc-words w ↦ omega (arith, last.1)
      | else-goes_on-via-else-goes_on w ↦ cc (last.0, w.if-goes_on.ensures)
    ])
