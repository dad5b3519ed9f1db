use Rattle.std.proofs.Common.{◌≡◌, Bool, Some, inl, inr, subst}
use Rattle.std.specs.Prelude.{slice_get}
use Rattle.bpf_reorderings.proofs.hung.is_first_hung.Goals as goal

pub returns-then-mark_of-clause-later : goal.returns-then-mark_of-clause-later
returns-then-mark_of-clause-later c is = inl c.if-mark_of.ensures

pub returns-clause-later : goal.returns-clause-later
returns-clause-later c is = inr (
  c.came_from.result,
  c.came_from.ensures.before,
  subst
      (λ (b : Bool). slice_get c.args.marks.now c.came_from.result ≡ Some b) is c.mark_of-2.ensures,
  c.came_from.ensures.leads,
)
