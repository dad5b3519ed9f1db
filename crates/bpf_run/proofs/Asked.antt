-- What a debugger was asked, line by line.
use Rattle.std.proofs.Common.{◌≡◌, Bool, false, ℕ, suc, ◌+◌, List, ◌++◌, arith, subst}
use Rattle.bpf_run.specs.Private.Asking.{AsksWhere, Responds, where_line}

pub one_more : {S : Type 0} (answers : Responds S) (n : ℕ) (s m t : S) (before line told after : List ℕ) (refused : Bool)
    → AsksWhere answers n s before m → answers m t line told refused → refused ≡ false → line ≡ where_line n → after ≡ before ++ told
    → AsksWhere answers (n + 1) s after t
one_more {S} answers n s m t before line told after refused asks answer kept is joined =
    let as_asked : answers m t (where_line n) told false =
    subst (λ (b : Bool). answers m t (where_line n) told b) kept (subst (λ (l : List ℕ). answers m t l told refused) is answer) in
    let more : AsksWhere answers (suc n) s after t = (m, before, told, asks, as_asked, joined) in
    let next : suc n ≡ n + 1 = omega arith in
    subst (λ (k : ℕ). AsksWhere answers k s after t) next more
