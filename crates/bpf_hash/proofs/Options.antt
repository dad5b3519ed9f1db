-- What is known of an option's value, and what of none.
use Rattle.std.proofs.Common.{◌≡◌, Option, Some, None, subst}
use Rattle.std.specs.Prelude.{IfSome, IfNone}

pub at_some : {A : Type 0} (P : A → Type 0) (o : Option A) (x : A) → o ≡ Some x → IfSome o P → P x
at_some P o x e known = subst (λ (p : Option _). IfSome p P) e known

pub at_none : {A : Type 0} (N : Type 0) (o : Option A) → o ≡ None → IfNone o N → N
at_none N o e known = subst (λ (p : Option _). IfNone p N) e known
