-- That a fact on a number, if there is one, has one proof at most.
use Rattle.std.specs.Prelude.{◌<◌, ◌≤◌, ℕ, Option, Some, None, IfSome}
use Rattle.std.specs.Coded.{Unit-prop, le_prop}

pub few-prop : (n : Option ℕ) (most : ℕ) → IsProp (IfSome n (λ n. n ≤ most))
few-prop None most = Unit-prop
few-prop (Some n) most = le_prop

pub some-prop : (n : Option ℕ) → IsProp (IfSome n (λ n. 0 < n))
some-prop None = Unit-prop
some-prop (Some n) = le_prop
