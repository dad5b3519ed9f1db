-- What holds of a result, from what is known of it.
use Rattle.std.specs.Prelude.{OnOk, Result, Ok, Err}

pub on_ok : {U E : Type 0} (r : Result U E) (P Q : Type 0) → (P → Q) → OnOk r P → OnOk r Q
on_ok (Ok u) P Q f h = f h
on_ok (Err e) P Q f h = tt
