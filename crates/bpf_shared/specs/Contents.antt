-- The bytes that arrays have at first.
use Rattle.std.specs.Prelude.{ℕ, List, map, Vec}
use Rattle.std.specs.declared.alloc.Global.{Global}

abbrev pub bytes_of : Vec ℕ Global → List ℕ
bytes_of v = v.items

abbrev pub bytes_of_all : List (Vec ℕ Global) → List (List ℕ)
bytes_of_all vs = map bytes_of vs
