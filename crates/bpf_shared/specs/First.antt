-- The first test that applies.
use Rattle.std.specs.Prelude.{Bool, List, [], ◌∷◌, Option, Some, None, if◌then◌else◌}

-- of answers with their tests: the first whose test is true
abbrev pub first_of : {A : Type 0} → List (A × Bool) → Option A
first_of [] = None
first_of (t ∷ ts) = if t.1 then Some t.0 else first_of ts
