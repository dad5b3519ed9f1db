-- Tuples of numbers, all of one width, one after the other.
use Rattle.std.specs.Prelude.{◌≡◌, ℕ, ◌+◌, ◌*◌, ◌<◌, ◌≤◌, List, ◌++◌, length}
use Rattle.bpf_base.specs.Bytes.{part}

pub record TupleList : Type 0 where
  pub width : ℕ
  pub count : ℕ
  pub numbers : List ℕ

-- the n-th tuple
abbrev pub tuple_at : TupleList → ℕ → List ℕ
tuple_at t n = part t.numbers (n * t.width) t.width

-- it is this one
abbrev pub IsTuple : TupleList → ℕ → List ℕ → Type 0
IsTuple t n tuple = (n < t.count) × (tuple_at t n ≡ tuple)

-- n are whole
abbrev pub AreWhole : TupleList → Type 0
AreWhole t = (1 ≤ t.width) × (length t.numbers ≡ t.count * t.width)

-- one more is after those that were there
abbrev pub with_tuple : TupleList → List ℕ → TupleList
with_tuple t tuple =
    record { width = t.width; count = t.count + 1; numbers = t.numbers ++ tuple }
