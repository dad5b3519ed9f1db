-- Hex digits by a table.
use Rattle.std.specs.Prelude.{◌==◌, ◌&&◌, ℕ, zero, suc, Bool, true, false, IsTrue, List, Option, Some, None, nat_lt, slice_index, if◌then◌else◌}
use Rattle.hex.specs.Hex.{hex_digit_value}

-- the number, where it is one of a digit
abbrev pub number_or_none : ℕ → Option ℕ
number_or_none n = if nat_lt n 16 then Some n else None

abbrev pub is_same : Option ℕ → Option ℕ → Bool
is_same None None = true
is_same (Some a) (Some b) = a == b
is_same None (Some b) = false
is_same (Some a) None = false

-- of each of the first n bytes, the table has the number that it stands for as a digit, or one that
-- no digit stands for
abbrev pub all_numbers : List ℕ → ℕ → Bool
all_numbers table zero = true
all_numbers table (suc n) =
    is_same (hex_digit_value n) (number_or_none (slice_index table n)) && all_numbers table n

-- of each byte
abbrev pub AreNumbers : List ℕ → Type 0
AreNumbers table = IsTrue (all_numbers table 256)
