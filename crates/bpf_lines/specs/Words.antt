-- Words: longest runs of letters, digits and underscores; the numbers and names among them (our own
-- choice).
use Rattle.std.specs.Prelude.{ℕ, Bool, false, ◌==◌, ◌&&◌, ◌||◌, not, nat_le, nat_lt, nat_eq, if◌then◌else◌, List, [], ◌∷◌, length, drop}
use Rattle.std.specs.Prelude.{Option, Some, None, codes}
use Rattle.std.specs.Char.{digit_value}
use Rattle.std.specs.Str.Parse.{digits_value}
use Rattle.std.specs.List.{starts_with, list_all}
use Rattle.bpf_lines.specs.declared.numbers.Radix.{Radix}
use Rattle.bpf_lines.specs.declared.numbers.Radix.TheVariants.{Decimal, Hex}

abbrev pub is_word_byte : ℕ → Bool
is_word_byte b =
    (nat_le 97 b && nat_le b 122) || ((nat_le 65 b && nat_le b 90) || ((nat_le 48 b
    && nat_le b 57) || (b == 95)))

abbrev pub is_decimal_digit : ℕ → Bool
is_decimal_digit b = nat_le 48 b && nat_le b 57

abbrev pub begins_with_digit : List ℕ → Bool
begins_with_digit [] = false
begins_with_digit (b ∷ bs) = is_decimal_digit b

-- ---- numbers, of any size

abbrev pub numeral_value : Radix → List ℕ → ℕ
numeral_value Decimal digits = digits_value 10 digits
numeral_value Hex digits = digits_value 16 digits

abbrev pub is_digit_of : ℕ → ℕ → Bool
is_digit_of base b = nat_lt (digit_value b) base

-- one digit or more
abbrev pub is_numeral : ℕ → List ℕ → Bool
is_numeral base ds = nat_lt 0 (length ds) && list_all (is_digit_of base) ds

-- digits in a base are a number
abbrev pub written_in : ℕ → List ℕ → Option ℕ
written_in base ds = if is_numeral base ds then Some (digits_value base ds) else None

-- the number that a word is, if it is one: decimal digits, or `0x` and hex digits
unfoldable pub written_number : List ℕ → Option ℕ
written_number w =
    if starts_with nat_eq w (codes "0x") then written_in 16 (drop 2 w) else written_in 10 w

-- ---- names

abbrev pub is_word : List ℕ → Bool
is_word w = nat_lt 0 (length w) && list_all is_word_byte w

-- a word that doesn't begin with a digit
abbrev pub is_name : List ℕ → Bool
is_name w = is_word w && not (begins_with_digit w)
