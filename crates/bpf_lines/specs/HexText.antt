-- Hex text: what is passed over between digits, and the bytes that a text spells (our own choice).
use Rattle.std.specs.Prelude.{◌≡◌, ℕ, Bool, ◌==◌, ◌||◌, not, List, filter, Ok}
use Rattle.hex.specs.Hex.{decode_of}

-- space, tab, CR and LF
abbrev pub is_passed_over : ℕ → Bool
is_passed_over b = (b == 32) || ((b == 9) || ((b == 13) || (b == 10)))

-- what is left of a text without them
abbrev pub digits_of : List ℕ → List ℕ
digits_of text = filter (λ b. not (is_passed_over b)) text

-- the text spells the bytes: the rest is two digits a byte, the high four bits first
abbrev pub IsHexOf : List ℕ → List ℕ → Type 0
IsHexOf text bytes = decode_of (digits_of text) ≡ Ok bytes
