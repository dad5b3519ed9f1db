-- How far the reading of hex text has come.
use Rattle.std.specs.Prelude.{◌≡◌, ℕ, ◌+◌, ◌*◌, ◌<◌, ◌≤◌, List, [], ◌∷◌, ◌++◌, length, drop, Some, None, Result, Ok, Err}
use Rattle.hex.specs.Hex.{decode_pairs, hex_digit_value}
use Rattle.hex.specs.declared.error.FromHexError.{FromHexError}
use Rattle.bpf_lines.specs.HexText.{digits_of}
use Rattle.bpf_lines.specs.declared.hex_text.Ahead.{Ahead}
use Rattle.bpf_lines.specs.declared.hex_text.Ahead.TheVariants as ahead

-- these bytes before those of the digits that are left
abbrev pub behind : List ℕ → Result (List ℕ) FromHexError → Result (List ℕ) FromHexError
behind bytes (Ok rest) = Ok (bytes ++ rest)
behind bytes (Err e) = Err e

-- a text spells these bytes, as far as these digits of it
pub record IsReadTo (text bytes digits : List ℕ) : Type 0 where
  pub pairs : ℕ
  pub at : ℕ
  pub whole : length (digits_of text) ≡ 2 * pairs + length digits
  pub read : decode_pairs 0 (digits_of text) ≡ behind bytes (decode_pairs at digits)

-- what is ahead of a place, after blanks: a digit and the place after it, the end of the
-- text, or another byte
abbrev pub IsAhead : List ℕ → ℕ → Ahead → Type 0
IsAhead text at (ahead.Digit n to) =
    (d : ℕ) × (hex_digit_value d ≡ Some n) × (n < 16) × (at < to) × (to ≤ length text)
    × (digits_of (drop at text) ≡ d ∷ digits_of (drop to text))
IsAhead text at ahead.End = digits_of (drop at text) ≡ []
IsAhead text at ahead.Other =
    (b : ℕ) × (rest : List ℕ) × (hex_digit_value b ≡ None) × (digits_of (drop at text) ≡ b ∷ rest)
