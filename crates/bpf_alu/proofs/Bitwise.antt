-- The bitwise operations stay within 64 bits.
use Rattle.std.proofs.Common.{ℕ, ◌^◌, ◌<◌, bit_or}
use Rattle.std.specs.Prelude.{bit_xor}
use Rattle.std.proofs.lemmas.Nat.{or_lt, xor_lt}

pub or_below_64 : (a b : ℕ) → a < 2 ^ 64 → b < 2 ^ 64 → bit_or a b < 2 ^ 64
or_below_64 a b p q = or_lt 64 a b p q

pub xor_below_64 : (a b : ℕ) → a < 2 ^ 64 → b < 2 ^ 64 → bit_xor a b < 2 ^ 64
xor_below_64 a b p q = xor_lt 64 a b p q
