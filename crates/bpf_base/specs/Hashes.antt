-- Numbers spread over 64 bits, for hashes.
use Rattle.std.specs.Prelude.{ℕ, ◌*◌, ◌%◌, ◌^◌}

-- a number's product with 2 ^ 64 by the golden ratio (our own choice): each bit depends on the
-- number's bits up to its place, the highest on all
abbrev pub spread : ℕ → ℕ
spread number = number * 0x9e37_79b9_7f4a_7c15 % 2 ^ 64
