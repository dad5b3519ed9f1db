-- The segment of a key is one of its map's.
use Rattle.std.proofs.Common.{ℕ, zero, suc, ◌<◌, arith}
use Rattle.hop_layout.specs.Layout.{power}

pub some_power : (d : ℕ) → 0 < power d
some_power zero = omega arith
some_power (suc d) = let r = some_power d in omega arith
