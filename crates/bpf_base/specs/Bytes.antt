-- Bytes as little-endian numbers, and parts of lists of bytes. That the machine is little-endian is
-- our own choice.
use Rattle.std.specs.Prelude.{ℕ, zero, suc, ◌+◌, ◌*◌, ◌/◌, ◌%◌, ◌^◌, List, [], ◌∷◌, ◌++◌, length, take, drop}

-- one more than the greatest number of n bytes
abbrev pub modulus : ℕ → ℕ
modulus n = 2 ^ (8 * n)

-- the number that bytes read as, the lowest byte first
abbrev pub little_endian : List ℕ → ℕ
little_endian [] = 0
little_endian (byte ∷ bytes) = byte + 256 * little_endian bytes

-- the n low bytes of a number, the lowest first
abbrev pub low_bytes : ℕ → ℕ → List ℕ
low_bytes zero x = []
low_bytes (suc n) x = x % 256 ∷ low_bytes n (x / 256)

-- the n bytes from the i-th on
abbrev pub part : List ℕ → ℕ → ℕ → List ℕ
part bytes i n = take n (drop i bytes)

-- the bytes with others in place of as many of them, from the i-th on
abbrev pub with_part : List ℕ → ℕ → List ℕ → List ℕ
with_part bytes i others = take i bytes ++ others ++ drop (i + length others) bytes
