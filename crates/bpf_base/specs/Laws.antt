-- What follows from the definitions of bytes and parts.
use Rattle.std.specs.Prelude.{◌≡◌, ℕ, ◌+◌, ◌<◌, ◌≤◌, ◌⊎◌, List, length, All, slice_get}
use Rattle.bpf_base.specs.Bytes.{modulus, little_endian, low_bytes, part, with_part}

-- a number that n bytes can hold is read back from them, and bytes are those of their number
abbrev pub NumbersReadBack : Type 0
NumbersReadBack =
    ((n x : ℕ) → x < modulus n → little_endian (low_bytes n x) ≡ x)
    × ((bytes : List ℕ) → All (λ byte. byte < 256) bytes
    → low_bytes (length bytes) (little_endian bytes) ≡ bytes)

-- where bytes are replaced, the new ones are there, and each other byte stays
abbrev pub OnePartIsReplaced : Type 0
OnePartIsReplaced = (bytes : List ℕ) (i : ℕ) (others : List ℕ) → i + length others ≤ length bytes
    → (length (with_part bytes i others) ≡ length bytes)
    × (part (with_part bytes i others) i (length others) ≡ others)
    × ((k : ℕ) → (k < i) ⊎ (i + length others ≤ k)
    → slice_get (with_part bytes i others) k ≡ slice_get bytes k)
