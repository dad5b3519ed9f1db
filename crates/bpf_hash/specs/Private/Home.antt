-- Where a key belongs: a key of four or eight bytes, as most have, is spread as the number that it
-- reads as, any other byte by byte; the high bits choose (our own choice).
use Rattle.std.specs.Prelude.{ℕ, ◌==◌, ◌*◌, ◌/◌, ◌^◌, Bool, true, false, ◌||◌, List, fold, length, bit_xor}
use Rattle.bpf_base.specs.Bytes.{little_endian}
use Rattle.bpf_base.specs.Hashes.{spread}

abbrev pub hash_round : ℕ → ℕ → ℕ
hash_round hash byte = spread (bit_xor hash byte)

-- 64 bits of a key: of a number, and of any other
abbrev pub spread_bytes : Bool → List ℕ → ℕ
spread_bytes true key = spread (little_endian key)
spread_bytes false key = fold hash_round 0 key

abbrev pub spread_key : List ℕ → ℕ
spread_key key = spread_bytes (length key == 4 || length key == 8) key

-- 32 bits of a key
unfoldable pub hash_of : List ℕ → ℕ
hash_of key = spread_key key / 2 ^ 32

-- one of this many homes
abbrev pub home_of : ℕ → List ℕ → ℕ
home_of homes key = hash_of key * homes / 2 ^ 32
