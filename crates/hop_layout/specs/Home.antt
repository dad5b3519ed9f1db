-- Where a key belongs: a hash of its words, folded to 32 bits under a mask, and the segment and the
-- bucket that this names (all our own choice).
use Rattle.std.specs.Prelude.{ℕ, zero, suc, ◌+◌, ◌/◌, ◌%◌, ◌^◌, List, length, bit_and, bit_xor}
use Rattle.bpf_base.specs.Hashes.{spread}
use Rattle.bpf_shared.specs.declared.shapes.MapShape.{MapShape}
use Rattle.hop_layout.specs.Layout.{depth, power}
use Rattle.hop_layout.specs.Words.{word_of}

-- a number whose lower half has both halves in it
abbrev pub crossed : ℕ → ℕ
crossed n = bit_xor n (n / 2 ^ 32)

-- a hash with a word more. A product's bits depend on lower ones alone; so its upper half is put
-- into its lower one before the second product
abbrev pub with_word : ℕ → ℕ → ℕ
with_word hash word = spread (crossed (spread (bit_xor hash word)))

-- the hash of the first n words of a key, which begins with the seed
abbrev pub hash_of : ℕ → List ℕ → ℕ → ℕ
hash_of seed key zero = seed
hash_of seed key (suc n) = with_word (hash_of seed key n) (word_of key n)

unfoldable pub home_of : List ℕ → ℕ → ℕ → ℕ
home_of key seed mask = bit_and (crossed (hash_of seed key ((length key + 7) / 8))) mask

abbrev pub segment_of : ℕ → MapShape → List ℕ → ℕ
segment_of seed g key = home_of key seed g.mask % power (depth g)

abbrev pub key_bucket : ℕ → MapShape → List ℕ → ℕ
key_bucket seed g key = home_of key seed g.mask / 2 ^ 16 % 64
