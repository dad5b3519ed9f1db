-- Words, and the bytes that lie in them.
use Rattle.std.specs.Prelude.{ℕ, zero, suc, ◌+◌, ◌*◌, ◌<◌, List, [], ◌∷◌, ◌++◌}
use Rattle.bpf_base.specs.Bytes.{little_endian, low_bytes, part}

abbrev pub AreBytes : List ℕ → Type 0
AreBytes [] = Unit {0}
AreBytes (b ∷ bs) = (b < 256) × AreBytes bs

-- the k-th word of bytes: eight of them, the lowest first, and zeros after the last
abbrev pub word_of : List ℕ → ℕ → ℕ
word_of bs k = little_endian (part bs (8 * k) 8)

-- the bytes of n words
abbrev pub bytes_of_words : ℕ → (ℕ → ℕ) → List ℕ
bytes_of_words zero f = []
bytes_of_words (suc n) f = low_bytes 8 (f 0) ++ bytes_of_words n (λ k. f (k + 1))
