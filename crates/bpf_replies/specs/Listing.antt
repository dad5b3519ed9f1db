-- Words as text: a line of 16 hex digits each, in the order of their bytes. Our own choice.
use Rattle.std.specs.Prelude.{ℕ, zero, suc, ◌*◌, ◌++◌, List, [], ◌∷◌, drop, take}
use Rattle.hex.specs.Hex.{encode_lower}

-- the word of this number, from 0
abbrev pub bytes_of_word : List ℕ → ℕ → List ℕ
bytes_of_word bytes n = take 8 (drop (8 * n) bytes)

-- the lines of the first n words
abbrev pub word_lines : ℕ → List ℕ → List ℕ
word_lines zero bytes = []
word_lines (suc n) bytes = word_lines n bytes ++ (encode_lower (bytes_of_word bytes n) ++ 10 ∷ [])
