-- The words of an element that is filled.
use Rattle.std.specs.Prelude.{ℕ, zero, suc, List, [], ◌∷◌, ◌++◌}
use Rattle.hop_words.specs.declared.known.Fresh.{Fresh}
use Rattle.hop_layout.specs.Words.{word_of}

-- the first n words of bytes
abbrev pub word_list : ℕ → List ℕ → List ℕ
word_list zero bs = []
word_list (suc n) bs = word_list n bs ++ word_of bs n ∷ []

-- the first element in hand has these words more, of its key and of its value
abbrev pub with_words : List Fresh → List ℕ → List ℕ → List Fresh
with_words [] ks vs = []
with_words (f ∷ fs) ks vs = record f { key = f.key ++ ks; value = f.value ++ vs } ∷ fs
