-- The words that a value was filled into spell it.
use Rattle.std.proofs.Common.{◌≡◌, ℕ, ◌<◌, List, ◌∷◌, length, take, slice_index, ap, sym, subst, ◌∙◌, arith}
use Rattle.hop_layout.specs.declared.place.Place.{Place}
use Rattle.hop_layout.specs.declared.place.Place.TheVariants.{KeyWord, ValueWord}
use Rattle.hop_layout.specs.declared.about.About.{About}
use Rattle.hop_words.specs.declared.known.Fresh.{Fresh}
use Rattle.hop_layout.specs.Layout.{words_for}
use Rattle.hop_layout.specs.Words.{bytes_of_words, word_of, AreBytes}
use Rattle.hop_words.specs.Ghost.{shape_at, Each}
use Rattle.hop_words.specs.Rule.{StartsWith}
use Rattle.hop_layout.proofs.Spelled.{spelled_same, spelled_back}

abbrev pub IsFilled : (Place → ℕ) → Fresh → Type 0
IsFilled w y = StartsWith y.key (λ j. w (KeyWord y.map y.element j)) × StartsWith y.value (λ j. w (ValueWord y.map y.element j))

pub value_spelled : (a : About) (w : Place → ℕ) (f : Fresh) (rest : List Fresh) (m : ℕ) (bytes : List ℕ) (fs : List Fresh) → fs ≡ f ∷ rest →
    Each (IsFilled w) fs → f.map ≡ m
    → length f.value ≡ words_for (shape_at a m).value → ((i : ℕ) → i < words_for (shape_at a m).value → slice_index f.value i ≡ word_of bytes i)
    → length bytes ≡ (shape_at a m).value → AreBytes bytes
    → take (shape_at a m).value (bytes_of_words (words_for (shape_at a m).value) (λ j. w (ValueWord m f.element j))) ≡ bytes
value_spelled a w f rest m bytes fs hand all map filled value size are =
    ap (take (shape_at a m).value) (spelled_same (words_for (shape_at a m).value) (λ j. w (ValueWord m f.element j)) (word_of bytes)
    (λ j lt. words j lt ∙ value j lt))
    ∙ (ap (λ (n : ℕ). take n (bytes_of_words (words_for (shape_at a m).value) (word_of bytes))) (sym size)
    ∙ spelled_back (words_for (shape_at a m).value) bytes are (omega arith))
  where
    in_it : IsFilled w f
    in_it = (subst (Each (IsFilled w)) hand all).0

    words : (j : ℕ) → j < words_for (shape_at a m).value → w (ValueWord m f.element j) ≡ slice_index f.value j
    words j lt = ap (λ (n : ℕ). w (ValueWord n f.element j)) (sym map) ∙ in_it.1 j (omega arith)
