-- What a step leaves of the word that an owner fills.
use Rattle.std.specs.Prelude.{ℕ, List, [], ◌∷◌, ◌++◌}
use Rattle.hop_words.specs.declared.known.Known.{Known}
use Rattle.hop_words.specs.declared.known.Fresh.{Fresh}

abbrev pub filling_key : Known → Fresh → List Fresh → ℕ → Known
filling_key l f rest n = record l { fresh = record f { key = f.key ++ n ∷ [] } ∷ rest }

abbrev pub filling_value : Known → Fresh → List Fresh → ℕ → Known
filling_value l f rest n = record l { fresh = record f { value = f.value ++ n ∷ [] } ∷ rest }
