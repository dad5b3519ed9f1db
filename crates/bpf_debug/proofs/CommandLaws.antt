-- Lines of too many words.
use Rattle.std.proofs.Common.{◌≡◌, ℕ, ◌≤◌, List, [], ◌∷◌, length, None, refl, arith}
use Rattle.bpf_debug.specs.Command.{few_words}

pub too_many : (fields : List (List ℕ)) → 5 ≤ length fields → None ≡ few_words fields
too_many [] h = refl
too_many (a ∷ []) h = absurd (omega arith)
too_many (a ∷ b ∷ []) h = absurd (omega arith)
too_many (a ∷ b ∷ c ∷ []) h = absurd (omega arith)
too_many (a ∷ b ∷ c ∷ d ∷ []) h = absurd (omega arith)
too_many (a ∷ b ∷ c ∷ d ∷ e ∷ fields) h = refl
