-- Words that neither ask for help nor for the version by name.
use Rattle.std.proofs.Common.{◌≡◌, List, [], ◌∷◌, length, refl}
use Rattle.clap.specs.Words.{Text}
use Rattle.bpf_command.specs.Names.{as_flags}

pub other_flags : (words : List Text) → (length words ≡ 2 → ⊥) → (length words ≡ 3 → ⊥) → as_flags words ≡ words
other_flags [] two three = refl
other_flags (a ∷ []) two three = refl
other_flags (a ∷ b ∷ []) two three = absurd (two refl)
other_flags (a ∷ b ∷ c ∷ []) two three = absurd (three refl)
other_flags (a ∷ b ∷ c ∷ d ∷ ws) two three = refl
