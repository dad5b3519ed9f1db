-- What fields say that aren't two.
use Rattle.std.proofs.Common.{◌≡◌, ℕ, ◌<◌, ◌≤◌, List, [], ◌∷◌, length, refl, arith}
use Rattle.std.specs.Prelude.{option_map}
use Rattle.bpf_debug.specs.Command as plain
use Rattle.bpf_buffer_debug.specs.Command.{Plain, few_words}

pub many_plain : (fields : List (List ℕ)) → 3 ≤ length fields → few_words fields ≡ option_map Plain (plain.few_words fields)
many_plain [] h = absurd (omega arith)
many_plain (a ∷ []) h = absurd (omega arith)
many_plain (a ∷ b ∷ []) h = absurd (omega arith)
many_plain (a ∷ b ∷ c ∷ fields) h = refl

pub one_plain : (fields : List (List ℕ)) → length fields < 2 → few_words fields ≡ option_map Plain (plain.few_words fields)
one_plain [] h = refl
one_plain (a ∷ []) h = refl
one_plain (a ∷ b ∷ fields) h = absurd (omega arith)
