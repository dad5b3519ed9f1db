-- Which of several refusals is answered where more than one applies (our own choice).
use Rattle.std.specs.Prelude.{◌≡◌, ℕ, ◌≤◌}

-- The first in order that applies: nothing that applies is at a lower place, and at its place
-- nothing that applies has a lower number.
pub record IsFirst {A : Type 0} (place number : A → ℕ) (Applies : A → Type 0) (a : A) : Type 0 where
  pub applies : Applies a
  pub lowest : (b : A) → Applies b → place a ≤ place b
  pub least : (b : A) → Applies b → place b ≡ place a → number a ≤ number b
