-- Texts that are put together.
use Rattle.std.proofs.Common.{◌≡◌, ◌∙◌, ℕ, List, ◌++◌, append_assoc, ap}

pub two_put : (old a b first second : List ℕ) → first ≡ old ++ a → second ≡ first ++ b → second ≡ old ++ (a ++ b)
two_put old a b first second one two = two ∙ (ap (λ (x : List ℕ). x ++ b) one ∙ append_assoc old a b)
