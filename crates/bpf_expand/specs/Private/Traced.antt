-- Where what is found comes from.
use Rattle.std.specs.Prelude.{◌≡◌, ◌≤◌, ◌⊎◌, ◌++◌, ◌∷◌, [], ℕ, List, drop, length}
use Rattle.bpf_names.specs.Names.{Names}
use Rattle.bpf_expand.specs.declared.calls.Found.{Found}
use Rattle.bpf_expand.specs.declared.origin.Origin.{Origin}
use Rattle.bpf_expand.specs.declared.successor.Successor.{Successor}
use Rattle.bpf_expand.specs.Parts.{ArePaired, EndsWith, LeadsTo}
use Rattle.bpf_expand.specs.State.{Host}

-- of what the state of a number leads to
abbrev pub origin_of : ℕ → Successor → Origin
origin_of number s = record { number = number; cpu = s.cpu; ahead = s.ahead }

-- two lists have one more each, or neither has
abbrev pub IsPut : {A B : Type 0} → A → B → List A → List B → List A → List B → Type 0
IsPut x y xs ys more new =
    ((more ≡ xs) × (new ≡ ys)) ⊎ ((more ≡ xs ++ x ∷ []) × (new ≡ ys ++ y ∷ []))

-- there is one of the first for each of the second from a place on
abbrev pub AreLater : {A B : Type 0} → (A → B → Type 0) → ℕ → List A → List B → Type 0
AreLater R first xs ys = (first ≤ length ys) × ArePaired R xs (drop first ys)

-- after the states that were known before, each has an origin; each report has the number of a state that
-- has it
abbrev pub AreTraced : Host → Names → (read : List (List ℕ)) → (first : ℕ) → Found → Type 0
AreTraced h names read first found = AreLater (LeadsTo h read) first found.origins.items found.known
    × AreLater (EndsWith h names read) 0 found.numbers.items found.ends
