-- The parts of a claim, appended one after the other. Private functions cite this.
use Rattle.std.specs.Prelude.{◌≡◌, ◌++◌, Bool, true, false, List, None, Some, ℕ}
use Rattle.bpf_check.specs.Claim.{Part}
use Rattle.bpf_check.specs.Parts.{parts_in}
use Rattle.bpf_check.specs.Subjects.{Subjects}

-- what is between words of a kind are parts, and they are appended; or one of it is none
abbrev pub PushesParts : Subjects → (joint : List ℕ) → List (List ℕ) → List Part → (all : Bool) → List Part
    → Type 0
PushesParts s joint words old true new =
    (parts : List Part) × (parts_in s joint words ≡ Some parts) × (new ≡ old ++ parts)
PushesParts s joint words old false new = parts_in s joint words ≡ None
