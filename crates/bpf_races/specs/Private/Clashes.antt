-- Bytes while they are gathered.
use Rattle.std.specs.Prelude.{ℕ, ◌⊎◌, List}
use Rattle.bpf_races.specs.declared.sync.Part.{Part}
use Rattle.bpf_races.specs.Touch.{IsAmong}
use Rattle.bpf_races.specs.Parts.{IsLeftOut}

-- those of this kind are there too, but for those that are left out
pub record Collects (Is : ℕ → Type 0) (sync : List Part) (old new : List ℕ) : Type 0 where
  pub keeps : (b : ℕ) → IsAmong old b → IsAmong new b
  pub each : (b : ℕ) → IsAmong new b → IsAmong old b ⊎ (Is b × (IsLeftOut sync b → ⊥))
  pub all : (b : ℕ) → Is b → IsAmong new b ⊎ IsLeftOut sync b
