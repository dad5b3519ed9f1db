-- Bytes of the values of maps, which are left out.
use Rattle.std.specs.Prelude.{◌≡◌, ℕ, ◌-◌, ◌/◌, ◌%◌, ◌<◌, ◌≤◌, List}
use Rattle.bpf_shared.specs.Shape.{first_value, map_area}
use Rattle.bpf_races.specs.declared.sync.Part.{Part}
use Rattle.bpf_races.specs.Touch.{IsAmong}

-- the number of the map among whose values the address is
abbrev pub map_at : ℕ → ℕ
map_at a = (a - first_value) / map_area

-- how far it is from the beginning of its value, in a map whose values are so far apart
abbrev pub offset_at : ℕ → ℕ → ℕ
offset_at stride a = (a - first_value) % map_area % stride

-- it is among these bytes of the map's values
pub record IsInPart (part : Part) (a : ℕ) : Type 0 where
  pub some : part.stride ≡ 0 → ⊥
  pub map : part.map ≡ map_at a
  pub from : part.from ≤ offset_at part.stride a
  pub past : offset_at part.stride a < part.past

-- it is among those that are left out
abbrev pub IsLeftOut : List Part → ℕ → Type 0
IsLeftOut sync a = (part : Part) × IsAmong sync part × IsInPart part a
