-- Bytes that a text names, whatever the map's name.
use Rattle.std.specs.Prelude.{◌≡◌, ℕ, List, Some}
use Rattle.bpf_shared.specs.declared.shapes.MapShape.{MapShape}
use Rattle.bpf_shared.specs.Shape.{element_stride}
use Rattle.bpf_races.specs.declared.sync.Part.{Part}
use Rattle.bpf_races.specs.Sync.{range_in}

-- they are of the map of this number, which has these sizes
pub record IsPart (sizes : MapShape) (number : ℕ) (text : List ℕ) (part : Part) : Type 0 where
  pub map : part.map ≡ number
  pub stride : part.stride ≡ element_stride sizes
  pub range : range_in text sizes.value ≡ Some (part.from, part.past)
