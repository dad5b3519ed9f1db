-- Where an update of an array writes.
use Rattle.std.specs.Prelude.{◌≡◌, ℕ, ◌<◌, false}
use Rattle.bpf_shared.specs.declared.shapes.ArrayShape.{ArrayShape}
use Rattle.bpf_shared.specs.Shape.{Shape, IsArray, copies, fixed_span}

-- the n bytes from an address on are a value of an array that may be written
pub record IsTarget (h : Shape) (to n : ℕ) : Type 0 where
  pub number : ℕ
  pub array : ArrayShape
  pub copy : ℕ
  pub index : ℕ
  pub is : IsArray h.arrays number array
  pub has_copy : copy < copies h.cpus array
  pub has_index : index < array.max
  pub at : to ≡ (fixed_span number array copy index).at
  pub size : n ≡ array.value
  pub writable : array.frozen ≡ false
