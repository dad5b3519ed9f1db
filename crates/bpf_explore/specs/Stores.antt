-- Stores of one shape.
use Rattle.std.specs.Prelude.{◌≡◌, ℕ, nat_lt, []}
use Rattle.bpf_shared.specs.Shape.{Shape, without_arrays}
use Rattle.bpf_plain.specs.PlainStore.{Contents, shape_of, has_cpu}

-- the store has the maps and CPUs of this shape
abbrev pub IsOfShape : Shape → Contents → Type 0
IsOfShape h p = (shape_of p ≡ h) × ((c : ℕ) → has_cpu p c ≡ nat_lt c h.cpus)

abbrev pub no_store : Contents
no_store = record {
  shape = without_arrays 0 [];
  maps = record { runs = []; tables = [] };
  arrays = [];
}
