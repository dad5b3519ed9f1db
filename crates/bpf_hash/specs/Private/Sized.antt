-- What is read from any bytes, whoever wrote them.
use Rattle.std.specs.Prelude.{◌≡◌, ℕ, ◌*◌, ◌<◌, ◌≤◌, Bool, true, false, List, length, slice_index, slice_index_or}
use Rattle.bpf_base.specs.Bytes.{part}
use Rattle.bpf_shared.specs.declared.shapes.MapShape.{MapShape}
use Rattle.bpf_hash.specs.Private.Rows.{Rows, IsTable}

-- no note is of a later run than the first
abbrev pub AreFirst : List ℕ → Type 0
AreFirst notes = (k : ℕ) → slice_index notes k ≤ 1

-- the parts of this many elements have their sizes
pub record AreSized (shape : MapShape) (cpus n : ℕ) (linked : List Bool)
    (keys values looked_up left : List ℕ) : Type 0 where
  pub linked_size : length linked ≡ n
  pub keys_size : length keys ≡ n * shape.key
  pub values_size : length values ≡ n * shape.value
  pub held_size : length looked_up ≡ n * cpus
  pub left_size : length left ≡ n * cpus
  pub held_first : AreFirst looked_up
  pub left_first : AreFirst left

-- of the elements below this one, no two that are in the map have the same key
abbrev pub AreApart : ℕ → List Bool → List ℕ → ℕ → Type 0
AreApart size linked keys n = (i j : ℕ) → i < n → j < n → slice_index_or linked i false ≡ true
    → slice_index_or linked j false ≡ true → part keys (i * size) size ≡ part keys (j * size) size
    → i ≡ j

-- a table for this many CPUs, in which no note is of a later run than the first
pub record IsReadTable (cpus : ℕ) (t : Rows) : Type 0 where
  pub table : IsTable t
  pub noted : t.cpus ≡ cpus
  pub held : AreFirst t.looked_up
  pub left : AreFirst t.left
