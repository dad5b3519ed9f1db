-- Contents in their normal form: what a `HashStore` is restored to.
use Rattle.std.specs.Prelude.{◌≡◌, ℕ, ◌*◌, ◌<◌, ◌%◌, ◌/◌, ◌==◌, ◌||◌, not, Bool, true, false, if◌then◌else◌, List, [], ◌∷◌, ◌++◌, length}
use Rattle.std.specs.Prelude.{map, take, replicate, slice_index_or}
use Rattle.bpf_base.specs.Bytes.{part}
use Rattle.bpf_shared.specs.declared.shapes.MapShape.{MapShape}
use Rattle.bpf_hash.specs.declared.runs.Runs.{Runs}
use Rattle.bpf_shared.specs.Shape.{elements}
use Rattle.bpf_hash.specs.Private.Runs.{run_of}
use Rattle.bpf_hash.specs.Private.Rows.{Rows, shape_of, key_of, bytes_of, IsTable}
use Rattle.bpf_hash.specs.Private.Contents.{Contents, IsStore}
use Rattle.bpf_hash.specs.Private.Chains.{Links, IsChainedAt}
use Rattle.bpf_hash.specs.Private.Home.{home_of}
use Rattle.bpf_hash.specs.Private.Saved.{bit, all_below, holds_row, keeps_row, is_linked, is_noted, block_of, map_block}

-- the CPU's first run
abbrev pub first_run : Runs → Runs
first_run r = record { count = 1; running = r.running }

-- of an element's key and value nothing but what is in use
abbrev pub normal_key : Rows → ℕ → List ℕ
normal_key t i = if is_linked t i then key_of t i else replicate t.shape.key 0

abbrev pub normal_value : List Runs → Rows → ℕ → List ℕ
normal_value runs t i =
    if is_linked t i || is_noted runs t i then bytes_of t i else replicate t.shape.value 0

-- of an element's notes nothing but whether they are of the CPU's run
abbrev pub normal_held : List Runs → Rows → ℕ → List ℕ
normal_held runs t i =
    all_below (λ c. bit 1 (holds_row t i c (run_of runs c)) ∷ []) (length runs)

abbrev pub normal_left : List Runs → Rows → ℕ → List ℕ
normal_left runs t i =
    all_below (λ c. bit 1 (keeps_row t i c (run_of runs c)) ∷ []) (length runs)

abbrev pub normal_rows : List Runs → Rows → Rows
normal_rows runs t = record {
  shape = t.shape;
  cpus = t.cpus;
  linked = t.linked;
  keys = all_below (normal_key t) (elements t.shape);
  values = all_below (normal_value runs t) (elements t.shape);
  looked_up = all_below (normal_held runs t) (elements t.shape);
  left = all_below (normal_left runs t) (elements t.shape);
}

abbrev pub normal : Contents → Contents
normal p = record {
  runs = map first_run p.runs;
  tables = map (normal_rows p.runs) p.tables;
}

-- ---- what is read
abbrev pub low_bit : ℕ → ℕ
low_bit note = note % 2

abbrev pub high_bit : ℕ → ℕ
high_bit note = note / 2 % 2

abbrev pub is_note : ℕ → Bool
is_note note = not (note == 0)

-- the bytes begin with an element of a table of this shape, saved beside the runs of its CPUs
pub record IsBlockAt (shape : MapShape) (cpus : ℕ) (bytes : List ℕ) (runs : List Runs) (t : Rows)
    (i : ℕ) (more : List ℕ) : Type 0 where
  pub table : IsTable t
  pub shaped : t.shape ≡ shape
  pub noted : t.cpus ≡ cpus
  pub served : length runs ≡ cpus
  pub inside : i < elements t.shape
  pub begins : bytes ≡ block_of runs t i ++ more

-- they begin with all its elements
pub record IsSavedRows (shape : MapShape) (cpus : ℕ) (bytes : List ℕ) (runs : List Runs) (t : Rows)
    (more : List ℕ) : Type 0 where
  pub table : IsTable t
  pub shaped : t.shape ≡ shape
  pub noted : t.cpus ≡ cpus
  pub served : length runs ≡ cpus
  pub begins : bytes ≡ all_below (block_of runs t) (elements t.shape) ++ more

-- the first elements are read
pub record AreRead (runs : List Runs) (t : Rows) (n at : ℕ) (linked : List Bool)
    (keys values looked_up left : List ℕ) : Type 0 where
  pub at_is : at ≡ length (all_below (block_of runs t) n)
  pub linked_is : linked ≡ take n t.linked
  pub keys_are : keys ≡ all_below (normal_key t) n
  pub values_are : values ≡ all_below (normal_value runs t) n
  pub held_is : looked_up ≡ all_below (normal_held runs t) n
  pub left_is : left ≡ all_below (normal_left runs t) n

-- the index has the first elements that are in the map, and no others
pub record IsFilled (homes size : ℕ) (linked : List Bool) (keys : List ℕ) (n : ℕ) (x : Links)
    : Type 0 where
  pub heads : length x.heads ≡ homes
  pub nexts : length x.nexts ≡ length linked
  pub found : (i : ℕ) → i < n → slice_index_or linked i false ≡ true
      → IsChainedAt x (home_of homes (part keys (i * size) size)) i
  pub was : (b i : ℕ) → IsChainedAt x b i → (i < n) × (slice_index_or linked i false ≡ true)
      × (b ≡ home_of homes (part keys (i * size) size))

-- a CPU's first run, by a byte
abbrev pub run_read : ℕ → Runs
run_read byte = record { count = 1; running = byte == 1 }

-- the bytes begin with all elements of all maps, which have these shapes, for this many CPUs
pub record AreSavedTables (shapes : List MapShape) (cpus : ℕ) (bytes : List ℕ) (p : Contents)
    (more : List ℕ) : Type 0 where
  pub store : IsStore p
  pub shaped : map shape_of p.tables ≡ shapes
  pub served : length p.runs ≡ cpus
  pub begins : bytes ≡ all_below (map_block p) (length p.tables) ++ more

-- the first tables are read
pub record AreReadTables (p : Contents) (n at : ℕ) (tables : List Rows) : Type 0 where
  pub at_is : at ≡ length (all_below (map_block p) n)
  pub tables_are : tables ≡ map (normal_rows p.runs) (take n p.tables)
