-- What a `HashStore` is saved as: bytes that determine all of it that a call can see.
use Rattle.std.specs.Prelude.{◌≡◌, ℕ, zero, suc, ◌+◌, Bool, false, ◌||◌, if◌then◌else◌, List, [], ◌∷◌, ◌++◌, length, map, slice_index_or}
use Rattle.bpf_hash.specs.declared.runs.Runs.{Runs}
use Rattle.bpf_shared.specs.Shape.{elements}
use Rattle.bpf_hash.specs.Private.Runs.{run_of, is_run}
use Rattle.bpf_hash.specs.Private.Rows.{Rows, key_of, bytes_of, run_looked_up, run_left}
use Rattle.bpf_hash.specs.Private.Contents.{Contents, rows, any_below, IsStore}

-- a number where the test is true
abbrev pub bit : ℕ → Bool → ℕ
bit n b = if b then n else 0

-- one after the other, those of the numbers below n
abbrev pub all_below : (ℕ → List ℕ) → ℕ → List ℕ
all_below f zero = []
all_below f (suc n) = all_below f n ++ f n

-- ---- the notes of an element
-- the CPU is in this run, and its run looked the element up
abbrev pub holds_row : Rows → ℕ → ℕ → Runs → Bool
holds_row t i c r = is_run r (run_looked_up t i c)

-- and in its run the element left the map
abbrev pub keeps_row : Rows → ℕ → ℕ → Runs → Bool
keeps_row t i c r = is_run r (run_left t i c)

-- both, in two bits
abbrev pub note_of : Rows → ℕ → ℕ → Runs → ℕ
note_of t i c r = bit 1 (holds_row t i c r) + bit 2 (keeps_row t i c r)

-- of all CPUs
abbrev pub notes_of : List Runs → Rows → ℕ → List ℕ
notes_of runs t i = all_below (λ c. note_of t i c (run_of runs c) ∷ []) (length runs)

abbrev pub is_linked : Rows → ℕ → Bool
is_linked t i = slice_index_or t.linked i false

-- whether it is in the map, and its notes
abbrev pub marks_of : List Runs → Rows → ℕ → List ℕ
marks_of runs t i = bit 1 (is_linked t i) ∷ notes_of runs t i

-- ---- what is in an element
abbrev pub is_noted : List Runs → Rows → ℕ → Bool
is_noted runs t i = any_below (length runs)
    (λ c. holds_row t i c (run_of runs c) || keeps_row t i c (run_of runs c))

-- its key, where it is in the map; its value, where it is in use
abbrev pub content_of : List Runs → Rows → ℕ → List ℕ
content_of runs t i =
    (if is_linked t i then key_of t i else [])
    ++ (if is_linked t i || is_noted runs t i then bytes_of t i else [])

-- ---- all elements of all maps
abbrev pub block_of : List Runs → Rows → ℕ → List ℕ
block_of runs t i = marks_of runs t i ++ content_of runs t i

abbrev pub map_block : Contents → ℕ → List ℕ
map_block p m = all_below (block_of p.runs (rows p m)) (elements (rows p m).shape)

abbrev pub is_in_run : Runs → ℕ
is_in_run r = bit 1 r.running

abbrev pub saved : Contents → List ℕ
saved p = map is_in_run p.runs ++ all_below (map_block p) (length p.tables)

-- these bytes are what it is saved as
abbrev pub IsSavedAs : Contents → List ℕ → Type 0
IsSavedAs p bytes = IsStore p × (bytes ≡ saved p)
