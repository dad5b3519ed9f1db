-- What the elements of a map of a `HashStore` show.
use Rattle.std.specs.Prelude.{◌≡◌, ◌≢◌, ℕ, ◌+◌, ◌*◌, ◌<◌, ◌≤◌, ◌⊎◌, Bool, true, false, List, [], length, slice_index, slice_index_or, slice_set, map}
use Rattle.std.specs.List.{count_by}
use Rattle.bpf_base.specs.Bytes.{part, with_part}
use Rattle.bpf_shared.specs.declared.events.MapAnswer.{MapAnswer}
use Rattle.bpf_shared.specs.declared.events.MapAnswer.TheVariants.{Done, Invalid, Busy, Exists, Absent, Full, NoMemory}
use Rattle.bpf_hash.specs.declared.runs.Runs.{Runs}
use Rattle.bpf_shared.specs.declared.shapes.MapShape.{MapShape}
use Rattle.bpf_hash.specs.Private.Runs.{run_of, count_of, is_run}
use Rattle.bpf_shared.specs.Shape.{IsMapShape, elements}

-- the elements of a map, one after the other
pub record Rows : Type 0 where
  pub shape : MapShape
  -- how many CPUs note their runs
  pub cpus : ℕ
  -- by element, whether it is in the map
  pub linked : List Bool
  pub keys : List ℕ
  pub values : List ℕ
  -- by element and CPU, the run that looked the value up
  pub looked_up : List ℕ
  -- by element and CPU, the last run that had begun when the value left the map
  pub left : List ℕ

abbrev pub no_rows : Rows
no_rows = record {
  shape = record { key = 0; value = 0; max = 0; spare = 0; mask = 0; grow = false };
  cpus = 0;
  linked = [];
  keys = [];
  values = [];
  looked_up = [];
  left = [];
}

abbrev pub shape_of : Rows → MapShape
shape_of t = t.shape

abbrev pub key_of : Rows → ℕ → List ℕ
key_of t i = part t.keys (i * t.shape.key) t.shape.key

abbrev pub bytes_of : Rows → ℕ → List ℕ
bytes_of t i = part t.values (i * t.shape.value) t.shape.value

abbrev pub run_looked_up : Rows → ℕ → ℕ → ℕ
run_looked_up t i c = slice_index t.looked_up (i * t.cpus + c)

abbrev pub run_left : Rows → ℕ → ℕ → ℕ
run_left t i c = slice_index t.left (i * t.cpus + c)

-- the element is in the map
abbrev pub IsLinked : Rows → ℕ → Type 0
IsLinked t i = slice_index_or t.linked i false ≡ true

-- how many elements are in the map
abbrev pub linked_count : Rows → ℕ
linked_count t = count_by (λ b. b) t.linked

-- all marks below this place are set
abbrev pub AreMarked : List Bool → ℕ → Type 0
AreMarked marks n = (i : ℕ) → i < n → slice_index_or marks i false ≡ true

pub record IsTable (t : Rows) : Type 0 where
  pub shape : IsMapShape t.shape
  pub cpus : t.cpus ≤ 16
  pub linked : length t.linked ≡ elements t.shape
  pub keys : length t.keys ≡ elements t.shape * t.shape.key
  pub values : length t.values ≡ elements t.shape * t.shape.value
  pub looked_up : length t.looked_up ≡ elements t.shape * t.cpus
  pub left : length t.left ≡ elements t.shape * t.cpus
  pub count : linked_count t ≤ t.shape.max
  pub distinct : (i j : ℕ) → IsLinked t i → IsLinked t j → key_of t i ≡ key_of t j → i ≡ j

-- nothing is in the map, and no run is noted
pub record IsBlank (t : Rows) : Type 0 where
  pub empty : (i : ℕ) → IsLinked t i → ⊥
  pub count : linked_count t ≡ 0
  pub looked_up : (k : ℕ) → slice_index t.looked_up k ≡ 0
  pub left : (k : ℕ) → slice_index t.left k ≡ 0

-- no element of the map has the key
abbrev pub IsMissing : Rows → List ℕ → Type 0
IsMissing t key = (i : ℕ) → IsLinked t i → key_of t i ≢ key

-- the element of the map with this key
pub record IsKeyAt (t : Rows) (key : List ℕ) (i : ℕ) : Type 0 where
  pub linked : IsLinked t i
  pub is : key_of t i ≡ key

-- some CPU is still in the run that is noted for it
abbrev pub HasCurrent : List ℕ → List Runs → Type 0
HasCurrent notes runs = (c : ℕ) × (c < length runs)
    × (is_run (run_of runs c) (slice_index notes c) ≡ true)

-- the same of the notes from one on
abbrev pub HasCurrentAt : List ℕ → ℕ → List Runs → Type 0
HasCurrentAt notes first runs = (c : ℕ) × (c < length runs)
    × (is_run (run_of runs c) (slice_index notes (first + c)) ≡ true)

-- each CPU that is in a run in the first is in the same one in the second
abbrev pub GoOn : List Runs → List Runs → Type 0
GoOn seen runs = (c n : ℕ) → c < length seen → is_run (run_of seen c) n ≡ true
    → is_run (run_of runs c) n ≡ true

-- some CPU is still in the run that it was in when the element left the map
abbrev pub IsKeptRow : List Runs → Rows → ℕ → Type 0
IsKeptRow runs t i = HasCurrentAt t.left (i * t.cpus) runs

-- the element is in the map or kept
abbrev pub IsTakenRow : List Runs → Rows → ℕ → Type 0
IsTakenRow runs t i = IsLinked t i ⊎ IsKeptRow runs t i

-- each element below this one is in the map or kept
abbrev pub ArePassed : List Runs → Rows → ℕ → Type 0
ArePassed runs t n = (i : ℕ) → i < n → IsTakenRow runs t i

pub record IsLowestFreeRow (runs : List Runs) (t : Rows) (i : ℕ) : Type 0 where
  pub inside : i < elements t.shape
  pub free : IsTakenRow runs t i → ⊥
  pub lowest : (j : ℕ) → j < i → IsTakenRow runs t j

-- ---- what calls leave

-- the CPU's run of this number looked the element up
abbrev pub noted_row : ℕ → ℕ → ℕ → Rows → Rows
noted_row i c run t = record t { looked_up = slice_set t.looked_up (i * t.cpus + c) run }

-- the key and the value are in the element, which is in the map
abbrev pub linked_row : ℕ → List ℕ → List ℕ → Rows → Rows
linked_row i key bytes t = record t {
  linked = slice_set t.linked i true;
  keys = with_part t.keys (i * t.shape.key) key;
  values = with_part t.values (i * t.shape.value) bytes;
}

-- these bytes of the element's value are new
abbrev pub stored_row : ℕ → ℕ → List ℕ → Rows → Rows
stored_row i offset bytes t =
    record t { values = with_part t.values (i * t.shape.value + offset) bytes }

-- the element has left the map: the CPUs' runs are noted in it
abbrev pub unlinked_row : List Runs → ℕ → Rows → Rows
unlinked_row runs i t = record t {
  linked = slice_set t.linked i false;
  left = with_part t.left (i * t.cpus) (map count_of runs);
}

-- the notes of one of this many CPUs are taken out
pub record Erases (cpus c : ℕ) (old new : List ℕ) : Type 0 where
  pub count : length new ≡ length old
  pub here : (i : ℕ) → slice_index new (i * cpus + c) ≡ 0
  pub others : (i d : ℕ) → d < cpus → d ≢ c
      → slice_index new (i * cpus + d) ≡ slice_index old (i * cpus + d)

-- no run of the CPU is noted
pub record Forgets (c : ℕ) (t n : Rows) : Type 0 where
  pub rest : n ≡ record t { looked_up = n.looked_up; left = n.left }
  pub looked_up : Erases t.cpus c t.looked_up n.looked_up
  pub left : Erases t.cpus c t.left n.left

-- ---- what the answers to updates and deletions mean

-- the key is there and may be replaced, or it isn't and there is room for one more
abbrev pub HasRoomAt : Rows → List ℕ → ℕ → Type 0
HasRoomAt t key flags =
    ((flags ≤ 2) × (flags ≢ 1) × ((o : ℕ) × IsKeyAt t key o))
    ⊎ ((flags < 2) × IsMissing t key × (linked_count t < t.shape.max))

abbrev pub Replaces : List Runs → Rows → List ℕ → List ℕ → ℕ → ℕ → Rows → Type 0
Replaces runs t key bytes flags i n =
    (flags ≤ 2) × (flags ≢ 1)
    × ((o : ℕ) × IsKeyAt t key o × (n ≡ linked_row i key bytes (unlinked_row runs o t)))

abbrev pub Adds : Rows → List ℕ → List ℕ → ℕ → ℕ → Rows → Type 0
Adds t key bytes flags i n =
    (flags < 2) × (linked_count t < t.shape.max) × IsMissing t key × (n ≡ linked_row i key bytes t)

-- the key is put into an element that was free, in place of its old one if it has one
abbrev pub PutsRow : List Runs → Rows → List ℕ → List ℕ → ℕ → MapAnswer → Rows → Type 0
PutsRow runs t key bytes flags Invalid n = (2 < flags) × (n ≡ t)
PutsRow runs t key bytes flags Exists n = (flags ≡ 1) × ((o : ℕ) × IsKeyAt t key o) × (n ≡ t)
PutsRow runs t key bytes flags Absent n = (flags ≡ 2) × IsMissing t key × (n ≡ t)
PutsRow runs t key bytes flags Full n =
    (flags < 2) × IsMissing t key × (linked_count t ≡ t.shape.max) × (n ≡ t)
PutsRow runs t key bytes flags NoMemory n =
    (HasRoomAt t key flags) × ((i : ℕ) → i < elements t.shape → IsTakenRow runs t i) × (n ≡ t)
PutsRow runs t key bytes flags Busy n = ⊥
PutsRow runs t key bytes flags Done n = (i : ℕ) × IsLowestFreeRow runs t i
    × (Replaces runs t key bytes flags i n ⊎ Adds t key bytes flags i n)

abbrev pub TakesRow : List Runs → Rows → List ℕ → MapAnswer → Rows → Type 0
TakesRow runs t key Done n = (o : ℕ) × IsKeyAt t key o × (n ≡ unlinked_row runs o t)
TakesRow runs t key Absent n = IsMissing t key × (n ≡ t)
TakesRow runs t key answer n = ⊥
