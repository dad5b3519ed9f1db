-- What a `HashStore` is to its callers, and its passages.
use Rattle.std.specs.Prelude.{◌≡◌, ℕ, zero, suc, ◌+◌, ◌<◌, ◌≤◌, nat_lt, Bool, true, false, ◌||◌, ◌&&◌, List, [], ◌∷◌, ◌⊎◌, length}
use Rattle.std.specs.Prelude.{slice_index_or, slice_set, map}
use Rattle.std.specs.FinMap.{len}
use Rattle.bpf_shared.specs.declared.events.Span.{Span}
use Rattle.bpf_shared.specs.declared.events.Event.{Event}
use Rattle.bpf_shared.specs.declared.events.Entry.{Entry}
use Rattle.bpf_shared.specs.declared.events.MapAnswer.{MapAnswer}
use Rattle.bpf_shared.specs.declared.events.MapAnswer.TheVariants.{Busy, NoMemory}
use Rattle.bpf_shared.specs.declared.shapes.MapShape.{MapShape}
use Rattle.bpf_hash.specs.declared.runs.Runs.{Runs}
use Rattle.bpf_shared.specs.Shape.{Shape, IsMap, elements, element_span}
use Rattle.bpf_shared.specs.Store.{Plain, as_made, Finds}
use Rattle.bpf_shared.specs.Choice.{IsShort}
use Rattle.bpf_shared.specs.History.{PlainlyLegal, entry}
use Rattle.bpf_shared.specs.Passage.{same_span}
use Rattle.bpf_hash.specs.Private.Runs.{run_of, is_run}
use Rattle.bpf_hash.specs.Private.Rows.{Rows, no_rows, shape_of, key_of, bytes_of, run_looked_up, run_left, IsTable, IsLinked, linked_count, noted_row}
use Rattle.bpf_shared.specs.Sound.{IsSoundStore}

pub record Contents : Type 0 where
  -- by CPU
  pub runs : List Runs
  -- by map
  pub tables : List Rows

abbrev pub runs_of : Contents → ℕ → Runs
runs_of p c = run_of p.runs c

abbrev pub rows : Contents → ℕ → Rows
rows p m = slice_index_or p.tables m no_rows

-- how many elements the map has
abbrev pub element_count : Contents → ℕ → ℕ
element_count p m = elements (rows p m).shape

abbrev pub span_at : Contents → ℕ → ℕ → Span
span_at p m i = element_span m (rows p m).shape i

abbrev pub shapes_of : Contents → List MapShape
shapes_of p = map shape_of p.tables

abbrev pub has_cpu : Contents → ℕ → Bool
has_cpu p c = nat_lt c (length p.runs)

abbrev pub is_running : Contents → ℕ → Bool
is_running p c = (runs_of p c).running

-- the CPU's run looked the element up
abbrev pub holds : Contents → ℕ → ℕ → ℕ → Bool
holds p c m i = is_run (runs_of p c) (run_looked_up (rows p m) i c)

-- the CPU is still in the run that it was in when the element left its map
abbrev pub keeps : Contents → ℕ → ℕ → ℕ → Bool
keeps p c m i = is_run (runs_of p c) (run_left (rows p m) i c)

-- the test is true of some number below n
abbrev pub any_below : ℕ → (ℕ → Bool) → Bool
any_below zero f = false
any_below (suc n) f = f n || any_below n f

-- the span is that of an element that the CPU's run looked up
abbrev pub held_spans : Contents → ℕ → Span → Bool
held_spans p c q = any_below (length p.tables)
    (λ m. any_below (element_count p m) (λ i. holds p c m i && same_span q (span_at p m i)))

-- the element is in the map, or some CPU keeps or holds it
abbrev pub IsUsed : Contents → ℕ → ℕ → Type 0
IsUsed p m i = IsLinked (rows p m) i ⊎ ((c : ℕ) × ((keeps p c m i ≡ true) ⊎ (holds p c m i ≡ true)))

-- in each element that is in use lies a value of the plain store, and the two agree on keys, on
-- bytes and spans of values in a map or kept, on what is kept, and on who runs and holds what
pub record StandsFor (p : Contents) (s : Plain) : Type 0 where
  pub cpus : s.shape.cpus ≡ length p.runs
  pub maps : s.shape.maps ≡ shapes_of p
  pub running : (c : ℕ) → s.running c ≡ is_running p c
  -- the value number in each element of each map
  pub number : ℕ → ℕ → ℕ
  pub leads : (m i : ℕ) → IsLinked (rows p m) i → Finds s m (key_of (rows p m) i) (number m i)
  pub found : (m : ℕ) (key : List ℕ) (v : ℕ) → Finds s m key v
      → (i : ℕ) × IsLinked (rows p m) i × (key_of (rows p m) i ≡ key) × (v ≡ number m i)
  pub counts : (m : ℕ) → len (s.maps m) ≡ linked_count (rows p m)
  pub values : (m i : ℕ) → i < element_count p m → IsUsed p m i
      → s.value (number m i) ≡ record { bytes = bytes_of (rows p m) i; span = span_at p m i }
  pub held : (c v : ℕ) → s.held c v ≡ true
      → (m : ℕ) × (i : ℕ) × (i < element_count p m) × (holds p c m i ≡ true) × (v ≡ number m i)
  pub held_back : (c m i : ℕ) → i < element_count p m → holds p c m i ≡ true
      → s.held c (number m i) ≡ true
  pub kept : (c v : ℕ) → s.kept c v ≡ true
      → (m : ℕ) × (i : ℕ) × (i < element_count p m) × (keeps p c m i ≡ true) × (v ≡ number m i)
  pub kept_back : (c m i : ℕ) → i < element_count p m → keeps p c m i ≡ true
      → s.kept c (number m i) ≡ true

-- from each plain store that the old value shows, as some legal history may have left it, the
-- events are allowed, with the choices of one thread, and lead to one that the new value shows
abbrev pub Passes : Contents → Contents → List Entry → Type 0
Passes old new log =
    (s : Plain) → IsSoundStore s → StandsFor old s
    → (t : Plain) × PlainlyLegal s log t × IsSoundStore t × StandsFor new t

-- one event of a CPU does
abbrev pub Makes : Contents → Contents → ℕ → Event → Type 0
Makes old new c e = Passes old new (entry c e ∷ [])

-- no update or deletion is answered Busy, and NoMemory only where the map is short
abbrev pub MayLack : Contents → Contents → ℕ → List ℕ → MapAnswer → Type 0
MayLack old new m key Busy = ⊥
MayLack old new m key NoMemory =
    (s : Plain) → IsSoundStore s → StandsFor old s
    → (h : MapShape) × IsMap s.shape.maps m h × IsShort s m h
MayLack old new m key answer = Unit {0}

-- what each `HashStore` keeps true: no run is noted that didn't begin yet
pub record IsStore (p : Contents) : Type 0 where
  pub cpus : length p.runs ≤ 16
  pub maps : length p.tables ≤ 16
  pub tables : (m : ℕ) → m < length p.tables
      → IsTable (rows p m) × ((rows p m).cpus ≡ length p.runs)
  pub looked_up : (m i c : ℕ) → c < length p.runs
      → run_looked_up (rows p m) i c ≤ (runs_of p c).count
  pub left : (m i c : ℕ) → c < length p.runs → run_left (rows p m) i c ≤ (runs_of p c).count

-- a store that was made with this shape
pub record IsMade (h : Shape) (p : Contents) : Type 0 where
  pub shapes : shapes_of p ≡ h.maps
  pub serves : (c : ℕ) → has_cpu p c ≡ nat_lt c h.cpus
  pub idle : (c : ℕ) → is_running p c ≡ false
  pub holds_nothing : (c : ℕ) (q : Span) → held_spans p c q ≡ false
  pub shows : StandsFor p (as_made h)

-- ---- what calls leave

-- the CPU is in its next run
abbrev pub started : Contents → ℕ → Contents
started p c = record p {
  runs = slice_set p.runs c
      (record { count = (runs_of p c).count + 1; running = true });
}

-- the CPU is in no run
abbrev pub stopped : Contents → ℕ → Contents
stopped p c = record p { runs = slice_set p.runs c (record (runs_of p c) { running = false }) }

-- a map's elements are changed
abbrev pub with_table : Contents → ℕ → Rows → Contents
with_table p m n = record p { tables = slice_set p.tables m n }

-- the CPU's run looked up the i-th element of the m-th map
abbrev pub looked : Contents → ℕ → ℕ → ℕ → Contents
looked p c m i = with_table p m (noted_row i c (runs_of p c).count (rows p m))
