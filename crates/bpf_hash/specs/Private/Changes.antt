-- What private functions of a `HashStore` need and leave.
use Rattle.std.specs.Prelude.{◌≡◌, ℕ, ◌+◌, ◌<◌, length, slice_set}
use Rattle.bpf_hash.specs.declared.store.Reach.{Reach}
use Rattle.bpf_shared.specs.Shape.{IsIn}
use Rattle.bpf_shared.specs.Store.{Plain}
use Rattle.bpf_hash.specs.Private.Rows.{Forgets, IsTable}
use Rattle.bpf_hash.specs.Private.Contents.{Contents, runs_of, rows, element_count, span_at, shapes_of, has_cpu, is_running, held_spans, StandsFor}

-- the address is in the span of some element
abbrev pub IsAtValue : Contents → ℕ → Type 0
IsAtValue p a = (m : ℕ) × (i : ℕ) × (m < length p.tables) × (i < element_count p m)
    × IsIn a (span_at p m i)

-- the byte of a value, in a map, an element and the value there
pub record IsReach (p : Contents) (a : ℕ) (r : Reach) : Type 0 where
  pub map : r.map < length p.tables
  pub element : r.element < element_count p r.map
  pub at : a ≡ (span_at p r.map r.element).at + r.offset
  pub inside : r.offset < (span_at p r.map r.element).size

-- as good as another store: it shows the same, and shows the same of runs and what they hold
pub record IsAlike (p q : Contents) : Type 0 where
  pub shows : (s : Plain) → StandsFor p s → StandsFor q s
  pub running : is_running q ≡ is_running p
  pub held : held_spans q ≡ held_spans p
  pub serves : has_cpu q ≡ has_cpu p
  pub shapes : shapes_of q ≡ shapes_of p

-- the CPU's runs are counted anew, from 0 on
pub record Recounts (p : Contents) (c : ℕ) (q : Contents) : Type 0 where
  pub runs : q.runs ≡ slice_set p.runs c (record (runs_of p c) { count = 0 })
  pub count : length q.tables ≡ length p.tables
  pub tables : (m : ℕ) → m < length p.tables → Forgets c (rows p m) (rows q m) × IsTable (rows q m)
