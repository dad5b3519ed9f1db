-- A store of which one table is changed.
use Rattle.std.proofs.Common.{◌≡◌, ◌≢◌, ℕ, zero, suc, ◌<◌, ◌≤◌, Bool, ◌&&◌, List, [], ◌∷◌, inl, inr, ◌⊎◌, length, get_or, set, map, refl}
use Rattle.std.proofs.Common.{ap, sym, ◌∙◌, subst, arith}
use Rattle.std.proofs.lemmas.List.{get_or-set_same, get_or-set_other, get_or_read, length-set, length-map}
use Rattle.std.proofs.lemmas.Option.{slice_get_within}
use Rattle.bpf_shared.specs.declared.events.Span.{Span}
use Rattle.bpf_shared.specs.declared.shapes.MapShape.{MapShape}
use Rattle.bpf_hash.specs.declared.runs.Runs.{Runs}
use Rattle.bpf_shared.specs.Shape.{IsMap, elements, element_span}
use Rattle.bpf_shared.specs.Passage.{same_span}
use Rattle.bpf_hash.specs.Private.Rows.{Rows, no_rows, shape_of, run_looked_up, run_left, IsTable}
use Rattle.bpf_hash.specs.Private.Contents.{Contents, runs_of, rows, element_count, span_at, shapes_of, holds, held_spans, any_below, IsStore, with_table}
use Rattle.bpf_shared.proofs.Puts.{equal_or_not}
use Rattle.bpf_hash.proofs.AnyBelow.{any_below_same}

-- the spans that are held, by what each element shows
pub held-same : (p q : Contents) → length q.tables ≡ length p.tables → ((m : ℕ) → (rows q m).shape ≡ (rows p m).shape)
    → ((c m i : ℕ) → holds q c m i ≡ holds p c m i) → held_spans q ≡ held_spans p
held-same p q count shape e = λ k c x. go c x k
  where
    span-same : (m i : ℕ) → span_at q m i ≡ span_at p m i
    span-same m i = ap (λ (h : MapShape). element_span m h i) (shape m)

    inner : (c : ℕ) (x : Span) (m : ℕ) → any_below (element_count q m) (λ i. holds q c m i && same_span x (span_at q m i)) ≡ any_below
        (element_count p m) (λ i. holds p c m i && same_span x (span_at p m i))
    inner c x m =
        ap (λ (n : ℕ). any_below n (λ i. holds q c m i && same_span x (span_at q m i))) (ap elements (shape m))
        ∙ any_below_same (element_count p m) (λ i. holds p c m i && same_span x (span_at p m i)) (λ i. holds q c m i && same_span x (span_at q m i))
        (λ i l. ap (λ (b : Bool). b && same_span x (span_at q m i)) (e c m i) ∙ ap (λ (y : Span). holds p c m i && same_span x y) (span-same m i))

    go : (c : ℕ) (x : Span) → held_spans q c x ≡ held_spans p c x
    go c x =
        ap (λ (n : ℕ). any_below n (λ m. any_below (element_count q m) (λ i. holds q c m i && same_span x (span_at q m i)))) count
        ∙ any_below_same (length p.tables) (λ m. any_below (element_count p m) (λ i. holds p c m i && same_span x (span_at p m i)))
        (λ m. any_below (element_count q m) (λ i. holds q c m i && same_span x (span_at q m i))) (λ m l. inner c x m)

shapes-set : (ts : List Rows) (m : ℕ) (n : Rows) → n.shape ≡ (get_or ts m no_rows).shape → map shape_of (set ts m n) ≡ map shape_of ts
shapes-set [] m n e = refl
shapes-set (t ∷ ts) zero n e = ap (λ (h : MapShape). h ∷ map shape_of ts) e
shapes-set (t ∷ ts) (suc m) n e = ap (λ (l : List MapShape). t.shape ∷ l) (shapes-set ts m n e)

module _ (p : Contents) (m : ℕ) (n : Rows) (mi : m < length p.tables) where
  pub rows-here : rows (with_table p m n) m ≡ n
  rows-here = get_or-set_same p.tables m n no_rows mi

  pub rows-else : (d : ℕ) → d ≢ m → rows (with_table p m n) d ≡ rows p d
  rows-else d ne = get_or-set_other p.tables m d n no_rows ne

  pub rows_cases : (d : ℕ) → ((d ≡ m) × (rows (with_table p m n) d ≡ n)) ⊎ ((d ≢ m) × (rows (with_table p m n) d ≡ rows p d))
  rows_cases d = elim (equal_or_not d m) [
    | inl e ↦ inl (e, ap (rows (with_table p m n)) e ∙ rows-here)
    | inr ne ↦ inr (ne, rows-else d ne)
  ]

  pub count-with : length (with_table p m n).tables ≡ length p.tables
  count-with = length-set p.tables m n

  pub shapes-with : n.shape ≡ (rows p m).shape → shapes_of (with_table p m n) ≡ shapes_of p
  shapes-with e = shapes-set p.tables m n e

  pub shape-with : n.shape ≡ (rows p m).shape → (d : ℕ) → (rows (with_table p m n) d).shape ≡ (rows p d).shape
  shape-with e d = elim (rows_cases d) [
    | inl k ↦ ap (λ (t : Rows). t.shape) k.1 ∙ (e ∙ ap (λ (x : ℕ). (rows p x).shape) (sym k.0))
    | inr k ↦ ap (λ (t : Rows). t.shape) k.1
  ]

  -- of what a table shows by element and CPU, where the new table shows the same
  pub tells-with : (f : Rows → ℕ → ℕ → ℕ) → ((i c : ℕ) → f n i c ≡ f (rows p m) i c) → (d i c : ℕ) → f (rows (with_table p m n) d) i c ≡ f (rows p d) i c
  tells-with f e d i c = elim (rows_cases d) [
    | inl k ↦ ap (λ (t : Rows). f t i c) k.1 ∙ (e i c ∙ ap (λ (x : ℕ). f (rows p x) i c) (sym k.0))
    | inr k ↦ ap (λ (t : Rows). f t i c) k.1
  ]

  pub store-with : IsStore p → IsTable n → n.cpus ≡ (rows p m).cpus
      → ((i c : ℕ) → c < length p.runs → run_looked_up n i c ≤ (runs_of p c).count)
      → ((i c : ℕ) → c < length p.runs → run_left n i c ≤ (runs_of p c).count) → IsStore (with_table p m n)
  store-with is table cpus looked left = record {
    cpus = is.cpus;
    maps = subst (λ (k : ℕ). k ≤ 16) (sym count-with) is.maps;
    tables = λ d l. (let k : d < length p.tables = subst (λ (x : ℕ). d < x) count-with l in elim (rows_cases d) [
      | inl e ↦ (subst IsTable (sym e.1) table, ap (λ (t : Rows). t.cpus) e.1 ∙ (cpus ∙ (is.tables m mi).1))
      | inr e ↦ (subst IsTable (sym e.1) (is.tables d k).0, ap (λ (t : Rows). t.cpus) e.1 ∙ (is.tables d k).1)
    ]);
    looked_up = λ d i c l. elim (rows_cases d) [
      | inl e ↦ subst (λ (t : Rows). run_looked_up t i c ≤ (runs_of p c).count) (sym e.1) (looked i c l)
      | inr e ↦ subst (λ (t : Rows). run_looked_up t i c ≤ (runs_of p c).count) (sym e.1) (is.looked_up d i c l)
    ];
    left = λ d i c l. elim (rows_cases d) [
      | inl e ↦ subst (λ (t : Rows). run_left t i c ≤ (runs_of p c).count) (sym e.1) (left i c l)
      | inr e ↦ subst (λ (t : Rows). run_left t i c ≤ (runs_of p c).count) (sym e.1) (is.left d i c l)
    ];
  }

-- ---- what the code reads
pub map_there : (p : Contents) (m : ℕ) (h : MapShape) → IsMap (shapes_of p) m h → m < length p.tables
map_there p m h is = let l = slice_get_within (shapes_of p) m h is in omega (arith, length-map p.tables shape_of, l)

pub shape_at : (ts : List Rows) (m : ℕ) → m < length ts → IsMap (map shape_of ts) m (get_or ts m no_rows).shape
shape_at [] m l = absurd (omega arith)
shape_at (t ∷ ts) zero l = refl
shape_at (t ∷ ts) (suc m) l = shape_at ts m (omega arith)

pub same_shape : (p : Contents) (m : ℕ) (h : MapShape) → IsMap (shapes_of p) m h → h ≡ (rows p m).shape
same_shape p m h is = let k = sym is ∙ shape_at p.tables m (map_there p m h is) in cc

pub read_row : (p : Contents) (m : ℕ) (runs : List Runs) (tables : List Rows) (t : Rows) → ◌≡◌ {A = Contents}
    (record { runs = runs; tables = tables }) p → m < length p.tables
    → t ≡ get_or tables m t → t ≡ rows p m
read_row p m runs tables t view mi read = get_or_read tables m t (subst (λ (q : Contents). m < length q.tables) (sym view) mi) read no_rows
    ∙ ap (λ (q : Contents). rows q m) view
