-- A `HashStore` as made shows the plain store as made.
use Rattle.std.proofs.Common.{◌≡◌, ℕ, zero, suc, ◌+◌, ◌*◌, ◌<◌, ◌≤◌, nat_lt, Bool, true, false, ◌&&◌, List, [], ◌∷◌, ◌++◌, inl, inr, length}
use Rattle.std.proofs.Common.{get_or, slice_index, slice_index_or, replicate, cond, map, refl, ap, sym, ◌∙◌, subst, arith}
use Rattle.std.proofs.lemmas.List.{length-map, length-replicate}
use Rattle.std.proofs.lemmas.List.Folds.{sum_by-replicate}
use Rattle.std.specs.List.{count_by}
use Rattle.std.specs.FinMap.{get-empty, len-empty}
use Rattle.std.specs.Ordering.{nat_cmp}
use Rattle.std.specs.Cmp.Lexicographic.{slice_cmp}
use Rattle.bpf_shared.specs.declared.shapes.MapShape.{MapShape}
use Rattle.bpf_hash.specs.declared.runs.Runs.{Runs}
use Rattle.bpf_shared.specs.Shape.{Shape, IsShape, IsMapShape, elements}
use Rattle.bpf_shared.specs.Store.{as_made}
use Rattle.bpf_shared.specs.Passage.{same_span}
use Rattle.bpf_hash.specs.Private.Rows.{Rows, no_rows, shape_of, run_left, run_looked_up, IsBlank, IsLinked, IsTable}
use Rattle.bpf_hash.specs.Private.Runs.{no_runs, is_run}
use Rattle.bpf_hash.specs.Private.Contents.{Contents, runs_of, rows, element_count, span_at, shapes_of, IsUsed, StandsFor, IsStore, IsMade}
use Rattle.bpf_hash.proofs.AnyBelow.{any_below_none}

-- ---- vectors as they are made
pub all_zero : (n k : ℕ) → slice_index (replicate n 0) k ≡ 0
all_zero zero k = refl
all_zero (suc n) zero = refl
all_zero (suc n) (suc k) = all_zero n k

pub none_marked : (ms : List Bool) (n : ℕ) → ms ≡ replicate n false → (i : ℕ) → slice_index_or ms i false ≡ true → ⊥
none_marked ms n e i l = unset n i (sym (ap (λ (x : List Bool). slice_index_or x i false) e) ∙ l)
  where
    unset : (n i : ℕ) → slice_index_or (replicate n false) i false ≡ true → ⊥
    unset zero i h = let f : false ≡ true = h in cc
    unset (suc n) zero h = let f : false ≡ true = h in cc
    unset (suc n) (suc i) h = unset n i h

pub count-none : (ms : List Bool) (n : ℕ) → ms ≡ replicate n false → count_by (λ b. b) ms ≡ 0
count-none ms n e = ap (count_by (λ b. b)) e ∙ (sum_by-replicate (λ (b : Bool). cond b 1 0) n false ∙ zeros n)
  where
    zeros : (n : ℕ) → n * 0 ≡ 0
    zeros n = omega arith

-- ---- a table of vectors as they are made
module _ (shape : MapShape) (cpus : ℕ) (linked : List Bool) (keys values looked_up left : List ℕ) (unmarked : linked ≡ replicate (elements shape) false) where
  abbrev made : Rows
  made = record {
    shape = shape;
    cpus = cpus;
    linked = linked;
    keys = keys;
    values = values;
    looked_up = looked_up;
    left = left;
  }

  pub new_blank : (n : ℕ) → looked_up ≡ replicate n 0 → left ≡ replicate n 0 → IsBlank made
  new_blank n no_lookups no_leaving = record {
    empty = none_marked linked (elements shape) unmarked;
    count = count-none linked (elements shape) unmarked;
    looked_up = λ k. ap (λ (l : List ℕ). slice_index l k) no_lookups ∙ all_zero n k;
    left = λ k. ap (λ (l : List ℕ). slice_index l k) no_leaving ∙ all_zero n k;
  }

  pub new_table : IsMapShape shape → cpus ≤ 16 → length keys ≡ elements shape * shape.key → length values ≡ elements shape * shape.value → (n : ℕ) → n ≡ cpus
      → length looked_up ≡ elements shape * n → length left ≡ elements shape * n → IsTable made
  new_table in_range few all_keys all_values n same lookups leaving = record {
    shape = in_range;
    cpus = few;
    linked = ap (length {A = Bool}) unmarked ∙ length-replicate (elements shape) false;
    keys = all_keys;
    values = all_values;
    looked_up = lookups ∙ ap (λ (k : ℕ). elements shape * k) same;
    left = leaving ∙ ap (λ (k : ℕ). elements shape * k) same;
    count = omega (arith, count-none linked (elements shape) unmarked);
    distinct = λ i j l. absurd (none_marked linked (elements shape) unmarked i l);
  }

-- ---- blank tables
no_rows_blank : IsBlank no_rows
no_rows_blank = record { empty = λ i l. (let f : false ≡ true = l in cc); count = refl; looked_up = λ k. refl; left = λ k. refl }

pub blank_push : (ts : List Rows) (t : Rows) → ((m : ℕ) → IsBlank (get_or ts m no_rows)) → IsBlank t → (m : ℕ) → IsBlank (get_or (ts ++ t ∷ []) m no_rows)
blank_push [] t all b zero = b
blank_push [] t all b (suc m) = no_rows_blank
blank_push (x ∷ xs) t all b zero = all 0
blank_push (x ∷ xs) t all b (suc m) = blank_push xs t (λ k. all (suc k)) b m

pub shapes_push : (ts : List Rows) (t : Rows) → map shape_of (ts ++ t ∷ []) ≡ map shape_of ts ++ t.shape ∷ []
shapes_push [] t = refl
shapes_push (x ∷ xs) t = ap (λ (l : List MapShape). x.shape ∷ l) (shapes_push xs t)

module _ (p : Contents) (runs : (c : ℕ) → runs_of p c ≡ no_runs) (tables : (m : ℕ) → IsBlank (rows p m)) where
  no_run : (c run : ℕ) → is_run (runs_of p c) run ≡ false
  no_run c run = ap (λ (x : Runs). is_run x run) (runs c)

  not_in : (m i : ℕ) → IsLinked (rows p m) i → ⊥
  not_in m i l = (tables m).empty i l

  unused : (m i : ℕ) → IsUsed p m i → ⊥
  unused m i (inl l) = not_in m i l
  unused m i (inr k) = elim k.1 [
    | inl e ↦ let f = no_run k.0 (run_left (rows p m) i k.0) in cc
    | inr e ↦ let f = no_run k.0 (run_looked_up (rows p m) i k.0) in cc
  ]

  pub shows_made : (h : Shape) → length p.runs ≡ h.cpus → shapes_of p ≡ h.maps → StandsFor p (as_made h)
  shows_made h cpus maps = record {
    cpus = sym cpus;
    maps = sym maps;
    running = λ c. sym (ap (λ (x : Runs). x.running) (runs c));
    number = λ m i. 0;
    leads = λ m i l. absurd (not_in m i l);
    found = λ m key v e. absurd (let k = sym (get-empty {X = ℕ} (slice_cmp nat_cmp) key) ∙ e in cc);
    counts = λ m. len-empty (slice_cmp nat_cmp) ℕ ∙ sym (tables m).count;
    values = λ m i l u. absurd (unused m i u);
    held = λ c v e. absurd (let f : false ≡ true = e in cc);
    held_back = λ c m i l e. absurd (let f = no_run c (run_looked_up (rows p m) i c) in cc);
    kept = λ c v e. absurd (let f : false ≡ true = e in cc);
    kept_back = λ c m i l e. absurd (let f = no_run c (run_left (rows p m) i c) in cc);
  }

  pub is_made : (h : Shape) → length p.runs ≡ h.cpus → shapes_of p ≡ h.maps → IsMade h p
  is_made h cpus maps = record {
    shapes = maps;
    serves = λ c. ap (nat_lt c) cpus;
    idle = λ c. ap (λ (x : Runs). x.running) (runs c);
    holds_nothing = λ c q. any_below_none (length p.tables) _ (λ m l. any_below_none (element_count p m) _
        (λ i k. ap (λ (b : Bool). b && same_span q (span_at p m i)) (no_run c (run_looked_up (rows p m) i c))));
    shows = shows_made h cpus maps;
  }

  pub made_store : (h : Shape) → IsShape h → length p.runs ≡ h.cpus → shapes_of p ≡ h.maps
      → ((m : ℕ) → m < length p.tables → IsTable (rows p m) × ((rows p m).cpus ≡ length p.runs)) → IsStore p
  made_store h is cpus maps each = record {
    cpus = subst (λ (n : ℕ). n ≤ 16) (sym cpus) is.cpus.1;
    maps = subst (λ (n : ℕ). n ≤ 16) (sym (ap (length {A = MapShape}) maps) ∙ length-map p.tables shape_of) is.count;
    tables = each;
    looked_up = λ m i c l. (let z = (tables m).looked_up (i * (rows p m).cpus + c) in omega arith);
    left = λ m i c l. (let z = (tables m).left (i * (rows p m).cpus + c) in omega arith);
  }

pub tables_push : (ts : List Rows) (t : Rows) (n : ℕ) → ((m : ℕ) → m < length ts → IsTable (get_or ts m no_rows) ×
    ((get_or ts m no_rows).cpus ≡ n)) → IsTable t → t.cpus ≡ n
    → (m : ℕ) → m < length (ts ++ t ∷ []) → IsTable (get_or (ts ++ t ∷ []) m no_rows) × ((get_or (ts ++ t ∷ []) m no_rows).cpus ≡ n)
tables_push [] t n all is e zero l = (is, e)
tables_push [] t n all is e (suc m) l = absurd (omega arith)
tables_push (x ∷ xs) t n all is e zero l = all 0 (omega arith)
tables_push (x ∷ xs) t n all is e (suc m) l = tables_push xs t n (λ k h. all (suc k) (omega arith)) is e m (omega arith)
