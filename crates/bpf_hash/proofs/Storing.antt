-- A store's tables are read one by one.
use Rattle.std.proofs.Common.{◌≡◌, ◌∙◌, ℕ, suc, ◌+◌, ◌-◌, ◌<◌, ◌≤◌, Bool, true, false, List, [], ◌∷◌, ◌++◌, length, length-append, take}
use Rattle.std.proofs.Common.{drop, inl, inr, refl, sym, ap, subst, append_assoc, arith}
use Rattle.std.specs.Prelude.{map, nat_lt, slice_index_or}
use Rattle.std.proofs.lemmas.Bool.{cases_lt}
use Rattle.std.proofs.lemmas.List.{take_more, take_all, length-map, map-append, take-append-drop, get_or-append_right}
use Rattle.std.proofs.Math.ListN.{get_or-append}
use Rattle.bpf_hash.specs.declared.runs.Runs.{Runs}
use Rattle.bpf_shared.specs.declared.shapes.MapShape.{MapShape}
use Rattle.bpf_shared.specs.Shape.{elements}
use Rattle.bpf_hash.specs.Private.Rows.{Rows, no_rows, shape_of}
use Rattle.bpf_hash.specs.Private.Contents.{Contents, rows, shapes_of}
use Rattle.bpf_hash.specs.Private.Saved.{all_below, block_of, map_block, is_in_run, IsSavedAs}
use Rattle.bpf_hash.specs.Private.Normal.{first_run, normal_rows, normal, run_read, IsSavedRows, AreSavedTables, AreReadTables}
use Rattle.bpf_hash.specs.Alike.{IsSameShape}
use Rattle.bpf_hash.specs.Read.{IsSavedFirst}
use Rattle.bpf_hash.proofs.Alike.{shape_or}
use Rattle.bpf_hash.proofs.SavedAlike.{same_cpus}
use Rattle.bpf_hash.proofs.Normal.{behind}
use Rattle.bpf_hash.proofs.Reading.{drop_seam, take_seam, bit_is}

pub same_shapes : (xs ys : List Rows) → map shape_of xs ≡ map shape_of ys → (m : ℕ) → (slice_index_or xs m no_rows).shape ≡ (slice_index_or ys m no_rows).shape
same_shapes xs ys e m = sym (shape_or xs m) ∙ (ap (λ (hs : List MapShape). slice_index_or hs m no_rows.shape) e ∙ shape_or ys m)

pub as_many : (xs ys : List Rows) → map shape_of xs ≡ map shape_of ys → length xs ≡ length ys
as_many xs ys e = sym (length-map xs shape_of) ∙ (ap (λ (hs : List MapShape). length hs) e ∙ length-map ys shape_of)

module _ (shapes : List MapShape) (cpus : ℕ) (bytes : List ℕ) (p : Contents) (behind_all : List ℕ)
    (saved_so : AreSavedTables shapes cpus bytes p behind_all) (m at : ℕ) (inside : m < length p.tables)
    (at_is : at ≡ length (all_below (map_block p) m)) where
  abbrev pub tables_behind : List ℕ
  tables_behind = (behind (map_block p) (length p.tables) m inside).0 ++ behind_all

  whole : bytes ≡ all_below (map_block p) m ++ (map_block p m ++ tables_behind)
  whole =
      let r = behind (map_block p) (length p.tables) m inside in
      saved_so.begins
      ∙ (ap (λ (bs : List ℕ). bs ++ behind_all) r.1
      ∙ (append_assoc (all_below (map_block p) m) (map_block p m ++ r.0) behind_all ∙ ap (λ (bs : List ℕ). all_below (map_block p) m ++ bs)
      (append_assoc (map_block p m) r.0 behind_all)))

  pub table_inside : at + length (map_block p m) ≤ length bytes
  table_inside =
      let a = length-append (all_below (map_block p) m) (map_block p m ++ tables_behind) in
      let b = length-append (map_block p m) tables_behind in
      let e = ap (λ (bs : List ℕ). length bs) whole in
      omega (arith, a, b, e, at_is)

  pub table_here : (shape : MapShape) (rest : List ℕ) → (rows p m).shape ≡ shape → rest ≡ drop at bytes → IsSavedRows shape cpus rest p.runs
      (rows p m) tables_behind
  table_here shape rest shaped e =
      let is = saved_so.store.tables m inside in
      record {
        table = is.0;
        shaped = shaped;
        noted = is.1 ∙ saved_so.served;
        served = saved_so.served;
        begins = e ∙ (ap (drop at) whole ∙ drop_seam (all_below (map_block p) m) (map_block p m ++ tables_behind) at at_is);
      }

  pub more_tables : (shape : MapShape) (count : ℕ) (tables tables' : List Rows) (table : Rows) → (rows p m).shape ≡ shape → AreReadTables p m at tables
      → (table ≡ normal_rows p.runs (rows p m)) × (count ≡ length (all_below (block_of p.runs (rows p m)) (elements shape))) → tables' ≡
      tables ++ table ∷ [] → AreReadTables p (m + 1) (at + count) tables'
  more_tables shape count tables tables' table shaped far read more =
      let next : suc m ≡ m + 1 = omega arith in
      let size : count ≡ length (map_block p m) = read.1 ∙ ap (λ (h : MapShape). length (all_below (block_of p.runs (rows p m)) (elements h))) (sym shaped) in
      let sum = length-append (all_below (map_block p) m) (map_block p m) in
      let a = far.at_is in
      let first : at + count ≡ length (all_below (map_block p) m ++ map_block p m) = omega (arith, sum, a, size) in
      record {
        at_is = first ∙ ap (λ (k : ℕ). length (all_below (map_block p) k)) next;
        tables_are =
            more
            ∙ (ap (λ (ts : List Rows). ts ++ table ∷ []) far.tables_are
            ∙ (ap (λ (t : Rows). map (normal_rows p.runs) (take m p.tables) ++ t ∷ []) read.0
            ∙ (sym (map-append (normal_rows p.runs) (take m p.tables) (rows p m ∷ [])) ∙ ap (map (normal_rows p.runs))
            (sym (take_more p.tables m no_rows inside)))));
      }

pub no_tables : (p : Contents) → AreReadTables p 0 0 []
no_tables p = record { at_is = refl; tables_are = refl }

pub all_tables : (p : Contents) (n at : ℕ) (tables : List Rows) → length p.tables ≤ n → AreReadTables p n at tables → tables ≡ map (normal_rows p.runs) p.tables
all_tables p n at tables past far = far.tables_are ∙ ap (map (normal_rows p.runs)) (take_all n p.tables past)

-- ---- tables of any bytes
pub one_shape : (old tables tables' : List Rows) (m : ℕ) (t : Rows) → m < length old → map shape_of tables ≡ map shape_of (take m old) →
    tables' ≡ tables ++ t ∷ [] → t.shape ≡ (slice_index_or old m no_rows).shape
    → map shape_of tables' ≡ map shape_of (take (m + 1) old)
one_shape old tables tables' m t inside before e same =
    ap (map shape_of) e
    ∙ (map-append shape_of tables (t ∷ [])
    ∙ (ap (λ (hs : List MapShape). hs ++ t.shape ∷ []) before
    ∙ (ap (λ (h : MapShape). map shape_of (take m old) ++ h ∷ []) same
    ∙ (sym (map-append shape_of (take m old) (slice_index_or old m no_rows ∷ [])) ∙ ap (map shape_of) (sym (take_more old m no_rows inside))))))

pub all_shapes : (old tables : List Rows) (n : ℕ) → length old ≤ n → map shape_of tables ≡ map shape_of (take n old) → map shape_of tables ≡ map shape_of old
all_shapes old tables n past e = e ∙ ap (map shape_of) (take_all n old past)

module _ (P : Rows → Type 0) (tables : List Rows) (t : Rows) (each : (m : ℕ) → m < length tables → P (slice_index_or tables m no_rows)) (here : P t) where
  with_one : (m : ℕ) → m < length (tables ++ t ∷ []) → P (slice_index_or (tables ++ t ∷ []) m no_rows)
  with_one m l = elim (cases_lt m (length tables)) [
    | inl before ↦ subst P (sym (get_or-append tables (t ∷ []) no_rows m before)) (each m before)
    | inr past ↦
        let sum = length-append tables (t ∷ []) in
        let at : m - length tables ≡ 0 = omega (arith, sum, l) in
        subst P (sym (get_or-append_right tables (t ∷ []) (length tables) m no_rows refl past ∙ ap (λ (k : ℕ). slice_index_or (t ∷ []) k no_rows) at)) here
  ]

  pub one_table : (tables' : List Rows) → tables' ≡ tables ++ t ∷ [] → (m : ℕ) → m < length tables' → P (slice_index_or tables' m no_rows)
  one_table tables' e = subst (λ (ts : List Rows). (m : ℕ) → m < length ts → P (slice_index_or ts m no_rows)) (sym e) with_one

-- ---- the runs
runs_read : (rs : List Runs) → map run_read (map is_in_run rs) ≡ map first_run rs
runs_read [] = refl
runs_read (r ∷ rs) =
    ap (λ (b : Bool). let x : Runs = record { count = 1; running = b } in x ∷ map run_read (map is_in_run rs)) (bit_is r.running) ∙ ap
    (λ (xs : List Runs). first_run r ∷ xs) (runs_read rs)

module _ (p q : Contents) (bytes : List ℕ) (k : ℕ) (is : IsSavedFirst q bytes k p) (n : ℕ) (counted : n ≡ length q.runs) where
  cpus : n ≡ length (map is_in_run p.runs)
  cpus = counted ∙ (same_cpus p q is.shape ∙ sym (length-map p.runs is_in_run))

  abbrev pub blocks : List ℕ
  blocks = all_below (map_block p) (length p.tables)

  split : bytes ≡ map is_in_run p.runs ++ (blocks ++ drop k bytes)
  split =
      sym (take-append-drop k bytes)
      ∙ (ap (λ (bs : List ℕ). bs ++ drop k bytes) is.saved.1 ∙ append_assoc (map is_in_run p.runs) blocks (drop k bytes))

  pub runs_inside : n ≤ length bytes
  runs_inside =
      let sum = length-append (map is_in_run p.runs) (blocks ++ drop k bytes) in
      let e = ap (λ (bs : List ℕ). length bs) split in
      let c = cpus in
      omega (arith, sum, e, c)

  pub tables_saved : (shapes : List MapShape) (rest : List ℕ) → shapes ≡ shapes_of q → rest ≡ drop n bytes → AreSavedTables shapes n rest p (drop k bytes)
  tables_saved shapes rest shaped e = record {
    store = is.saved.0;
    shaped = sym (shaped ∙ is.shape.1);
    served = sym (counted ∙ same_cpus p q is.shape);
    begins = e ∙ (ap (drop n) split ∙ drop_seam (map is_in_run p.runs) (blocks ++ drop k bytes) n cpus);
  }

  pub is_normal : (runs : List Runs) (tables : List Rows) → runs ≡ map run_read (take n bytes) → tables ≡ map (normal_rows p.runs) p.tables
      → ◌≡◌ {A = Contents} (record { runs = runs; tables = tables }) (normal p)
  is_normal runs tables read made =
      let first =
      read
      ∙ (ap (λ (bs : List ℕ). map run_read (take n bs)) split
      ∙ (ap (map run_read) (take_seam (map is_in_run p.runs) (blocks ++ drop k bytes) n cpus) ∙ runs_read p.runs))
      in
      λ j. record { runs = first j; tables = made j }

-- what is read is of the same shape
pub read_shape : (p : Contents) (runs : List Runs) (tables : List Rows) → length runs ≡ length p.runs → map shape_of tables ≡ shapes_of p →
    IsSameShape (record { runs = runs; tables = tables }) p
read_shape p runs tables many shapes = (λ c. ap (λ (n : ℕ). nat_lt c n) (sym many), sym shapes)

-- ---- bytes that start with what a store is saved as, or don't
pub starts_first : (p : Contents) (bytes out : List ℕ) → bytes ≡ out ++ drop (length out) bytes → IsSavedAs p out →
    (length out ≤ length bytes) × IsSavedAs p (take (length out) bytes)
starts_first p bytes out starts is =
    let sum = length-append out (drop (length out) bytes) in
    let e = ap (λ (bs : List ℕ). length bs) starts in
    (omega (arith, sum, e), subst (IsSavedAs p) (sym (ap (take (length out)) starts ∙ take_seam out (drop (length out) bytes) (length out) refl)) is)

pub starts_otherwise : (p : Contents) (bytes out : List ℕ) (starts : Bool) → starts ≡ false →
    ((rest : List ℕ) → bytes ≡ out ++ rest → starts ≡ true) → IsSavedAs p out → (k : ℕ) → IsSavedAs p (take k bytes) → ⊥
starts_otherwise p bytes out starts not each is k first =
    let whole : bytes ≡ out ++ drop k bytes = sym (take-append-drop k bytes) ∙ ap (λ (bs : List ℕ). bs ++ drop k bytes) (first.1 ∙ sym is.1) in
    let no : false ≡ true = sym not ∙ each (drop k bytes) whole in
    cc
