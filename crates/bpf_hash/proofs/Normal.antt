-- Contents look like their normal form.
use Rattle.std.proofs.Common.{◌≡◌, ◌∙◌, ℕ, zero, suc, ◌+◌, ◌-◌, ◌*◌, ◌<◌, ◌≤◌, true, false, Bool, ◌||◌, ◌&&◌, ◌==◌, if◌then◌else◌, List, []}
use Rattle.std.proofs.Common.{◌∷◌, ◌++◌, length, length-append, inl, inr, refl, sym, ap, subst, append-nil, append_assoc, arith}
use Rattle.std.specs.Prelude.{map, replicate, slice_index, slice_index_or}
use Rattle.std.proofs.lemmas.Bool.{cases_lt}
use Rattle.std.proofs.lemmas.List.{get_or_past, length-map, get_or-append_right}
use Rattle.std.proofs.Math.ListN.{get_or-append}
use Rattle.std.proofs.Math.Seq.{take-append_seam}
use Rattle.bpf_base.specs.Bytes.{part}
use Rattle.bpf_hash.specs.declared.runs.Runs.{Runs}
use Rattle.bpf_shared.specs.declared.shapes.MapShape.{MapShape}
use Rattle.bpf_shared.specs.Shape.{elements}
use Rattle.bpf_hash.specs.Private.Runs.{run_of, is_run}
use Rattle.bpf_hash.specs.Private.Rows.{Rows, no_rows, shape_of, key_of, bytes_of, run_looked_up, run_left, IsLinked, IsTable}
use Rattle.bpf_hash.specs.Private.Contents.{Contents, rows, runs_of, element_count, IsStore}
use Rattle.bpf_hash.specs.Private.Saved.{bit, all_below, holds_row, keeps_row, is_linked, is_noted}
use Rattle.bpf_hash.specs.Private.Normal.{first_run, normal_key, normal_value, normal_held, normal_left, normal_rows, normal}
use Rattle.bpf_hash.specs.Alike.{LookAlike}
use Rattle.bpf_hash.proofs.Blocks.{suc-mul}
use Rattle.std.proofs.Math.Nat.{mul-le-mul_right}
use Rattle.bpf_hash.proofs.Linking.{linked_inside}
use Rattle.bpf_hash.proofs.Places.{linked_map, sized_map, linked_size}
use Rattle.bpf_hash.proofs.SavedAlike.{key_size, bytes_size, used_in_use, singles, no_run}

-- ---- blocks of one length
-- what follows the first i of them
pub behind : (f : ℕ → List ℕ) (n i : ℕ) → i < n → (rest : List ℕ) × (all_below f n ≡ all_below f i ++ (f i ++ rest))
behind f zero i l = absurd (omega arith)
behind f (suc n) i l = elim (cases_lt i n) [
  | inl below ↦
      let r = behind f n i below in (
        r.0 ++ f n,
        ap (λ (bs : List ℕ). bs ++ f n) r.1 ∙ (append_assoc (all_below f i) (f i ++ r.0) (f n) ∙ ap
            (λ (bs : List ℕ). all_below f i ++ bs) (append_assoc (f i) r.0 (f n))),
      )
  | inr past ↦
      let e : i ≡ n = omega arith in
      ([], subst (λ (k : ℕ). all_below f n ++ f n ≡ all_below f k ++ (f k ++ [])) (sym e) (ap (λ (bs : List ℕ). all_below f n ++ bs) (sym (append-nil (f n)))))
]

suc_block : (n w : ℕ) → suc n * w ≡ n * w + w
suc_block n w = let e : suc n ≡ n + 1 = omega arith in ap (λ (k : ℕ). k * w) e ∙ suc-mul n w

pub blocks_length : (f : ℕ → List ℕ) (n w : ℕ) → ((i : ℕ) → i < n → length (f i) ≡ w) → length (all_below f n) ≡ n * w
blocks_length f zero w sizes = omega arith
blocks_length f (suc n) w sizes =
    let before = blocks_length f n w (λ i l. sizes i (omega arith)) in
    let here = sizes n (omega arith) in
    let sum = length-append (all_below f n) (f n) in
    let e : suc n * w ≡ n * w + w = suc_block n w in
    omega (arith, before, here, sum, e)

cut_part : (xs ys zs : List ℕ) → part (xs ++ (ys ++ zs)) (length xs) (length ys) ≡ ys
cut_part [] ys zs = take-append_seam ys zs
cut_part (x ∷ xs) ys zs = cut_part xs ys zs

module _ (f : ℕ → List ℕ) (n w : ℕ) (sizes : (i : ℕ) → i < n → length (f i) ≡ w) where
  pub block_is : (i : ℕ) → i < n → part (all_below f n) (i * w) w ≡ f i
  block_is i l =
      let r = behind f n i l in
      let before : length (all_below f i) ≡ i * w = blocks_length f i w (λ j k. sizes j (omega arith)) in
      ap (λ (bs : List ℕ). part bs (i * w) w) r.1
      ∙ (ap (λ (k : ℕ). part (all_below f i ++ (f i ++ r.0)) k w) (sym before) ∙
      (ap (λ (k : ℕ). part (all_below f i ++ (f i ++ r.0)) (length (all_below f i)) k) (sym (sizes i l)) ∙ cut_part (all_below f i) (f i) r.0))

  pub in_block_is : (i c : ℕ) → i < n → c < w → slice_index (all_below f n) (i * w + c) ≡ slice_index (f i) c
  in_block_is i c l k =
      let r = behind f n i l in
      let before : length (all_below f i) ≡ i * w = blocks_length f i w (λ j h. sizes j (omega arith)) in
      let size = sizes i l in
      let at : i * w + c - i * w ≡ c = omega arith in
      ap (λ (bs : List ℕ). slice_index bs (i * w + c)) r.1
      ∙ (get_or-append_right (all_below f i) (f i ++ r.0) (i * w) (i * w + c) 0 before (omega arith)
      ∙ (ap (λ (x : ℕ). slice_index (f i ++ r.0) x) at ∙ get_or-append (f i) r.0 0 c (omega arith)))

pub single_is : (x : ℕ → ℕ) (n c : ℕ) → c < n → slice_index (all_below (λ d. x d ∷ []) n) c ≡ x c
single_is x zero c l = absurd (omega arith)
single_is x (suc n) c l =
    let size = singles x n in
    elim (cases_lt c n) [
      | inl below ↦ get_or-append (all_below (λ d. x d ∷ []) n) (x n ∷ []) 0 c (omega arith) ∙ single_is x n c below
      | inr past ↦
          let e : n ≡ c = omega arith in
          let at : c - n ≡ 0 = omega arith in
          get_or-append_right (all_below (λ d. x d ∷ []) n) (x n ∷ []) n c 0 size past ∙ (ap (λ (k : ℕ). slice_index (x n ∷ []) k) at ∙ ap x e)
    ]

-- ---- an element
abbrev zeros_of : ℕ → List ℕ
zeros_of n = replicate n 0

pub zeros : (n : ℕ) → length (zeros_of n) ≡ n
zeros zero = refl
zeros (suc n) = let more = zeros n in omega arith

either_size : (b : Bool) (xs : List ℕ) (n : ℕ) → length xs ≡ n → length (if b then xs else replicate n 0) ≡ n
either_size true xs n e = e
either_size false xs n e = zeros n

either_is : (b : Bool) (xs ys : List ℕ) → b ≡ true → (if b then xs else ys) ≡ xs
either_is true xs ys e = refl
either_is false xs ys e = let no : false ≡ true = e in cc

module _ (runs : List Runs) (t : Rows) (is : IsTable t) (cpus : length runs ≡ t.cpus) where
  abbrev n : ℕ
  n = elements t.shape

  abbrev new : Rows
  new = normal_rows runs t

  key_sizes : (i : ℕ) → i < n → length (normal_key t i) ≡ t.shape.key
  key_sizes i l = either_size (is_linked t i) (key_of t i) t.shape.key (key_size t i is l)

  value_sizes : (i : ℕ) → i < n → length (normal_value runs t i) ≡ t.shape.value
  value_sizes i l = either_size (is_linked t i || is_noted runs t i) (bytes_of t i) t.shape.value (bytes_size t i is l)

  held_sizes : (i : ℕ) → i < n → length (normal_held runs t i) ≡ t.cpus
  held_sizes i l = singles (λ c. bit 1 (holds_row t i c (run_of runs c))) (length runs) ∙ cpus

  left_sizes : (i : ℕ) → i < n → length (normal_left runs t i) ≡ t.cpus
  left_sizes i l = singles (λ c. bit 1 (keeps_row t i c (run_of runs c))) (length runs) ∙ cpus

  pub key_kept : (i : ℕ) → i < n → is_linked t i ≡ true → key_of new i ≡ key_of t i
  key_kept i l linked = block_is (normal_key t) n t.shape.key key_sizes i l ∙ either_is (is_linked t i) (key_of t i) (replicate t.shape.key 0) linked

  pub value_kept : (i : ℕ) → i < n → (is_linked t i || is_noted runs t i) ≡ true → bytes_of new i ≡ bytes_of t i
  value_kept i l used = block_is (normal_value runs t) n t.shape.value value_sizes i l ∙ either_is (is_linked t i || is_noted runs t i)
      (bytes_of t i) (replicate t.shape.value 0) used

  pub held_kept : (i c : ℕ) → i < n → c < length runs → run_looked_up new i c ≡ bit 1 (holds_row t i c (run_of runs c))
  held_kept i c l k =
      in_block_is (normal_held runs t) n t.cpus held_sizes i c l (omega arith) ∙ single_is (λ d. bit 1 (holds_row t i d (run_of runs d))) (length runs) c k

  pub left_kept : (i c : ℕ) → i < n → c < length runs → run_left new i c ≡ bit 1 (keeps_row t i c (run_of runs c))
  left_kept i c l k =
      in_block_is (normal_left runs t) n t.cpus left_sizes i c l (omega arith) ∙ single_is (λ d. bit 1 (keeps_row t i d (run_of runs d))) (length runs) c k

  pub normal_table : ((i : ℕ) → IsLinked t i → i < n) → IsTable new
  normal_table inside = record {
    shape = is.shape;
    cpus = is.cpus;
    linked = is.linked;
    keys = blocks_length (normal_key t) n t.shape.key key_sizes;
    values = blocks_length (normal_value runs t) n t.shape.value value_sizes;
    looked_up = blocks_length (normal_held runs t) n t.cpus held_sizes;
    left = blocks_length (normal_left runs t) n t.cpus left_sizes;
    count = is.count;
    distinct = λ i j a b e. is.distinct i j a b (sym (key_kept i (inside i a) a) ∙ (e ∙ key_kept j (inside j b) b));
  }

-- ---- runs and tables
pub first_run_of : (runs : List Runs) (c : ℕ) → c < length runs → run_of (map first_run runs) c ≡ first_run (run_of runs c)
first_run_of [] c l = absurd (omega arith)
first_run_of (r ∷ rs) zero l = refl
first_run_of (r ∷ rs) (suc c) l = first_run_of rs c (omega arith)

first_running : (runs : List Runs) (c : ℕ) → (run_of (map first_run runs) c).running ≡ (run_of runs c).running
first_running [] c = refl
first_running (r ∷ rs) zero = refl
first_running (r ∷ rs) (suc c) = first_running rs c

pub normal_row : (runs : List Runs) (ts : List Rows) (m : ℕ) → m < length ts → slice_index_or (map (normal_rows runs) ts) m no_rows ≡
    normal_rows runs (slice_index_or ts m no_rows)
normal_row runs [] m l = absurd (omega arith)
normal_row runs (t ∷ ts) zero l = refl
normal_row runs (t ∷ ts) (suc m) l = normal_row runs ts m (omega arith)

normal_shapes : (runs : List Runs) (ts : List Rows) → map shape_of (map (normal_rows runs) ts) ≡ map shape_of ts
normal_shapes runs [] = refl
normal_shapes runs (t ∷ ts) = ap (λ (hs : List MapShape). t.shape ∷ hs) (normal_shapes runs ts)

-- the first run is noted where the CPU's run was
pub same_run : (r : Runs) (x : ℕ) → is_run (first_run r) (bit 1 (is_run r x)) ≡ is_run r x
same_run r x = go r.running refl (is_run r x) refl
  where
    go : (b : Bool) → r.running ≡ b → (h : Bool) → is_run r x ≡ h → is_run (first_run r) (bit 1 (is_run r x)) ≡ is_run r x
    go true e true h = ap (λ (k : Bool). is_run (first_run r) (bit 1 k)) h ∙ (ap (λ (k : Bool). k && (1 == 1)) e ∙ sym h)
    go true e false h = ap (λ (k : Bool). is_run (first_run r) (bit 1 k)) h ∙ (ap (λ (k : Bool). k && (0 == 1)) e ∙ sym h)
    go false e h k = ap (λ (b : Bool). b && (bit 1 (is_run r x) == 1)) e ∙ sym (ap (λ (b : Bool). b && (x == r.count)) e)

module _ (p : Contents) (is : IsStore p) where
  abbrev q : Contents
  q = normal p

  row : (m : ℕ) → m < length p.tables → rows q m ≡ normal_rows p.runs (rows p m)
  row m l = normal_row p.runs p.tables m l

  table : (m : ℕ) → m < length p.tables → IsTable (rows p m)
  table m l = (is.tables m l).0

  count : (m : ℕ) → m < length p.tables → length p.runs ≡ (rows p m).cpus
  count m l = sym (is.tables m l).1

  no_row : (m : ℕ) → length p.tables ≤ m → rows q m ≡ rows p m
  no_row m past = get_or_past q.tables m no_rows (let many = length-map p.tables (normal_rows p.runs) in omega arith) ∙ sym
      (get_or_past p.tables m no_rows past)

  same_linked : (m : ℕ) → (rows q m).linked ≡ (rows p m).linked
  same_linked m = elim (cases_lt m (length p.tables)) [
    | inl l ↦ ap (λ (t : Rows). t.linked) (row m l)
    | inr past ↦ ap (λ (t : Rows). t.linked) (no_row m past)
  ]

  note_same : (c m i : ℕ) → i < element_count p m → (notes : Rows → ℕ → ℕ → ℕ) →
      (c < length p.runs → notes (rows q m) i c ≡ bit 1 (is_run (runs_of p c) (notes (rows p m) i c)))
      → is_run (runs_of q c) (notes (rows q m) i c) ≡ is_run (runs_of p c) (notes (rows p m) i c)
  note_same c m i inside notes kept = elim (cases_lt c (length p.runs)) [
    | inl l ↦
        ap (λ (r : Runs). is_run r (notes (rows q m) i c)) (first_run_of p.runs c l)
        ∙ (ap (λ (x : ℕ). is_run (first_run (runs_of p c)) x) (kept l) ∙ same_run (runs_of p c) (notes (rows p m) i c))
    | inr past ↦ no_run q c (notes (rows q m) i c) (let many = length-map p.runs first_run in omega arith) ∙ sym (no_run p c (notes (rows p m) i c) past)
  ]

  pub looks_normal : LookAlike p q
  looks_normal = record {
    cpus = length-map p.runs first_run;
    maps = normal_shapes p.runs p.tables;
    running = first_running p.runs;
    linked = same_linked;
    keys = λ m i linked.
        (let l = linked_map p m i linked in
        ap (λ (t : Rows). key_of t i) (row m l) ∙ key_kept p.runs (rows p m) (table m l) (count m l) i (linked_size p is m i linked) linked);
    bytes = λ m i inside used.
        (let l = sized_map p m i inside in
        ap (λ (t : Rows). bytes_of t i) (row m l) ∙ value_kept p.runs (rows p m) (table m l) (count m l) i inside (used_in_use p m i used));
    holds = λ c m i inside.
        (let l = sized_map p m i inside in
        note_same c m i inside run_looked_up (λ k. ap (λ (t : Rows). run_looked_up t i c) (row m l) ∙ held_kept p.runs (rows p m)
        (table m l) (count m l) i c inside k));
    keeps = λ c m i inside.
        (let l = sized_map p m i inside in
        note_same c m i inside run_left (λ k. ap (λ (t : Rows). run_left t i c) (row m l) ∙ left_kept p.runs (rows p m) (table m l) (count m l) i c inside k));
  }

  -- no note is later than the CPU's first run
  bit_small : (b : Bool) → bit 1 b ≤ 1
  bit_small true = omega arith
  bit_small false = omega arith

  served : (c : ℕ) → c < length q.runs → c < length p.runs
  served c l = let many = length-map p.runs first_run in omega arith

  counts_one : (c : ℕ) → c < length q.runs → (runs_of q c).count ≡ 1
  counts_one c l = ap (λ (r : Runs). r.count) (first_run_of p.runs c (served c l))

  made : (m : ℕ) → m < length p.tables → IsTable (rows q m)
  made m there = subst IsTable (sym (row m there)) (normal_table p.runs (rows p m) (table m there) (count m there)
      (λ i linked. linked_inside (rows p m) (table m there) i linked))

  note_small : (m i c : ℕ) → c < length q.runs → (notes : Rows → List ℕ) → notes no_rows ≡ [] →
      (m < length p.tables → i < elements (rows p m).shape → (b : Bool) × (slice_index (notes (rows q m)) (i * (rows q m).cpus + c) ≡ bit 1 b))
      → (m < length p.tables → length (notes (rows q m)) ≡ elements (rows q m).shape * (rows q m).cpus) → slice_index (notes (rows q m))
      (i * (rows q m).cpus + c) ≤ (runs_of q c).count
  note_small m i c l notes empty inside size = elim (cases_lt m (length p.tables)) [
    | inl there ↦ elim (cases_lt i (elements (rows p m).shape)) [
      | inl low ↦
          let b = inside there low in
          let small = bit_small b.0 in
          let one = counts_one c l in
          let e = b.1 in
          omega (arith, e, small, one)
      | inr high ↦
          let shape : elements (rows q m).shape ≡ elements (rows p m).shape = ap (λ (t : Rows). elements t.shape) (row m there) in
          let above : elements (rows q m).shape ≤ i = omega arith in
          let far : elements (rows q m).shape * (rows q m).cpus ≤ i * (rows q m).cpus = mul-le-mul_right (rows q m).cpus above in
          let long = size there in
          let e : slice_index (notes (rows q m)) (i * (rows q m).cpus + c) ≡ 0 = get_or_past (notes (rows q m)) (i * (rows q m).cpus + c) 0
          (omega (arith, far, long)) in
          omega (arith, e)
    ]
    | inr beyond ↦
        let none : rows q m ≡ no_rows = get_or_past q.tables m no_rows (let many = length-map p.tables (normal_rows p.runs) in omega arith) in
        let e : slice_index (notes (rows q m)) (i * (rows q m).cpus + c) ≡ 0 = ap
        (λ (t : Rows). slice_index (notes t) (i * (rows q m).cpus + c)) none ∙ ap
        (λ (bs : List ℕ). slice_index bs (i * (rows q m).cpus + c)) empty in
        omega (arith, e)
  ]

  pub normal_store : IsStore q
  normal_store = record {
    cpus = (let few = is.cpus in let many = length-map p.runs first_run in omega arith);
    maps = (let few = is.maps in let many = length-map p.tables (normal_rows p.runs) in omega arith);
    tables = λ m l.
        (let there : m < length p.tables = (let many = length-map p.tables (normal_rows p.runs) in omega arith) in
        (made m there, ap (λ (t : Rows). t.cpus) (row m there) ∙ ((is.tables m there).1 ∙ sym (length-map p.runs first_run))));
    looked_up = λ m i c l. note_small m i c l (λ t. t.looked_up) refl
        (λ there low. (
          holds_row (rows p m) i c (run_of p.runs c),
          ap (λ (t : Rows). run_looked_up t i c) (row m there) ∙ held_kept p.runs
              (rows p m) (table m there) (count m there) i c low (served c l),
        ))
        (λ there. (made m there).looked_up);
    left = λ m i c l. note_small m i c l (λ t. t.left) refl
        (λ there low. (
          keeps_row (rows p m) i c (run_of p.runs c),
          ap (λ (t : Rows). run_left t i c) (row m there) ∙ left_kept p.runs
              (rows p m) (table m there) (count m there) i c low (served c l),
        ))
        (λ there. (made m there).left);
  }
