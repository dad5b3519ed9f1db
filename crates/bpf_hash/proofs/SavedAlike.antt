-- Contents of one shape that are saved as the same bytes look alike.
use Rattle.std.proofs.Common.{◌≡◌, ◌∙◌, ℕ, zero, suc, ◌+◌, ◌*◌, ◌<◌, ◌≤◌, true, false, Bool, ◌||◌, ◌⊎◌, if◌then◌else◌, List, [], ◌∷◌, ◌++◌}
use Rattle.std.proofs.Common.{length, length-append, append-nil, append_assoc, inl, inr, refl, sym, ap, subst, arith}
use Rattle.std.specs.Prelude.{map, nat_lt}
use Rattle.std.proofs.lemmas.Bool.{cases_lt, cases_order, le-ltb, lt-ltb}
use Rattle.std.proofs.lemmas.List.{ext_get_or, get_or_past, length-map}
use Rattle.bpf_base.proofs.Lists.{same_fronts}
use Rattle.bpf_hash.specs.declared.runs.Runs.{Runs}
use Rattle.bpf_shared.specs.declared.shapes.MapShape.{MapShape}
use Rattle.bpf_shared.specs.Shape.{elements}
use Rattle.bpf_hash.specs.Private.Runs.{no_runs, run_of, is_run}
use Rattle.bpf_hash.specs.Private.Rows.{Rows, no_rows, shape_of, key_of, bytes_of, run_looked_up, run_left, IsLinked, IsTable}
use Rattle.bpf_hash.specs.Private.Contents.{Contents, rows, runs_of, element_count, shapes_of, is_running, holds, keeps, any_below, IsUsed, IsStore}
use Rattle.bpf_hash.specs.Private.Saved.{bit, all_below, note_of, notes_of, is_linked, marks_of, is_noted, content_of, block_of, map_block, is_in_run, saved}
use Rattle.bpf_hash.specs.Alike.{LookAlike, IsSameShape, SavedAlikeLookAlike}
use Rattle.bpf_shared.proofs.Puts.{equal_or_not}
use Rattle.bpf_hash.proofs.Blocks.{block_fits, length-part}
use Rattle.bpf_hash.proofs.AnyBelow.{any_below_same}
use Rattle.bpf_hash.proofs.Places.{sized_map, linked_size}
use Rattle.bpf_hash.proofs.Alike.{shapes_alike}

-- ---- bits
same_bit : (a b : Bool) → bit 1 a ≡ bit 1 b → a ≡ b
same_bit true true e = refl
same_bit false false e = refl
same_bit true false e = let no : 1 ≡ 0 = e in absurd (omega (arith, no))
same_bit false true e = let no : 0 ≡ 1 = e in absurd (omega (arith, no))

same_low : (a b c d : Bool) → bit 1 a + bit 2 b ≡ bit 1 c + bit 2 d → a ≡ c
same_low true b true d e = refl
same_low false b false d e = refl
same_low true true false true e = let no : 3 ≡ 2 = e in absurd (omega (arith, no))
same_low true true false false e = let no : 3 ≡ 0 = e in absurd (omega (arith, no))
same_low true false false true e = let no : 1 ≡ 2 = e in absurd (omega (arith, no))
same_low true false false false e = let no : 1 ≡ 0 = e in absurd (omega (arith, no))
same_low false true true true e = let no : 2 ≡ 3 = e in absurd (omega (arith, no))
same_low false true true false e = let no : 2 ≡ 1 = e in absurd (omega (arith, no))
same_low false false true true e = let no : 0 ≡ 3 = e in absurd (omega (arith, no))
same_low false false true false e = let no : 0 ≡ 1 = e in absurd (omega (arith, no))

same_high : (a b c d : Bool) → bit 1 a + bit 2 b ≡ bit 1 c + bit 2 d → b ≡ d
same_high a true c true e = refl
same_high a false c false e = refl
same_high true true true false e = let no : 3 ≡ 1 = e in absurd (omega (arith, no))
same_high true true false false e = let no : 3 ≡ 0 = e in absurd (omega (arith, no))
same_high false true true false e = let no : 2 ≡ 1 = e in absurd (omega (arith, no))
same_high false true false false e = let no : 2 ≡ 0 = e in absurd (omega (arith, no))
same_high true false true true e = let no : 1 ≡ 3 = e in absurd (omega (arith, no))
same_high true false false true e = let no : 1 ≡ 2 = e in absurd (omega (arith, no))
same_high false false true true e = let no : 0 ≡ 3 = e in absurd (omega (arith, no))
same_high false false false true e = let no : 0 ≡ 2 = e in absurd (omega (arith, no))

-- ---- lists one after the other
front : (f : ℕ → List ℕ) (n : ℕ) → all_below f (suc n) ≡ f 0 ++ all_below (λ i. f (suc i)) n
front f zero = sym (append-nil (f 0))
front f (suc n) = ap (λ (bs : List ℕ). bs ++ f (suc n)) (front f n) ∙ append_assoc (f 0) (all_below (λ i. f (suc i)) n) (f (suc n))

-- each shows where it ends, so equal bytes are equal one by one
abbrev TellsEnd : List ℕ → List ℕ → Type 0
TellsEnd xs ys = (rest more : List ℕ) → xs ++ rest ≡ ys ++ more → (xs ≡ ys) × (rest ≡ more)

same_front : (f g : ℕ → List ℕ) (n : ℕ) → ((i : ℕ) → i < n → TellsEnd (f i) (g i)) → (rest more : List ℕ) → all_below f n ++ rest ≡
    all_below g n ++ more → ((i : ℕ) → i < n → f i ≡ g i) × (rest ≡ more)
same_front f g zero ends rest more e = (λ i l. absurd (omega arith), e)
same_front f g (suc n) ends rest more e =
    let first : (h : ℕ → List ℕ) (bs : List ℕ) → all_below h (suc n) ++ bs ≡ h 0 ++ (all_below (λ i. h (suc i)) n ++ bs) = λ h bs. ap
    (λ (x : List ℕ). x ++ bs) (front h n) ∙ append_assoc (h 0) (all_below (λ i. h (suc i)) n) bs in
    let here = ends 0 (omega arith) (all_below (λ i. f (suc i)) n ++ rest) (all_below (λ i. g (suc i)) n ++ more) (sym (first f rest) ∙ (e ∙ first g more)) in
    let behind = same_front (λ i. f (suc i)) (λ i. g (suc i)) n (λ i l. ends (suc i) (omega arith)) rest more here.1 in
    (each here.0 behind.0, behind.1)
  where
    each : f 0 ≡ g 0 → ((i : ℕ) → i < n → f (suc i) ≡ g (suc i)) → (i : ℕ) → i < suc n → f i ≡ g i
    each zero_same others zero l = zero_same
    each zero_same others (suc i) l = others i (omega arith)

pub any_below_some : (n : ℕ) (f : ℕ → Bool) (c : ℕ) → c < n → f c ≡ true → any_below n f ≡ true
any_below_some zero f c l e = absurd (omega arith)
any_below_some (suc n) f c l e = elim (equal_or_not c n) [
  | inl q ↦ ap (λ (b : Bool). b || any_below n f) (ap f (sym q) ∙ e)
  | inr ne ↦ ap (λ (b : Bool). f n || b) (any_below_some n f c (elim (cases_lt c n) [ inl k ↦ k | inr past ↦ absurd (ne (omega arith)) ]) e) ∙ or_true (f n)
]
  where
    or_true : (b : Bool) → (b || true) ≡ true
    or_true true = refl
    or_true false = refl

or_right : (a b : Bool) → b ≡ true → (a || b) ≡ true
or_right true b e = refl
or_right false b e = e

or_left : (a b : Bool) → a ≡ true → (a || b) ≡ true
or_left true b e = refl
or_left false b e = let no : false ≡ true = e in cc

some_size : (a b : Bool) (xs ys : List ℕ) → a ≡ b → length xs ≡ length ys → length (if a then xs else []) ≡ length (if b then ys else [])
some_size true true xs ys e n = n
some_size false false xs ys e n = refl
some_size true false xs ys e n = cc
some_size false true xs ys e n = cc

some_is : (a b : Bool) (xs ys : List ℕ) → a ≡ true → b ≡ true → (if a then xs else []) ≡ (if b then ys else []) → xs ≡ ys
some_is true true xs ys a b e = e
some_is false b xs ys a c e = cc
some_is true false xs ys a b e = cc

-- ---- blocks of a map
pub key_size : (t : Rows) (i : ℕ) → IsTable t → i < elements t.shape → length (key_of t i) ≡ t.shape.key
key_size t i is l = let size = is.keys in length-part t.keys (i * t.shape.key) t.shape.key (omega (arith, size, block_fits i (elements t.shape) t.shape.key l))

pub bytes_size : (t : Rows) (i : ℕ) → IsTable t → i < elements t.shape → length (bytes_of t i) ≡ t.shape.value
bytes_size t i is l =
    let size = is.values in length-part t.values (i * t.shape.value) t.shape.value (omega (arith, size, block_fits i (elements t.shape) t.shape.value l))

run_bit : (xs ys : List Runs) (c : ℕ) → map is_in_run xs ≡ map is_in_run ys → bit 1 (run_of xs c).running ≡ bit 1 (run_of ys c).running
run_bit [] [] c e = refl
run_bit [] (y ∷ ys) c e = cc
run_bit (x ∷ xs) [] c e = cc
run_bit (x ∷ xs) (y ∷ ys) zero e = cc
run_bit (x ∷ xs) (y ∷ ys) (suc c) e = let rest : map is_in_run xs ≡ map is_in_run ys = cc in run_bit xs ys c rest

pub no_run : (p : Contents) (c n : ℕ) → length p.runs ≤ c → is_run (runs_of p c) n ≡ false
no_run p c n past = ap (λ (r : Runs). is_run r n) (get_or_past p.runs c no_runs past)

pub singles : (x : ℕ → ℕ) (n : ℕ) → length (all_below (λ c. x c ∷ []) n) ≡ n
singles x zero = refl
singles x (suc n) = let before = singles x n in length-append (all_below (λ c. x c ∷ []) n) (x n ∷ []) ∙
    (let e : length (all_below (λ c. x c ∷ []) n) + 1 ≡ suc n = omega arith in e)

-- an element that is in use is saved
pub used_in_use : (p : Contents) (m i : ℕ) → IsUsed p m i → (is_linked (rows p m) i || is_noted p.runs (rows p m) i) ≡ true
used_in_use p m i (inl linked) = or_left (is_linked (rows p m) i) (is_noted p.runs (rows p m) i) linked
used_in_use p m i (inr (c, either)) = or_right (is_linked (rows p m) i) (is_noted p.runs (rows p m) i)
    (any_below_some (length p.runs) (λ d. holds p d m i || keeps p d m i) c (within either) (noted either))
  where
    noted : (keeps p c m i ≡ true) ⊎ (holds p c m i ≡ true) → (holds p c m i || keeps p c m i) ≡ true
    noted (inl kept) = or_right (holds p c m i) (keeps p c m i) kept
    noted (inr held) = or_left (holds p c m i) (keeps p c m i) held

    within : (keeps p c m i ≡ true) ⊎ (holds p c m i ≡ true) → c < length p.runs
    within h = elim (cases_lt c (length p.runs)) [
      | inl l ↦ l
      | inr past ↦ elim h [
        | inl kept ↦ let no : false ≡ true = sym (no_run p c (run_left (rows p m) i c) past) ∙ kept in cc
        | inr held ↦ let no : false ≡ true = sym (no_run p c (run_looked_up (rows p m) i c) past) ∙ held in cc
      ]
    ]

-- equal lists, one after the other
pub below_same : (f g : ℕ → List ℕ) (n : ℕ) → ((i : ℕ) → i < n → f i ≡ g i) → all_below f n ≡ all_below g n
below_same f g zero same = refl
below_same f g (suc n) same = ap (λ (bs : List ℕ). bs ++ f n) (below_same f g n (λ i l. same i (omega arith))) ∙ ap
    (λ (bs : List ℕ). all_below g n ++ bs) (same n (omega arith))

module _ (p q : Contents) (is : IsStore p) (too : IsStore q) (cpus : length q.runs ≡ length p.runs) (maps : shapes_of q ≡ shapes_of p) where
  shape : (m : ℕ) → (rows q m).shape ≡ (rows p m).shape
  shape = shapes_alike p q maps

  count : length q.tables ≡ length p.tables
  count = sym (length-map q.tables shape_of) ∙ (ap (λ (hs : List MapShape). length hs) maps ∙ length-map p.tables shape_of)

  table : (m : ℕ) → m < length p.tables → IsTable (rows p m)
  table m l = (is.tables m l).0

  table_too : (m : ℕ) → m < length p.tables → IsTable (rows q m)
  table_too m l = (too.tables m (omega (arith, count))).0

  marks_size : (m i : ℕ) → length (marks_of p.runs (rows p m) i) ≡ length (marks_of q.runs (rows q m) i)
  marks_size m i =
      let a = singles (λ c. note_of (rows p m) i c (run_of p.runs c)) (length p.runs) in
      let b = singles (λ c. note_of (rows q m) i c (run_of q.runs c)) (length q.runs) in
      omega (arith, a, b, cpus)

  abbrev in_use : Contents → ℕ → ℕ → Bool
  in_use r m i = is_linked (rows r m) i || is_noted r.runs (rows r m) i

  abbrev key_part : Contents → ℕ → ℕ → List ℕ
  key_part r m i = if is_linked (rows r m) i then key_of (rows r m) i else []

  abbrev value_part : Contents → ℕ → ℕ → List ℕ
  value_part r m i = if in_use r m i then bytes_of (rows r m) i else []

  -- ---- an element with the same marks
  module _ (m i : ℕ) (inside : i < element_count p m) (e : marks_of p.runs (rows p m) i ≡ marks_of q.runs (rows q m) i) where
    within : m < length p.tables
    within = sized_map p m i inside

    there : i < elements (rows q m).shape
    there = subst (λ (h : MapShape). i < elements h) (sym (shape m)) inside

    link : is_linked (rows p m) i ≡ is_linked (rows q m) i
    link =
        let head : bit 1 (is_linked (rows p m) i) ≡ bit 1 (is_linked (rows q m) i) = cc in
        same_bit (is_linked (rows p m) i) (is_linked (rows q m) i) head

    note : (c : ℕ) → c < length p.runs → note_of (rows p m) i c (run_of p.runs c) ≡ note_of (rows q m) i c (run_of q.runs c)
    note c below =
        let tail : notes_of p.runs (rows p m) i ≡ notes_of q.runs (rows q m) i = cc in
        let f : ℕ → List ℕ = λ c. note_of (rows p m) i c (run_of p.runs c) ∷ [] in
        let g : ℕ → List ℕ = λ c. note_of (rows q m) i c (run_of q.runs c) ∷ [] in
        let whole : all_below f (length p.runs) ≡ all_below g (length p.runs) = tail ∙ ap (λ (n : ℕ). all_below g n) cpus in
        let here : f c ≡ g c = (same_front f g (length p.runs) (λ k l rest more h. same_fronts (f k) (g k) rest more refl h) [] []
        (ap (λ (bs : List ℕ). bs ++ []) whole)).0 c below in
        cc

    hold : (c : ℕ) → holds p c m i ≡ holds q c m i
    hold c = elim (cases_lt c (length p.runs)) [
      | inl below ↦ same_low (holds p c m i) (keeps p c m i) (holds q c m i) (keeps q c m i) (note c below)
      | inr past ↦ no_run p c (run_looked_up (rows p m) i c) past ∙ sym (no_run q c (run_looked_up (rows q m) i c) (omega (arith, cpus)))
    ]

    keep : (c : ℕ) → keeps p c m i ≡ keeps q c m i
    keep c = elim (cases_lt c (length p.runs)) [
      | inl below ↦ same_high (holds p c m i) (keeps p c m i) (holds q c m i) (keeps q c m i) (note c below)
      | inr past ↦ no_run p c (run_left (rows p m) i c) past ∙ sym (no_run q c (run_left (rows q m) i c) (omega (arith, cpus)))
    ]

    noted : is_noted p.runs (rows p m) i ≡ is_noted q.runs (rows q m) i
    noted =
        any_below_same (length p.runs) (λ c. holds q c m i || keeps q c m i) (λ c. holds p c m i || keeps p c m i) (λ c l.
        ap (λ (b : Bool). b || keeps p c m i) (hold c) ∙ ap (λ (b : Bool). holds q c m i || b) (keep c))
        ∙ ap (λ (n : ℕ). any_below n (λ c. holds q c m i || keeps q c m i)) (sym cpus)

    use_same : in_use p m i ≡ in_use q m i
    use_same =
        ap (λ (b : Bool). b || is_noted p.runs (rows p m) i) link ∙ ap (λ (b : Bool). is_linked (rows q m) i || b) noted

    key_part_size : length (key_part p m i) ≡ length (key_part q m i)
    key_part_size = some_size (is_linked (rows p m) i) (is_linked (rows q m) i) (key_of (rows p m) i) (key_of (rows q m) i) link
        (key_size (rows p m) i (table m within) inside ∙ (ap (λ (h : MapShape). h.key) (sym (shape m)) ∙ sym
        (key_size (rows q m) i (table_too m within) there)))

    value_part_size : length (value_part p m i) ≡ length (value_part q m i)
    value_part_size = some_size (in_use p m i) (in_use q m i) (bytes_of (rows p m) i) (bytes_of (rows q m) i) use_same
        (bytes_size (rows p m) i (table m within) inside ∙ (ap (λ (h : MapShape). h.value) (sym (shape m)) ∙ sym
        (bytes_size (rows q m) i (table_too m within) there)))

    content_size : length (content_of p.runs (rows p m) i) ≡ length (content_of q.runs (rows q m) i)
    content_size =
        let a = key_part_size in
        let b = value_part_size in
        length-append (key_part p m i) (value_part p m i)
        ∙ (let k : length (key_part p m i) + length (value_part p m i) ≡ length (key_part q m i) + length (value_part q m i) = omega arith in k)
        ∙ sym (length-append (key_part q m i) (value_part q m i))

  -- ---- blocks show where they end
  parts_of : (m i : ℕ) → i < element_count p m → (rest more : List ℕ) → block_of p.runs (rows p m) i ++ rest ≡ block_of q.runs (rows q m) i ++ more
      → (marks_of p.runs (rows p m) i ≡ marks_of q.runs (rows q m) i) × (content_of p.runs (rows p m) i ≡ content_of q.runs (rows q m) i) × (rest ≡ more)
  parts_of m i inside rest more e =
      let a = marks_of p.runs (rows p m) i in
      let b = marks_of q.runs (rows q m) i in
      let x = content_of p.runs (rows p m) i in
      let y = content_of q.runs (rows q m) i in
      let first = same_fronts a b (x ++ rest) (y ++ more) (marks_size m i) (sym (append_assoc a x rest) ∙ (e ∙ append_assoc b y more)) in
      let second = same_fronts x y rest more (content_size m i inside first.0) first.1 in
      (first.0, second.0, second.1)

  block_ends : (m i : ℕ) → i < element_count p m → TellsEnd (block_of p.runs (rows p m) i) (block_of q.runs (rows q m) i)
  block_ends m i inside rest more e =
      let parts = parts_of m i inside rest more e in
      (ap (λ (bs : List ℕ). bs ++ content_of p.runs (rows p m) i) parts.0 ∙ ap (λ (bs : List ℕ). marks_of q.runs (rows q m) i ++ bs) parts.1, parts.2)

  -- one map's elements
  map_parts : (m : ℕ) (rest more : List ℕ) → map_block p m ++ rest ≡ map_block q m ++ more →
      ((i : ℕ) → i < element_count p m → block_of p.runs (rows p m) i ≡ block_of q.runs (rows q m) i) × (rest ≡ more)
  map_parts m rest more e =
      same_front (block_of p.runs (rows p m)) (block_of q.runs (rows q m)) (element_count p m) (block_ends m) rest more
      (e ∙ ap (λ (h : MapShape). all_below (block_of q.runs (rows q m)) (elements h) ++ more) (shape m))

  map_ends : (m : ℕ) → TellsEnd (map_block p m) (map_block q m)
  map_ends m rest more e =
      let parts = map_parts m rest more e in (
        below_same (block_of p.runs (rows p m)) (block_of q.runs (rows q m)) (element_count p m) parts.0 ∙ ap
            (λ (h : MapShape). all_below (block_of q.runs (rows q m)) (elements h)) (sym (shape m)),
        parts.1,
      )

  module _ (same : saved p ≡ saved q) where
    parts : (map is_in_run p.runs ≡ map is_in_run q.runs) × (all_below (map_block p) (length p.tables) ≡ all_below (map_block q) (length q.tables))
    parts = same_fronts (map is_in_run p.runs) (map is_in_run q.runs) _ _ (length-map p.runs is_in_run ∙ (sym cpus ∙ sym (length-map q.runs is_in_run))) same

    same_map : (m : ℕ) → m < length p.tables → map_block p m ≡ map_block q m
    same_map m l =
        let whole : all_below (map_block p) (length p.tables) ≡ all_below (map_block q) (length p.tables) = parts.1 ∙ ap
        (λ (n : ℕ). all_below (map_block q) n) count in
        (same_front (map_block p) (map_block q) (length p.tables) (λ k h. map_ends k) [] [] (ap (λ (bs : List ℕ). bs ++ []) whole)).0 m l

    same_block : (m i : ℕ) → i < element_count p m → (marks_of p.runs (rows p m) i ≡ marks_of q.runs (rows q m) i) ×
        (content_of p.runs (rows p m) i ≡ content_of q.runs (rows q m) i)
    same_block m i inside =
        let e = (map_parts m [] [] (ap (λ (bs : List ℕ). bs ++ []) (same_map m (sized_map p m i inside)))).0 i inside in
        let two = parts_of m i inside [] [] (ap (λ (bs : List ℕ). bs ++ []) e) in
        (two.0, two.1)

    same_parts : (m i : ℕ) → i < element_count p m → (key_part p m i ≡ key_part q m i) × (value_part p m i ≡ value_part q m i)
    same_parts m i inside =
        let two = same_block m i inside in
        same_fronts (key_part p m i) (key_part q m i) (value_part p m i) (value_part q m i) (key_part_size m i inside two.0) two.1

    same_linked : (m : ℕ) → (rows q m).linked ≡ (rows p m).linked
    same_linked m = elim (cases_lt m (length p.tables)) [
      | inl l ↦
          let a = (table m l).linked in
          let b = (table_too m l).linked ∙ ap elements (shape m) in
          ext_get_or false (rows q m).linked (rows p m).linked (b ∙ sym a)
          (λ i h. let inside : i < element_count p m = omega (arith, b) in sym (link m i inside (same_block m i inside).0))
      | inr past ↦
          let none : rows p m ≡ no_rows = get_or_past p.tables m no_rows past in
          let nothing : rows q m ≡ no_rows = get_or_past q.tables m no_rows (omega (arith, count)) in
          ap (λ (t : Rows). t.linked) (nothing ∙ sym none)
    ]

    used_is : (m i : ℕ) → IsUsed p m i → in_use p m i ≡ true
    used_is m i used = used_in_use p m i used

    same_keys : (m i : ℕ) → IsLinked (rows p m) i → key_of (rows q m) i ≡ key_of (rows p m) i
    same_keys m i linked =
        let inside = linked_size p is m i linked in
        sym (some_is (is_linked (rows p m) i) (is_linked (rows q m) i) (key_of (rows p m) i) (key_of (rows q m) i) linked
        (sym (link m i inside (same_block m i inside).0) ∙ linked) (same_parts m i inside).0)

    same_bytes : (m i : ℕ) → i < element_count p m → IsUsed p m i → bytes_of (rows q m) i ≡ bytes_of (rows p m) i
    same_bytes m i inside used =
        let u = used_is m i used in
        sym (some_is (in_use p m i) (in_use q m i) (bytes_of (rows p m) i) (bytes_of (rows q m) i) u
        (sym (use_same m i inside (same_block m i inside).0) ∙ u) (same_parts m i inside).1)

    look_alike : LookAlike p q
    look_alike = record {
      cpus = cpus;
      maps = maps;
      running = λ c. same_bit (is_running q c) (is_running p c) (sym (run_bit p.runs q.runs c parts.0));
      linked = same_linked;
      keys = same_keys;
      bytes = same_bytes;
      holds = λ c m i inside. sym (hold m i inside (same_block m i inside).0 c);
      keeps = λ c m i inside. sym (keep m i inside (same_block m i inside).0 c);
    }

-- numbers that have the same numbers below them are one
pub same_count : (a b : ℕ) → ((c : ℕ) → nat_lt c a ≡ nat_lt c b) → a ≡ b
same_count a b same = elim (cases_order a b) [
  | inl e ↦ e
  | inr rest ↦ elim rest [
    | inl less ↦ let no : false ≡ true = sym (le-ltb a a (omega arith)) ∙ (same a ∙ lt-ltb a b less) in cc
    | inr more ↦ let no : false ≡ true = sym (le-ltb b b (omega arith)) ∙ (sym (same b) ∙ lt-ltb b a more) in cc
  ]
]

pub same_cpus : (p q : Contents) → IsSameShape p q → length q.runs ≡ length p.runs
same_cpus p q shape = same_count (length q.runs) (length p.runs) shape.0

pub saved_alike_look_alike : SavedAlikeLookAlike
saved_alike_look_alike p q bytes shape a b = look_alike p q a.0 b.0 (same_cpus p q shape) shape.1 (sym a.1 ∙ b.1)
