-- No test of a store's shape applies exactly where the shape is in range.
use Rattle.std.proofs.Common.{◌≡◌, ℕ, zero, suc, ◌+◌, ◌*◌, ◌<◌, ◌≤◌, nat_lt, Bool, true, false, List, [], ◌∷◌, ◌++◌, length, drop, get_or}
use Rattle.std.proofs.Common.{Option, Some, None, slice_get, slice_index_or, refl, ap, sym, subst, ◌∙◌, arith}
use Rattle.std.proofs.lemmas.Bool.Decides.{nat_tests}
use Rattle.bpf_shared.specs.declared.shapes.ArrayShape.{ArrayShape}
use Rattle.bpf_shared.specs.declared.shapes.MapShape.{MapShape}
use Rattle.bpf_shared.specs.declared.shapes.ShapeError.{ShapeError}
use Rattle.bpf_shared.specs.declared.shapes.ShapeError.TheVariants.{KeySize, ValueSize, KeyCount, SpareCount, TooManyMaps, CpuCount}
use Rattle.bpf_shared.specs.declared.shapes.ShapeError.TheVariants.{ArrayValueSize, ArrayCount, ArraySize, ArrayContents}
use Rattle.bpf_shared.specs.First.{first_of}
use Rattle.bpf_shared.specs.Shape.{Shape, IsMapShape, IsMap, IsShape, IsArray, IsArrayShape, copies, copy_size, without_arrays}
use Rattle.bpf_shared.specs.Refusals.{outside, map_tests, maps_tests, shape_tests, array_tests, each_array_tests}

pub first_of-append_none : (xs ys : List (ShapeError × Bool)) → first_of xs ≡ None → first_of (xs ++ ys) ≡ first_of ys
first_of-append_none [] ys e = refl
first_of-append_none ((r, true) ∷ xs) ys e = cc
first_of-append_none ((r, false) ∷ xs) ys e = first_of-append_none xs ys e

pub first_of-append_some : (xs ys : List (ShapeError × Bool)) (r : ShapeError) → first_of xs ≡ Some r → first_of (xs ++ ys) ≡ Some r
first_of-append_some [] ys r e = cc
first_of-append_some ((q, true) ∷ xs) ys r e = e
first_of-append_some ((q, false) ∷ xs) ys r e = first_of-append_some xs ys r e

-- ---- one number
pub outside_false : (least most n : ℕ) → outside least most n ≡ false → (least ≤ n) × (n ≤ most)
outside_false least most n e = grind (arith, nat_tests)

pub inside_false : (least most n : ℕ) → least ≤ n → n ≤ most → outside least most n ≡ false
inside_false least most n l k = grind (arith, nat_tests)

-- ---- one map
all_false : (a b c d : Bool) (p q r s : ShapeError) → first_of ((p, a) ∷ (q, b) ∷ (r, c) ∷ (s, d) ∷ []) ≡ None → (a ≡ false) × (b ≡ false) ×
    (c ≡ false) × (d ≡ false)
all_false true b c d p q r s e = cc
all_false false true c d p q r s e = cc
all_false false false true d p q r s e = cc
all_false false false false true p q r s e = cc
all_false false false false false p q r s e = (refl, refl, refl, refl)

none_of : (a b c d : Bool) (p q r s : ShapeError) → a ≡ false → b ≡ false → c ≡ false → d ≡ false → first_of ((p, a) ∷ (q, b) ∷ (r, c) ∷ (s, d) ∷ []) ≡ None
none_of true b c d p q r s e f g h = cc
none_of false true c d p q r s e f g h = cc
none_of false false true d p q r s e f g h = cc
none_of false false false true p q r s e f g h = cc
none_of false false false false p q r s e f g h = refl

pub map_in_range : (m : ℕ) (h : MapShape) → first_of (map_tests m h) ≡ None → IsMapShape h
map_in_range m h e =
    let f = all_false (outside 1 64 h.key) (outside 1 256 h.value) (outside 1 65536 h.max) (nat_lt 65536 h.spare) (KeySize m) (ValueSize m)
    (KeyCount m) (SpareCount m) e in
    let spare : nat_lt 65536 h.spare ≡ false = f.3 in
    record {
      key = outside_false 1 64 h.key f.0;
      value = outside_false 1 256 h.value f.1;
      max = outside_false 1 65536 h.max f.2;
      spare = grind (arith, nat_tests);
    }

pub map_passes : (m : ℕ) (h : MapShape) → IsMapShape h → first_of (map_tests m h) ≡ None
map_passes m h is =
    let spare : nat_lt 65536 h.spare ≡ false = (let l : h.spare ≤ 65536 = is.spare in grind (arith, nat_tests)) in
    none_of (outside 1 64 h.key) (outside 1 256 h.value) (outside 1 65536 h.max) (nat_lt 65536 h.spare) (KeySize m) (ValueSize m) (KeyCount m) (SpareCount m)
    (inside_false 1 64 h.key is.key.0 is.key.1) (inside_false 1 256 h.value is.value.0 is.value.1) (inside_false 1 65536 h.max is.max.0 is.max.1) spare

-- ---- all maps
first_part : (xs ys : List (ShapeError × Bool)) → first_of (xs ++ ys) ≡ None → first_of xs ≡ None
first_part [] ys e = refl
first_part ((r, true) ∷ xs) ys e = cc
first_part ((r, false) ∷ xs) ys e = first_part xs ys e

pub maps_in_range : (m : ℕ) (hs : List MapShape) → first_of (maps_tests m hs) ≡ None → (k : ℕ) (h : MapShape) → IsMap hs k h → IsMapShape h
maps_in_range m [] e k h is = cc
maps_in_range m (x ∷ xs) e zero h is =
    let same : x ≡ h = cc in
    map_in_range m h (ap (λ (y : MapShape). first_of (map_tests m y)) (sym same) ∙ first_part (map_tests m x) (maps_tests (m + 1) xs) e)
maps_in_range m (x ∷ xs) e (suc k) h is =
    maps_in_range (m + 1) xs (sym (first_of-append_none (map_tests m x) (maps_tests (m + 1) xs)
    (first_part (map_tests m x) (maps_tests (m + 1) xs) e)) ∙ e) k h is

pub maps_pass : (m : ℕ) (hs : List MapShape) → ((k : ℕ) (h : MapShape) → IsMap hs k h → IsMapShape h) → first_of (maps_tests m hs) ≡ None
maps_pass m [] is = refl
maps_pass m (x ∷ xs) is =
    first_of-append_none (map_tests m x) (maps_tests (m + 1) xs) (map_passes m x (is 0 x refl)) ∙ maps_pass (m + 1) xs (λ k h e. is (suc k) h e)

-- ---- a store
pub no_arrays : (cpus : ℕ) (maps : List MapShape) → (1 ≤ cpus) × (cpus ≤ 16) → length maps ≤ 16 →
    ((m : ℕ) (h : MapShape) → IsMap maps m h → IsMapShape h) → IsShape (without_arrays cpus maps)
no_arrays cpus maps served count each = record { cpus = served; count = count; each = each; array_count = omega arith; arrays = λ a g is. absurd (cc) }

pub shape_passes : (s : Shape) → IsShape s → first_of (shape_tests s.cpus s.maps) ≡ None
shape_passes s is =
    let cpus = inside_false 1 16 s.cpus is.cpus.0 is.cpus.1 in
    let count : nat_lt 16 (length s.maps) ≡ false = (let l : length s.maps ≤ 16 = is.count in grind (arith, nat_tests)) in
    go (outside 1 16 s.cpus) (nat_lt 16 (length s.maps)) cpus count
  where
    go : (a b : Bool) → a ≡ false → b ≡ false → first_of ((CpuCount, a) ∷ (TooManyMaps, b) ∷ maps_tests 0 s.maps) ≡ None
    go true b e f = cc
    go false true e f = cc
    go false false e f = maps_pass 0 s.maps is.each

pub get_within : (hs : List MapShape) (m : ℕ) (d : MapShape) → m < length hs → slice_get hs m ≡ Some (get_or hs m d)
get_within [] m d l = absurd (omega arith)
get_within (h ∷ hs) zero d l = refl
get_within (h ∷ hs) (suc m) d l = get_within hs m d (omega arith)

pub none_refused : (hs : List MapShape) (m : ℕ) (d : MapShape) (r : ShapeError) → m < length hs →
    ((k : ℕ) (h : MapShape) → IsMap hs k h → IsMapShape h) → Some r ≡ first_of (map_tests m (get_or hs m d)) → ⊥
none_refused hs m d r l is e = let none = map_passes m (get_or hs m d) (is m (get_or hs m d) (get_within hs m d l)) in let both : Some r ≡ None = e ∙ none in cc

pub all_passed : (hs items : List MapShape) (m : ℕ) → items ≡ hs → length items ≤ m → first_of (maps_tests 0 items) ≡ first_of
    (maps_tests m (drop m items)) → (k : ℕ) (h : MapShape) → IsMap hs k h → IsMapShape h
all_passed hs items m e l so_far =
    let rest : drop m items ≡ [] = drop_past items m l in
    maps_in_range 0 hs (ap (λ (x : List MapShape). first_of (maps_tests 0 x)) (sym e) ∙ (so_far ∙ ap (λ (x : List MapShape). first_of (maps_tests m x)) rest))
  where
    drop_past : (xs : List MapShape) (n : ℕ) → length xs ≤ n → drop n xs ≡ []
    drop_past [] zero k = refl
    drop_past [] (suc n) k = refl
    drop_past (x ∷ xs) zero k = absurd (omega arith)
    drop_past (x ∷ xs) (suc n) k = drop_past xs n (omega arith)

-- ---- one array
abbrev pub IsGood : ℕ → ℕ → ArrayShape → Type 0
IsGood cpus filled g = IsArrayShape cpus g × (filled ≤ copy_size g)

at_most : (n most : ℕ) → nat_lt most n ≡ false → n ≤ most
at_most n most e = grind (arith, nat_tests)

none_over : (n most : ℕ) → n ≤ most → nat_lt most n ≡ false
none_over n most l = grind (arith, nat_tests)

pub array_in_range : (cpus filled a : ℕ) (g : ArrayShape) → first_of (array_tests cpus filled a g) ≡ None → IsGood cpus filled g
array_in_range cpus filled a g e =
    let f = all_false (outside 1 65536 g.value) (outside 1 65536 g.max) (nat_lt 0x100_0000 (copy_size g * copies cpus g))
    (nat_lt (copy_size g) filled) (ArrayValueSize a) (ArrayCount a) (ArraySize a) (ArrayContents a) e in (
      record {
        value = outside_false 1 65536 g.value f.0;
        max = outside_false 1 65536 g.max f.1;
        whole = at_most (copy_size g * copies cpus g) 0x100_0000 f.2;
      },
      at_most filled (copy_size g) f.3,
    )

pub array_passes : (cpus filled a : ℕ) (g : ArrayShape) → IsGood cpus filled g → first_of (array_tests cpus filled a g) ≡ None
array_passes cpus filled a g is =
    none_of (outside 1 65536 g.value) (outside 1 65536 g.max) (nat_lt 0x100_0000 (copy_size g * copies cpus g))
    (nat_lt (copy_size g) filled) (ArrayValueSize a) (ArrayCount a) (ArraySize a) (ArrayContents a)
    (inside_false 1 65536 g.value is.0.value.0 is.0.value.1) (inside_false 1 65536 g.max is.0.max.0 is.0.max.1)
    (none_over (copy_size g * copies cpus g) 0x100_0000 is.0.whole) (none_over filled (copy_size g) is.1)

-- ---- all arrays
module _ (cpus : ℕ) (contents : List (List ℕ)) where
  abbrev pub filled_at : ℕ → ℕ
  filled_at a = length (slice_index_or contents a [])

  pub arrays_in_range : (a : ℕ) (gs : List ArrayShape) → first_of (each_array_tests cpus contents a gs) ≡ None → (k n : ℕ) (g : ArrayShape)
      → n ≡ a + k → IsArray gs k g → IsGood cpus (filled_at n) g
  arrays_in_range a [] e k n g at is = cc
  arrays_in_range a (x ∷ xs) e zero n g at is =
      let same : x ≡ g = cc in
      let here : n ≡ a = omega arith in
      subst (λ (m : ℕ). IsGood cpus (filled_at m) g) (sym here)
      (array_in_range cpus (filled_at a) a g (ap (λ (y : ArrayShape). first_of (array_tests cpus (filled_at a) a y)) (sym same) ∙ first_part
      (array_tests cpus (filled_at a) a x) (each_array_tests cpus contents (a + 1) xs) e))
  arrays_in_range a (x ∷ xs) e (suc k) n g at is =
      let first = first_part (array_tests cpus (filled_at a) a x) (each_array_tests cpus contents (a + 1) xs) e in
      arrays_in_range (a + 1) xs (sym (first_of-append_none (array_tests cpus (filled_at a) a x) (each_array_tests cpus contents (a + 1) xs)
      first) ∙ e) k n g (omega arith) is

  pub arrays_pass : (a : ℕ) (gs : List ArrayShape) → ((k n : ℕ) (g : ArrayShape) → n ≡ a + k → IsArray gs k g → IsGood cpus (filled_at n) g)
      → first_of (each_array_tests cpus contents a gs) ≡ None
  arrays_pass a [] is = refl
  arrays_pass a (x ∷ xs) is =
      first_of-append_none (array_tests cpus (filled_at a) a x) (each_array_tests cpus contents (a + 1) xs)
      (array_passes cpus (filled_at a) a x (is 0 a x (omega arith) refl))
      ∙ arrays_pass (a + 1) xs (λ k n g at e. is (suc k) n g (omega arith) e)

-- ---- a store with arrays
-- the arrays are those of a store exactly where no test applies
pub arrays_shape : (cpus : ℕ) (maps : List MapShape) (arrays : List ArrayShape) (contents : List (List ℕ)) (old : Shape) → old.cpus ≡ cpus →
    old.maps ≡ maps → IsShape old → length arrays ≤ 16
    → None ≡ first_of (each_array_tests cpus contents 0 arrays) → IsShape (record { cpus = cpus; maps = maps; arrays = arrays; contents = contents })
arrays_shape cpus maps arrays contents old same_cpus same_maps is few none = record {
  cpus = subst (λ (n : ℕ). (1 ≤ n) × (n ≤ 16)) same_cpus is.cpus;
  count = subst (λ (ms : List MapShape). length ms ≤ 16) same_maps is.count;
  each = subst (λ (ms : List MapShape). (m : ℕ) (h : MapShape) → IsMap ms m h → IsMapShape h) same_maps is.each;
  array_count = few;
  arrays = λ a g there. arrays_in_range cpus contents 0 arrays (sym none) a a g (omega arith) there;
}

pub arrays_refused : (s : Shape) (r : ShapeError) → IsShape s → Some r ≡ first_of (each_array_tests s.cpus s.contents 0 s.arrays) → ⊥
arrays_refused s r is e =
    let none = arrays_pass s.cpus s.contents 0 s.arrays (λ k n g at there.
    let same : n ≡ k = omega arith in subst (λ (a : ℕ). IsGood s.cpus (length (slice_index_or s.contents a [])) g) (sym same) (is.arrays k g there))
    in
    let both : Some r ≡ None = e ∙ none in cc

-- the same tests of what the code read
pub same_tests : (o : Option ShapeError) (k n : ℕ) (cs ds : List (List ℕ)) (gs hs : List ArrayShape) → k ≡ n → cs ≡ ds → gs ≡ hs → o ≡
    first_of (each_array_tests k cs 0 gs) → o ≡ first_of (each_array_tests n ds 0 hs)
same_tests o k n cs ds gs hs e f g is =
    is ∙ (ap (λ (x : ℕ). first_of (each_array_tests x cs 0 gs)) e ∙
    (ap (λ (x : List (List ℕ)). first_of (each_array_tests n x 0 gs)) f ∙ ap (λ (x : List ArrayShape). first_of (each_array_tests n ds 0 x)) g))
