-- Lines of arrays.
use Rattle.std.proofs.Common.{◌≡◌, ℕ, suc, ◌+◌, ◌<◌, ◌≤◌, nat_lt, get_or, Bool, true, false, ◌&&◌, if◌then◌else◌, List, [], ◌++◌, Option}
use Rattle.std.proofs.Common.{Some, None, length, refl, sym, ap, subst, ◌∙◌, append_assoc, arith}
use Rattle.std.specs.Prelude.{slice_get, slice_index_or}
use Rattle.std.proofs.lemmas.Bool.{lt-ltb}
use Rattle.std.proofs.lemmas.Option.{get_or_from_slice_get, slice_get-get_or, slice_get_read}
use Rattle.bpf_shared.specs.declared.shapes.ArrayShape.{ArrayShape}
use Rattle.bpf_shared.specs.Shape.{Shape, IsArray, IsShape, copies}
use Rattle.bpf_shared.specs.Store.{Plain, fixed_number}
use Rattle.bpf_shared.specs.Sound.{IsSoundStore}
use Rattle.bpf_plain.specs.PlainStore.{Contents, StandsFor}
use Rattle.bpf_plain.specs.Shows.{indexed, fixed_of, ShowsFixed}
use Rattle.bpf_names.specs.Names.{Names, Variable}
use Rattle.bpf_jobs.specs.Printed.{Called, value_line, index_lines, value_lines, array_text, array_lines}

both : (x y : Bool) → x ≡ true → y ≡ true → (x && y) ≡ true
both true true e f = refl
both false y e f = cc
both true false e f = cc

-- what is found at a place of an array
pub place_found : (p : Contents) (s : Plain) → IsSoundStore s → StandsFor p s → (a k i : ℕ) (g : ArrayShape) → IsArray s.shape.arrays a g →
    k < copies s.shape.cpus g → i < g.max
    → (found : Option (List ℕ)) → ShowsFixed p a k i found → found ≡ Some (s.value (fixed_number a k i)).bytes
place_found p s sound shown a k i g there has_copy has_index found shows =
    sym (shows s sound shown)
    ∙ (ap (indexed s a k i) there
    ∙ ap (λ (b : Bool). if b then Some (s.value (fixed_number a k i)).bytes else None)
    (both (nat_lt k (copies s.shape.cpus g)) (nat_lt i g.max) (lt-ltb k (copies s.shape.cpus g) has_copy) (lt-ltb i g.max has_index)))

module _ (s : Plain) (array : Called) (g : ArrayShape) (old text new : List ℕ) where
  -- one CPU's value more
  pub one_copy_more : (i k : ℕ) → text ≡ old ++ index_lines s array g i k → new ≡ text ++ value_line array g.per_cpu i k
      (s.value (fixed_number array.number k i)).bytes
      → new ≡ old ++ index_lines s array g i (k + 1)
  one_copy_more i k so_far more =
      let next : suc k ≡ k + 1 = omega arith in
      let line = value_line array g.per_cpu i k (s.value (fixed_number array.number k i)).bytes in
      subst (λ (n : ℕ). new ≡ old ++ index_lines s array g i n) next
      (more ∙ (ap (λ (t : List ℕ). t ++ line) so_far ∙ append_assoc old (index_lines s array g i k) line))

  -- one index more
  pub one_index_more : (i : ℕ) → text ≡ old ++ value_lines s array g i → new ≡ text ++ index_lines s array g i (copies s.shape.cpus g)
      → new ≡ old ++ value_lines s array g (i + 1)
  one_index_more i so_far more =
      let next : suc i ≡ i + 1 = omega arith in
      let lines = index_lines s array g i (copies s.shape.cpus g) in
      subst (λ (n : ℕ). new ≡ old ++ value_lines s array g n) next
      (more ∙ (ap (λ (t : List ℕ). t ++ lines) so_far ∙ append_assoc old (value_lines s array g i) lines))

-- ---- the shape that the code finds
module _ (s : Plain) (h : Shape) (arrays : List ArrayShape) (a : ℕ) (g d : ArrayShape) (same : s.shape ≡ h) (are : arrays ≡ h.arrays)
    (there : IsArray s.shape.arrays a g) where
  pub found_shape : slice_index_or arrays a d ≡ g
  found_shape = get_or_from_slice_get arrays a g d (ap (λ (gs : List ArrayShape). slice_get gs a) (are ∙ ap (λ (x : Shape). x.arrays) (sym same)) ∙ there)

  pub found_copies : (n cpus : ℕ) → cpus ≡ h.cpus → n ≡ copies cpus (slice_index_or arrays a d) → n ≡ copies s.shape.cpus g
  found_copies n cpus served is =
      is ∙ (ap (λ (x : ArrayShape). copies cpus x) found_shape ∙ ap (λ (x : ℕ). copies x g) (served ∙ ap (λ (x : Shape). x.cpus) (sym same)))

pub array_there : (s : Plain) (h : Shape) (arrays : List ArrayShape) (a : ℕ) (d : ArrayShape) → s.shape ≡ h → arrays ≡ h.arrays → a < length
    h.arrays → IsArray s.shape.arrays a (slice_index_or arrays a d)
array_there s h arrays a d same are inside =
    let count = ap (λ (gs : List ArrayShape). length gs) are in
    let l : a < length arrays = omega arith in
    ap (λ (gs : List ArrayShape). slice_get gs a) (ap (λ (x : Shape). x.arrays) same ∙ sym are) ∙ slice_get-get_or arrays a d l

-- the lines of an array whose values may be written
pub array_open : (s : Plain) (array : Called) (g : ArrayShape) → g.frozen ≡ false → IsArray s.shape.arrays array.number g → array_text s
    array (slice_get s.shape.arrays array.number) ≡ value_lines s array g g.max
array_open s array g is there = ap (array_text s array) there ∙ ap (λ (b : Bool). if b then [] else value_lines s array g g.max) is

-- one array more
pub one_array_more : (s : Plain) (names : Names) (a n : ℕ) (name : List ℕ) (variables : List Variable) (text new : List ℕ) → name ≡
    slice_index_or names.maps n [] → variables ≡ names.variables → n ≡ length s.shape.maps + a
    → text ≡ array_lines s names a → new ≡ text ++ array_text s (record { number = a; name = name; variables = variables })
    (slice_get s.shape.arrays a) → new ≡ array_lines s names (a + 1)
one_array_more s names a n name variables text new named are at so_far more =
    let next : suc a ≡ a + 1 = omega arith in
    let g = slice_get s.shape.arrays a in
    let it : name ≡ slice_index_or names.maps (length s.shape.maps + a) [] = named ∙ ap (λ (k : ℕ). slice_index_or names.maps k []) at in
    subst (λ (n : ℕ). new ≡ array_lines s names n) next
    (more ∙ (ap (λ (t : List ℕ). t ++ array_text s (record { number = a; name = name; variables = variables }) g) so_far
    ∙ (ap (λ (x : List ℕ). array_lines s names a ++ array_text s (record { number = a; name = x; variables = variables }) g) it
    ∙ ap (λ (vs : List Variable). array_lines s names a ++ array_text s
    (record { number = a; name = slice_index_or names.maps (length s.shape.maps + a) []; variables = vs }) g) are)))

-- the array that is found by its number
pub array_found : (s : Plain) (h : Shape) (arrays : List ArrayShape) (n a : ℕ) (g : ArrayShape) → s.shape ≡ h → arrays ≡ h.arrays → n ≡ a →
    n < length arrays → g ≡ get_or arrays n g → IsArray s.shape.arrays a g
array_found s h arrays n a g same are is inside read =
    ap (λ (gs : List ArrayShape). slice_get gs a) (ap (λ (x : Shape). x.arrays) same ∙ sym are)
    ∙ (ap (λ (k : ℕ). slice_get arrays k) (sym is) ∙ slice_get_read arrays (length arrays) n g refl inside read)

some_copy : (own : Bool) (cpus : ℕ) → 1 ≤ cpus → 0 < (if own then cpus else 1)
some_copy true cpus some = omega arith
some_copy false cpus some = omega arith

-- it has a first value
pub has_first : (s : Plain) → IsShape s.shape → (a : ℕ) (g : ArrayShape) → IsArray s.shape.arrays a g → (0 < copies s.shape.cpus g) × (0 < g.max)
has_first s shape a g there =
    let sizes = shape.arrays a g there in
    (some_copy g.per_cpu s.shape.cpus shape.cpus.0, (let some = sizes.0.max.0 in omega arith))

pub first_value : (s : Plain) → IsShape s.shape → (n a : ℕ) (g : ArrayShape) → n ≡ a → IsArray s.shape.arrays a g →
    (found : Option (List ℕ)) → fixed_of s n 0 0 ≡ found → found ≡ Some (s.value (fixed_number a 0 0)).bytes
first_value s shape n a g is there found shows =
    let has = has_first s shape a g there in
    sym shows
    ∙ (ap (λ (k : ℕ). fixed_of s k 0 0) is
    ∙ (ap (indexed s a 0 0) there
    ∙ ap (λ (b : Bool). if b then Some (s.value (fixed_number a 0 0)).bytes else None)
    (both (nat_lt 0 (copies s.shape.cpus g)) (nat_lt 0 g.max) (lt-ltb 0 (copies s.shape.cpus g) has.0) (lt-ltb 0 g.max has.1))))
