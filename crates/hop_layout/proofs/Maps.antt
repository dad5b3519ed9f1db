-- The maps and arrays of a store by their numbers, and that no two elements' spans overlap.
use Rattle.std.proofs.Common.{◌≡◌, ◌≢◌, ℕ, zero, suc, ◌+◌, ◌*◌, ◌/◌, ◌<◌, ◌≤◌, List, [], ◌∷◌, Some, length, slice_get, slice_index_or, refl}
use Rattle.std.proofs.Common.{sym, subst, arith, ⊎_elim, mul-le-mul}
use mathlib.Core.Logic.{dite}
use native.Mathlib.Decide.{dec_lt}
use Rattle.bpf_shared.specs.declared.shapes.ArrayShape.{ArrayShape}
use Rattle.bpf_shared.specs.declared.shapes.MapShape.{MapShape}
use Rattle.bpf_shared.specs.Shape.{Shape, IsMap, IsArray, IsShape, IsArrayShape, copies, copy_stride, elements, element_stride, element_span, IsApart, IsIn}
use Rattle.bpf_shared.proofs.Puts.{equal_or_not}
use Rattle.hop_layout.specs.Layout.{map_shape, no_map, array_shape, no_array}
use Rattle.bpf_shared.proofs.Fixed.{whole_fits}
use Rattle.bpf_shared.proofs.Places.{stride_most, reach_most}

pub map_is : (h : Shape) (m : ℕ) → m < length h.maps → IsMap h.maps m (map_shape h m)
map_is h m l = go h.maps m l
  where
    go : (gs : List MapShape) (m : ℕ) → m < length gs → slice_get gs m ≡ Some (slice_index_or gs m no_map)
    go [] m l = absurd (omega arith)
    go (g ∷ gs) zero l = refl
    go (g ∷ gs) (suc m) l = go gs m (omega arith)

pub map_of : (h : Shape) (m : ℕ) (g : MapShape) → IsMap h.maps m g → (m < length h.maps) × (map_shape h m ≡ g)
map_of h m g is = go h.maps m is
  where
    go : (gs : List MapShape) (m : ℕ) → slice_get gs m ≡ Some g → (m < length gs) × (slice_index_or gs m no_map ≡ g)
    go [] m e = cc
    go (x ∷ gs) zero e = (omega arith, cc)
    go (x ∷ gs) (suc m) e = let r = go gs m e in (let l = r.0 in omega arith, r.1)

pub array_is : (h : Shape) (a : ℕ) → a < length h.arrays → IsArray h.arrays a (array_shape h a)
array_is h a l = go h.arrays a l
  where
    go : (gs : List ArrayShape) (a : ℕ) → a < length gs → slice_get gs a ≡ Some (slice_index_or gs a no_array)
    go [] a l = absurd (omega arith)
    go (g ∷ gs) zero l = refl
    go (g ∷ gs) (suc a) l = go gs a (omega arith)

pub array_of : (h : Shape) (a : ℕ) (g : ArrayShape) → IsArray h.arrays a g → (a < length h.arrays) × (array_shape h a ≡ g)
array_of h a g is = go h.arrays a is
  where
    go : (gs : List ArrayShape) (a : ℕ) → slice_get gs a ≡ Some g → (a < length gs) × (slice_index_or gs a no_array ≡ g)
    go [] a e = cc
    go (x ∷ gs) zero e = (omega arith, cc)
    go (x ∷ gs) (suc a) e = let r = go gs a e in (let l = r.0 in omega arith, r.1)

-- the words of an array's values are few, as code counts them
pub words_few : (cpus n stride : ℕ) (g : ArrayShape) → cpus ≤ 16 → IsArrayShape cpus g → n ≡ copies cpus g → stride ≡ copy_stride g → n * stride / 8 ≤ 33554432
words_few cpus n stride g few sized e f = most n stride (subst (λ (k : ℕ). k * n ≤ 268435456) (sym f)
    (subst (λ (k : ℕ). copy_stride g * k ≤ 268435456) (sym e) (whole_fits cpus g few sized)))
  where
    most : (x y : ℕ) → y * x ≤ 268435456 → x * y / 8 ≤ 33554432
    most x y l = let e : x * y ≡ y * x = grind arith in omega arith

next_on : (e f k : ℕ) → e < f → e * k + k ≤ f * k
next_on e f k l = let t : suc e * k ≤ f * k = mul-le-mul l (omega arith) in omega (arith, suc-mul e k)
  where
    suc-mul : (e k : ℕ) → suc e * k ≡ e * k + k
    suc-mul e k = grind arith

pub spans_apart : (h : Shape) (m n e f : ℕ) → IsShape h → m < length h.maps → n < length h.maps → e < elements (map_shape h m) → f <
    elements (map_shape h n) → (n ≡ m → f ≢ e)
    → IsApart (element_span m (map_shape h m) e) (element_span n (map_shape h n) f)
spans_apart h m n e f is lm ln le lf ne a x y =
    let sm = is.each m (map_shape h m) (map_is h m lm) in
    let sn = is.each n (map_shape h n) (map_is h n ln) in
    let bm = reach_most (map_shape h m) e sm le in
    let bn = reach_most (map_shape h n) f sn lf in
    let vm = (stride_most (map_shape h m) sm).1 in
    let vn = (stride_most (map_shape h n) sn).1 in
    let wm = (stride_most (map_shape h m) sm).0 in
    let wn = (stride_most (map_shape h n) sn).0 in
    let x0 = x.0 in let x1 = x.1 in let y0 = y.0 in let y1 = y.1 in
    ⊎_elim
    (λ (s : n ≡ m). same s (ne s))
    (λ (d : n ≢ m). dite (dec_lt m n)
    (λ (l : m < n). omega arith)
    (λ nl. dite (dec_lt n m) (λ (l : n < m). omega arith) (λ nr. d (grind arith))))
    (equal_or_not n m)
  where
    value : ℕ
    value = (map_shape h m).value

    same : n ≡ m → f ≢ e → ⊥
    same s d =
        let sm = is.each m (map_shape h m) (map_is h m lm) in
        let vm = (stride_most (map_shape h m) sm).1 in
        let y' : IsIn a (element_span m (map_shape h m) f) = subst (λ k. IsIn a (element_span k (map_shape h k) f)) s y in
        let x0 = x.0 in let x1 = x.1 in let y0 = y'.0 in let y1 = y'.1 in
        dite (dec_lt e f)
        (λ (l : e < f). let k = next_on e f (element_stride (map_shape h m)) l in omega arith)
        (λ nl. dite (dec_lt f e) (λ (l : f < e). let k = next_on f e (element_stride (map_shape h m)) l in omega arith) (λ nr. d (grind arith)))
