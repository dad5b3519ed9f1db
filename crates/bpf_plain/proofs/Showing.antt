-- The bytes of one fixed value.
use Rattle.std.proofs.Common.{◌≡◌, ℕ, ◌+◌, ◌*◌, ◌<◌, ◌≤◌, nat_lt, Bool, true, false, ◌&&◌, if◌then◌else◌, List, length, Some, None}
use Rattle.std.proofs.Common.{slice_get, get_or, refl, sym, ap, subst, ◌∙◌, arith}
use Rattle.std.proofs.lemmas.Bool.{lt-ltb}
use Rattle.bpf_shared.specs.declared.shapes.ArrayShape.{ArrayShape}
use Rattle.bpf_shared.specs.Shape.{Shape, IsShape, IsArray, IsArrayShape, copies, array_stride, copy_stride}
use Rattle.bpf_shared.specs.Store.{Plain, IsFixed, array_of, copy_of, index_of, fixed_number}
use Rattle.bpf_shared.proofs.Fixed.{array_of-number, copy_of-number, index_of-number, copies_most}
use Rattle.bpf_plain.specs.Private.Contents.{Contents, StandsFor, IsStore, bytes_of, offset_in, value_in}
use Rattle.bpf_plain.proofs.Places.{array_sized, value_inside}
use Rattle.bpf_plain.proofs.SavedAlike.{few_bytes}
use Rattle.bpf_plain.specs.Shows.{indexed, ShowsFixed}

both : (x y : Bool) → x ≡ true → y ≡ true → (x && y) ≡ true
both true true e f = refl
both false y e f = cc
both true false e f = cc

module _ (p : Contents) (a k i : ℕ) where
  module _ (g : ArrayShape) (there : IsArray p.shape.arrays a g) where
    in_s : (s : Plain) → StandsFor p s → indexed s a k i (slice_get s.shape.arrays a) ≡
        (if nat_lt k (copies p.shape.cpus g) && nat_lt i g.max then Some (s.value (fixed_number a k i)).bytes else None)
    in_s s h =
        ap (indexed s a k i) (ap (λ (x : Shape). slice_get x.arrays a) h.shape ∙ there)
        ∙ ap (λ (x : Shape). if nat_lt k (copies x.cpus g) && nat_lt i g.max then Some (s.value (fixed_number a k i)).bytes else None) h.shape

    pub value_shown : IsStore p → k < copies p.shape.cpus g → i < g.max → (s : Plain) → StandsFor p s → (s.value (fixed_number a k i)).bytes
        ≡ value_in (bytes_of p a) g k i
    value_shown is has_copy has_index s h =
        let few : k < 16 = (let most = copies_most p.shape.cpus g is.shape.cpus.1 in omega arith) in
        let low : i < 0x1_0000 = (let most = (is.shape.arrays a g there).0.max.1 in omega arith) in
        let v = fixed_number a k i in
        let array : array_of v ≡ a = array_of-number a k i few low in
        let copy : copy_of v ≡ k = copy_of-number a k i few low in
        let index : index_of v ≡ i = index_of-number a k i low in
        let f : IsFixed p.shape v = record {
          array = g;
          is = subst (λ (x : ℕ). IsArray p.shape.arrays x g) (sym array) there;
          copy = subst (λ (x : ℕ). x < copies p.shape.cpus g) (sym copy) has_copy;
          index = subst (λ (x : ℕ). x < g.max) (sym index) has_index;
        } in
        h.fixed v f
        ∙ (ap (λ (x : ℕ). value_in (bytes_of p x) g (copy_of v) (index_of v)) array
        ∙ (ap (λ (x : ℕ). value_in (bytes_of p a) g x (index_of v)) copy ∙ ap (λ (x : ℕ). value_in (bytes_of p a) g k x) index))

    pub shown : IsStore p → k < copies p.shape.cpus g → i < g.max → ShowsFixed p a k i (Some (value_in (bytes_of p a) g k i))
    shown is has_copy has_index s so h =
        in_s s h
        ∙ (ap (λ (b : Bool). if b then Some (s.value (fixed_number a k i)).bytes else None)
        (both (nat_lt k (copies p.shape.cpus g)) (nat_lt i g.max) (lt-ltb k (copies p.shape.cpus g) has_copy) (lt-ltb i g.max has_index))
        ∙ ap Some (value_shown is has_copy has_index s h))

-- ---- what the code finds of the array
abbrev pub blank : ArrayShape
blank = record { value = 0; max = 0; per_cpu = false; frozen = false }

module _ (h : Shape) (is : IsShape h) (gs : List ArrayShape) (same : gs ≡ h.arrays) (n : ℕ) (l : n < length gs) (g : ArrayShape)
    (item : g ≡ get_or gs n blank) where
  pub here : IsArray h.arrays n g
  here = subst (IsArray h.arrays n) (sym item) (array_sized h is gs same n h.cpus blank refl l).0

  pub shaped : IsArrayShape h.cpus g
  shaped = subst (IsArrayShape h.cpus) (sym item) (array_sized h is gs same n h.cpus blank refl l).1

  module _ (k i cpus from all : ℕ) (served : cpus ≡ h.cpus) (is_from : from ≡ k) (is_all : all ≡ copies cpus g) (less : from < all)
      (has_index : i < g.max) where
    pub copy_there : k < copies h.cpus g
    copy_there = subst (λ (x : ℕ). k < copies x g) served (omega arith)

    pub room : offset_in g k i + g.value ≤ copies h.cpus g * copy_stride g
    room = value_inside h.cpus k i g copy_there has_index

    pub few : offset_in g k i + g.value ≤ 0x1000_0000
    few = let r = room in let f = few_bytes h.cpus g is.cpus.1 shaped in omega arith

pub same_offset : (g : ArrayShape) (k i from block row : ℕ) → from ≡ k → block ≡ copy_stride g → row ≡ array_stride g → from * block + i * row ≡ offset_in g k i
same_offset g k i from block row e f d = ap (λ (x : ℕ). x * block + i * row) e ∙
    (ap (λ (x : ℕ). k * x + i * row) f ∙ ap (λ (x : ℕ). k * copy_stride g + i * x) d)
