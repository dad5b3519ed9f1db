-- Stores that stand for one plain store have the same bytes of arrays, and are saved alike.
use Rattle.std.proofs.Common.{◌≡◌, ℕ, ◌+◌, ◌-◌, ◌*◌, ◌/◌, ◌%◌, ◌<◌, ◌≤◌, ◌⊎◌, false, List, [], ◌++◌, length, get_or, inl, inr, sym, ap, subst, ◌∙◌, arith}
use Rattle.std.proofs.lemmas.Bool.{cases_lt}
use Rattle.std.proofs.lemmas.List.{ext_get_or}
use Rattle.std.proofs.lemmas.Option.{slice_get-get_or}
use Rattle.bpf_shared.specs.declared.shapes.ArrayShape.{ArrayShape}
use Rattle.bpf_shared.specs.Shape.{Shape, IsArray, IsWithin, copies, array_stride, copy_stride}
use Rattle.bpf_shared.specs.Store.{Plain}
use Rattle.bpf_shared.proofs.Fixed.{within_tested, tested_within}
use Rattle.bpf_hash.specs.HashStore as hash
use Rattle.bpf_hash.specs.Private.Saved.{saved as maps_saved}
use Rattle.bpf_hash.proofs.Blocks.{get_or-part}
use Rattle.bpf_hash.proofs.OneStore.{one_saving as hash_saving}
use Rattle.bpf_plain.specs.Private.Contents.{Contents, StandsFor, IsStore, bytes_of, first_at, offset_in, value_in}
use Rattle.bpf_plain.specs.Private.Saved.{saved_arrays, IsSavedAs}
use Rattle.bpf_plain.proofs.Showing.{value_shown}

-- a byte is in a value, or it isn't
within_or_not : (cpus : ℕ) (g : ArrayShape) (x : ℕ) → IsWithin cpus g x 1 ⊎ (IsWithin cpus g x 1 → ⊥)
within_or_not cpus g x =
    let one : 1 ≤ 1 = omega arith in
    elim (cases_lt (x / copy_stride g) (copies cpus g)) [
      | inr past ↦ inr (λ w. (let t = (within_tested cpus g x 1 one w).copy in omega arith))
      | inl copy ↦ elim (cases_lt (x % copy_stride g / array_stride g) g.max) [
        | inr past ↦ inr (λ w. (let t = (within_tested cpus g x 1 one w).index in omega arith))
        | inl index ↦ elim (cases_lt (x % copy_stride g % array_stride g) g.value) [
          | inr past ↦ inr (λ w. (let t = (within_tested cpus g x 1 one w).rest in omega arith))
          | inl rest ↦ inl (tested_within cpus g x 1 one (record { copy = copy; index = index; rest = omega arith }))
        ]
      ]
    ]

module _ (p q : Contents) (is : IsStore p) (too : IsStore q) (s : Plain) (one : StandsFor p s) (two : StandsFor q s) where
  pub same_shape : q.shape ≡ p.shape
  same_shape = sym two.shape ∙ one.shape

  module _ (a : ℕ) (g : ArrayShape) (there : IsArray p.shape.arrays a g) where
    here : IsArray q.shape.arrays a g
    here = subst (λ (h : Shape). IsArray h.arrays a g) (sym same_shape) there

    byte_in : (x : ℕ) → IsWithin p.shape.cpus g x 1 → get_or (bytes_of q a) x 0 ≡ get_or (bytes_of p a) x 0
    byte_in x w =
        let o = offset_in g w.copy w.index in
        let from = w.from in
        let to = w.to in
        let at : o + (x - o) ≡ x = omega arith in
        let has : w.copy < copies q.shape.cpus g = subst (λ (h : Shape). w.copy < copies h.cpus g) (sym same_shape) w.has_copy in
        let values : value_in (bytes_of q a) g w.copy w.index ≡ value_in (bytes_of p a) g w.copy w.index =
        sym (value_shown q a w.copy w.index g here too has w.has_index s two) ∙ value_shown p a w.copy w.index g there is w.has_copy w.has_index s one in
        ap (λ (y : ℕ). get_or (bytes_of q a) y 0) (sym at)
        ∙ (sym (get_or-part (bytes_of q a) o g.value (x - o) (omega arith))
        ∙ (ap (λ (bs : List ℕ). get_or bs (x - o) 0) values ∙ (get_or-part (bytes_of p a) o g.value (x - o) (omega arith) ∙ ap
        (λ (y : ℕ). get_or (bytes_of p a) y 0) at)))

    same_size : length (bytes_of q a) ≡ length (bytes_of p a)
    same_size = (too.arrays.each a g here).size ∙ (ap (λ (h : Shape). copies h.cpus g * copy_stride g) same_shape ∙ sym (is.arrays.each a g there).size)

    pub same_array : bytes_of q a ≡ bytes_of p a
    same_array = ext_get_or 0 (bytes_of q a) (bytes_of p a) same_size (λ x l.
        elim (within_or_not p.shape.cpus g x) [
          | inl w ↦ byte_in x w
          | inr none ↦
              let size = same_size in
              (too.arrays.each a g here).padded x l (subst (λ (h : Shape). IsWithin h.cpus g x 1 → ⊥) (sym same_shape) none)
              ∙ (ap (λ (h : Shape). first_at h a g x) same_shape ∙ sym ((is.arrays.each a g there).padded x (omega arith) none))
        ])

  pub same_arrays : q.arrays ≡ p.arrays
  same_arrays =
      let blank : ArrayShape = record { value = 0; max = 0; per_cpu = false; frozen = false } in
      let many = is.arrays.count in
      let others = too.arrays.count in
      let counts = ap (λ (h : Shape). length h.arrays) same_shape in
      ext_get_or [] q.arrays p.arrays (omega arith) (λ a l. same_array a (get_or p.shape.arrays a blank)
      (slice_get-get_or p.shape.arrays a blank (omega arith)))

-- ---- and are saved as the same bytes
saved_alike : (h k : Shape) (xs ys : List (List ℕ)) (bs cs : List ℕ) → k ≡ h → ys ≡ xs → bs ≡ cs → saved_arrays h xs ++ bs ≡ saved_arrays k ys ++ cs
saved_alike h k xs ys bs cs shape arrays maps =
    ap (λ (l : List ℕ). saved_arrays h xs ++ l) maps
    ∙ (ap (λ (l : List (List ℕ)). saved_arrays h l ++ cs) (sym arrays) ∙ ap (λ (x : Shape). saved_arrays x ys ++ cs) (sym shape))

pub one_saving : (p q : Contents) (s : Plain) (bytes others : List ℕ) → StandsFor p s → StandsFor q s → IsSavedAs p bytes → IsSavedAs q others → bytes ≡ others
one_saving p q s bytes others shown other first second =
    let is = first.0 in
    let too = second.0 in
    let shape : q.shape ≡ p.shape = same_shape p q is too s shown other in
    let arrays = same_arrays p q is too s shown other in
    let sizes : hash.shapes_of q.maps ≡ hash.shapes_of p.maps = too.maps ∙ (ap (λ (h : Shape). h.maps) shape ∙ sym is.maps) in
    let maps = hash_saving p.maps q.maps s (maps_saved p.maps) (maps_saved q.maps) sizes shown.maps other.maps first.2 second.2 in
    first.1 ∙ (saved_alike p.shape q.shape p.arrays q.arrays (maps_saved p.maps) (maps_saved q.maps) shape arrays maps ∙ sym second.1)
