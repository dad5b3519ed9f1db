-- Contents of one shape that are saved as the same bytes look alike.
use Rattle.std.proofs.Common.{◌≡◌, ℕ, zero, suc, ◌*◌, ◌%◌, ◌<◌, ◌≤◌, Bool, true, false, if◌then◌else◌, List, [], ◌++◌, length, append-nil}
use Rattle.std.proofs.Common.{append_assoc, Option, Some, Result, Ok, Err, OnOk, slice_get, slice_index, slice_index_or, refl, sym, ap}
use Rattle.std.proofs.Common.{subst, ◌∙◌, arith}
use Rattle.std.proofs.lemmas.List.{ext_get_or}
use Rattle.std.proofs.lemmas.Option.{slice_get-get_or}
use Rattle.bpf_base.specs.Bytes.{low_bytes}
use Rattle.bpf_shared.specs.declared.shapes.ArrayShape.{ArrayShape}
use Rattle.bpf_shared.specs.Shape.{Shape, IsShape, IsArray, IsArrayShape, copies, copy_stride, contents_of}
use Rattle.bpf_shared.proofs.Fixed.{whole_fits}
use Rattle.bpf_hash.specs.Private.Saved as saving
use Rattle.bpf_hash.proofs.SavedAlike as maps_saved
use Rattle.bpf_plain.specs.Private.Contents.{AreArrays, first_at}
use Rattle.bpf_plain.specs.Private.Changes.{changes, changes_from}
use Rattle.bpf_plain.specs.Private.Saved.{saved_array, array_block, saved_arrays}
use Rattle.bpf_plain.specs.Alike.{SavedAlikeLookAlike}
use Rattle.bpf_plain.proofs.Changed.{changes_told}
use Rattle.bpf_plain.proofs.Filling.{filled_one}

-- ---- lists one after the other
front : (f : ℕ → List ℕ) (n : ℕ) → saving.all_below f (suc n) ≡ f 0 ++ saving.all_below (λ i. f (suc i)) n
front f zero = sym (append-nil (f 0))
front f (suc n) = ap (λ (bs : List ℕ). bs ++ f (suc n)) (front f n) ∙ append_assoc (f 0) (saving.all_below (λ i. f (suc i)) n) (f (suc n))

-- each shows where it ends, and that something of it is so
abbrev pub Tells : Type 0 → List ℕ → List ℕ → Type 0
Tells P xs ys = (rest more : List ℕ) → xs ++ rest ≡ ys ++ more → P × (rest ≡ more)

pub told_all : (P : ℕ → Type 0) (f g : ℕ → List ℕ) (n : ℕ) → ((i : ℕ) → i < n → Tells (P i) (f i) (g i)) → (rest more : List ℕ) →
    saving.all_below f n ++ rest ≡ saving.all_below g n ++ more
    → ((i : ℕ) → i < n → P i) × (rest ≡ more)
told_all P f g zero ends rest more e = (λ i l. absurd (omega arith), e)
told_all P f g (suc n) ends rest more e =
    let first : (h : ℕ → List ℕ) (bs : List ℕ) → saving.all_below h (suc n) ++ bs ≡ h 0 ++ (saving.all_below (λ i. h (suc i)) n ++ bs) =
    λ h bs. ap (λ (x : List ℕ). x ++ bs) (front h n) ∙ append_assoc (h 0) (saving.all_below (λ i. h (suc i)) n) bs in
    let here = ends 0 (omega arith) (saving.all_below (λ i. f (suc i)) n ++ rest) (saving.all_below (λ i. g (suc i)) n ++ more)
    (sym (first f rest) ∙ (e ∙ first g more)) in
    let after = told_all (λ i. P (suc i)) (λ i. f (suc i)) (λ i. g (suc i)) n (λ i l. ends (suc i) (omega arith)) rest more here.1 in
    (each here.0 after.0, after.1)
  where
    each : P 0 → ((i : ℕ) → i < n → P (suc i)) → (i : ℕ) → i < suc n → P i
    each zero_same others zero l = zero_same
    each zero_same others (suc i) l = others i (omega arith)

-- ---- one array
-- an array's bytes are few enough for numbers of four bytes
pub few_bytes : (cpus : ℕ) (g : ArrayShape) → cpus ≤ 16 → IsArrayShape cpus g → copies cpus g * copy_stride g ≤ 0x1000_0000
few_bytes cpus g few sized = subst (λ (n : ℕ). n ≤ 0x1000_0000) (turned (copy_stride g) (copies cpus g)) (whole_fits cpus g few sized)
  where
    turned : (x y : ℕ) → x * y ≡ y * x
    turned x y = grind arith

module _ (h : Shape) (is : IsShape h) (xs ys : List (List ℕ)) (one : AreArrays h xs) (two : AreArrays h ys) where
  array_told : (a : ℕ) (g : ArrayShape) → IsArray h.arrays a g → Tells (slice_index_or xs a [] ≡ slice_index_or ys a [])
      (array_block h xs a) (array_block h ys a)
  array_told a g there rest more e =
      go g.frozen refl (ap (λ (o : Option ArrayShape). saved_array h a o (slice_index_or xs a []) ++ rest) (sym there) ∙
      (e ∙ ap (λ (o : Option ArrayShape). saved_array h a o (slice_index_or ys a []) ++ more) there))
    where
      go : (b : Bool) → g.frozen ≡ b → saved_array h a (Some g) (slice_index_or xs a []) ++ rest ≡ saved_array h a (Some g)
          (slice_index_or ys a []) ++ more → (slice_index_or xs a [] ≡ slice_index_or ys a []) × (rest ≡ more)
      go true frozen same = (
        filled_one (copy_stride g) (contents_of h a) (copies h.cpus g) (slice_index_or xs a []) (slice_index_or ys a [])
            (((one.each a g there).frozen frozen)) (((two.each a g there).frozen frozen)),
        subst (λ (b : Bool). (if b then [] else changes (first_at h a g) (slice_index_or xs a [])) ++ rest ≡
            (if b then [] else changes (first_at h a g) (slice_index_or ys a [])) ++ more) frozen same,
      )
      go false thawed same =
          let x = slice_index_or xs a [] in
          let y = slice_index_or ys a [] in
          let f = first_at h a g in
          let opened : changes f x ++ rest ≡ changes f y ++ more =
          subst (λ (b : Bool). (if b then [] else changes f x) ++ rest ≡ (if b then [] else changes f y) ++ more) thawed same in
          let few = few_bytes h.cpus g is.cpus.1 (is.arrays a g there).0 in
          let s = (one.each a g there).size in
          let t = (two.each a g there).size in
          changes_told f 0 x y rest more (s ∙ sym t) (omega arith)
          (sym (append_assoc (changes_from f 0 x) (low_bytes 4 0) rest) ∙ (opened ∙ append_assoc (changes_from f 0 y) (low_bytes 4 0) more))

  pub arrays_told : Tells (xs ≡ ys) (saved_arrays h xs) (saved_arrays h ys)
  arrays_told rest more e =
      let none : ArrayShape = record { value = 0; max = 0; per_cpu = false; frozen = false } in
      let r = told_all (λ a. slice_index_or xs a [] ≡ slice_index_or ys a []) (array_block h xs) (array_block h ys) (length h.arrays)
      (λ a l. array_told a _ (slice_get-get_or h.arrays a none l)) rest more e in
      let s = one.count in
      (ext_get_or [] xs ys (one.count ∙ sym two.count) (λ a l. r.0 a (omega arith)), r.1)

-- an array that isn't only read is saved as its changes
pub thawed_saved : {E : Type 0} (h : Shape) (a : ℕ) (g : ArrayShape) → IsArray h.arrays a g → g.frozen ≡ false → (first : List ℕ) → first ≡
    contents_of h a → (stride : ℕ) → stride ≡ copy_stride g
    → (bytes old new : List ℕ) (r : Result (Unit {0}) E) → OnOk r (new ≡ old ++ changes (λ x. slice_index first (x % stride)) bytes) → OnOk
    r (new ≡ old ++ saved_array h a (slice_get h.arrays a) bytes)
thawed_saved h a g there thawed first first_is stride stride_is bytes old new (Err e) pushed = tt
thawed_saved h a g there thawed first first_is stride stride_is bytes old new (Ok u) pushed =
    pushed
    ∙ (ap (λ (f : List ℕ). old ++ changes (λ x. slice_index f (x % stride)) bytes) first_is
    ∙ (ap (λ (s : ℕ). old ++ changes (λ x. slice_index (contents_of h a) (x % s)) bytes) stride_is
    ∙ (ap (λ (b : Bool). old ++ (if b then [] else changes (first_at h a g) bytes)) (sym thawed)
    ∙ ap (λ (o : Option ArrayShape). old ++ saved_array h a o bytes) (sym there))))

pub saved_alike_look_alike : SavedAlikeLookAlike
saved_alike_look_alike p q bytes shape a b =
    let arrays_too : AreArrays p.shape q.arrays = subst (λ (h : Shape). AreArrays h q.arrays) shape.1 b.0.arrays in
    let whole : saved_arrays p.shape p.arrays ++ saving.saved p.maps ≡ saved_arrays p.shape q.arrays ++ saving.saved q.maps =
    sym a.1 ∙ (b.1 ∙ ap (λ (h : Shape). saved_arrays h q.arrays ++ saving.saved q.maps) shape.1) in
    let told = arrays_told p.shape a.0.shape p.arrays q.arrays a.0.arrays arrays_too (saving.saved p.maps) (saving.saved q.maps) whole in
    record {
      shape = shape.1;
      maps = maps_saved.saved_alike_look_alike p.maps q.maps (saving.saved p.maps)
          (shape.0, b.0.maps ∙ (ap (λ (h : Shape). h.maps) shape.1 ∙ sym a.0.maps)) a.2 (b.2.0, told.1 ∙ refl);
      arrays = sym told.0;
    }
