-- Contents that look alike stand for the same plain stores; the normal form looks like what it is of.
use Rattle.std.proofs.Common.{◌≡◌, ℕ, ◌*◌, ◌<◌, Bool, false, List, [], ◌++◌, length, refl, sym, ap, subst, ◌∙◌, arith}
use Rattle.std.specs.Prelude.{nat_lt, slice_index_or}
use Rattle.std.proofs.lemmas.Option.{slice_get-get_or}
use Rattle.bpf_shared.specs.declared.shapes.ArrayShape.{ArrayShape}
use Rattle.bpf_shared.specs.Shape.{Shape, IsArray, copies, copy_stride}
use Rattle.bpf_shared.specs.Store.{IsFixed, array_of, copy_of, index_of}
use Rattle.bpf_hash.specs.HashStore as hash
use Rattle.bpf_hash.specs.Alike as maps
use Rattle.bpf_hash.specs.Private.Saved as saving
use Rattle.bpf_hash.proofs.Alike as maps_alike
use Rattle.bpf_hash.proofs.Normal as maps_normal
use Rattle.bpf_hash.proofs.SavedNormal as maps_saved
use Rattle.bpf_plain.specs.Private.Contents.{Contents, IsStore, bytes_of, value_in}
use Rattle.bpf_plain.specs.Private.Saved.{saved_arrays}
use Rattle.bpf_plain.specs.Alike.{AlikeStandAlike, RestoredLooksAlike}
use Rattle.bpf_plain.specs.Read.{RestoredIsSavedAlike}
use Rattle.bpf_plain.proofs.Lifting.{maps_store}

pub alike_stand_alike : AlikeStandAlike
alike_stand_alike p q s alike shown = record {
  shape = shown.shape ∙ sym alike.shape;
  maps = maps_alike.alike_stand_alike p.maps q.maps s alike.maps shown.maps;
  fixed = λ v f.
      (let k : IsFixed p.shape v = record {
        array = f.array;
        is = subst (λ (h : Shape). IsArray h.arrays (array_of v) f.array) alike.shape f.is;
        copy = subst (λ (h : Shape). copy_of v < copies h.cpus f.array) alike.shape f.copy;
        index = f.index;
      } in
      shown.fixed v k ∙ ap (λ (arrays : List (List ℕ)). value_in (slice_index_or arrays (array_of v) []) f.array (copy_of v) (index_of v)) (sym alike.arrays));
}

-- maps that look alike serve the same CPUs
served_alike : (p q : hash.Contents) → maps.LookAlike p q → hash.has_cpu q ≡ hash.has_cpu p
served_alike p q alike = let below : ℕ → ℕ → Bool = λ n c. nat_lt c n in ap below alike.cpus

pub looks_normal : RestoredLooksAlike
looks_normal p bytes is = record { shape = refl; maps = maps_normal.looks_normal p.maps is.2.0; arrays = refl }

pub normal_saved : RestoredIsSavedAlike
normal_saved p bytes is =
    let alike = maps_normal.looks_normal p.maps is.2.0 in
    let same : saving.saved (hash.normal p.maps) ≡ saving.saved p.maps = maps_saved.saved_normal p.maps is.2.0 in (
      maps_store p (hash.normal p.maps) is.0 alike.maps (served_alike p.maps (hash.normal p.maps) alike),
      is.1 ∙ ap (λ (bs : List ℕ). saved_arrays p.shape p.arrays ++ bs) (sym same),
      (maps_normal.normal_store p.maps is.2.0, refl),
    )

-- arrays of one shape have the same sizes
pub same_sizes : (p q : Contents) → IsStore p → IsStore q → q.shape ≡ p.shape → (a : ℕ) → a < length p.arrays → length (bytes_of q a) ≡ length (bytes_of p a)
same_sizes p q is too same a l =
    let none : ArrayShape = record { value = 0; max = 0; per_cpu = false; frozen = false } in
    let count = is.arrays.count in
    let g = slice_index_or p.shape.arrays a none in
    let there : IsArray p.shape.arrays a g = slice_get-get_or p.shape.arrays a none (omega arith) in
    let here : IsArray q.shape.arrays a g = subst (λ (h : Shape). IsArray h.arrays a g) (sym same) there in
    (too.arrays.each a g here).size ∙ (ap (λ (h : Shape). copies h.cpus g * copy_stride g) same ∙ sym (is.arrays.each a g there).size)
