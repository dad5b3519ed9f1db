-- What is read from the first of some bytes.
use Rattle.std.proofs.Common.{◌≡◌, ℕ, ◌+◌, ◌≤◌, Option, Some, None, List, ◌++◌, length, length-append, length-drop, take, drop}
use Rattle.std.proofs.Common.{take-append-drop, append_assoc, refl, sym, ap, subst, ◌∙◌, arith}
use Rattle.std.specs.Prelude.{IfSome, IfNone}
use Rattle.std.proofs.lemmas.List.{length-take-le}
use Rattle.bpf_base.proofs.Lists.{same_fronts}
use Rattle.bpf_shared.specs.Shape.{Shape}
use Rattle.bpf_hash.specs.HashStore as hash
use Rattle.bpf_hash.specs.Read as maps_read
use Rattle.bpf_hash.specs.Private.Saved as saving
use Rattle.bpf_hash.proofs.Reading.{take_seam}
use Rattle.bpf_plain.specs.Private.Contents.{Contents, AreArrays, IsStore}
use Rattle.bpf_plain.specs.Private.Saved.{saved, saved_arrays, IsSavedAs}
use Rattle.bpf_plain.specs.Private.Normal.{normal}
use Rattle.bpf_plain.specs.Alike.{IsSameShape}
use Rattle.bpf_plain.specs.Read.{IsSavedFirst, IsRead, SavesNone, ReadingsAreDetermined}
use Rattle.bpf_plain.proofs.Alike.{normal_saved}

module _ (old new : Contents) (bytes : List ℕ) (only : (k : ℕ) (p : Contents) → IsSavedFirst old bytes k p → new ≡ normal p) where
  pub is_read : (n : ℕ) → n ≤ length bytes → IsSameShape new old → IsSavedAs new (take n bytes) → IsRead old bytes n new
  is_read n inside shape is = record {
    inside = inside;
    saved = record { shape = shape; saved = is };
    only = only;
    ends = λ k p first. (normal_saved p (take k bytes) first.saved).1 ∙ (ap saved (sym (only k p first)) ∙ sym is.1);
  }

-- what was read, where something was, and where nothing was
pub read_or_none : (old new : Contents) (bytes : List ℕ) (found : Option ℕ) → IfSome found (λ n. IsRead old bytes n new) → IfNone found (SavesNone old bytes)
    → (k : ℕ) (p : Contents) → IsSavedFirst old bytes k p → new ≡ normal p
read_or_none old kept bytes (Some n) read none k p first = read.only k p first
read_or_none old kept bytes None read none k p first = absurd (none k p first)

-- both are the normal form of either
pub one_reading : ReadingsAreDetermined
one_reading old kept other bytes n k one two =
    let same = ap (λ (bs : List ℕ). length bs) (one.ends k other two.saved) in
    let first = length-take-le n bytes one.inside in
    let second = length-take-le k bytes two.inside in
    (omega (arith, same, first, second), two.only k other two.saved ∙ sym (one.only k other two.saved))

-- ---- arrays that were read, and maps that are read after them
module _ (old : Contents) (is : IsStore old) (arrays : List (List ℕ)) (bytes : List ℕ) (those : AreArrays old.shape arrays)
    (read : (others : List (List ℕ)) (more : List ℕ) → AreArrays old.shape others → bytes ≡ saved_arrays old.shape others ++ more → arrays ≡ others) where
  module _ (k : ℕ) (p : Contents) (first : IsSavedFirst old bytes k p) where
    whole : bytes ≡ saved_arrays old.shape p.arrays ++ (saving.saved p.maps ++ drop k bytes)
    whole =
        sym (take-append-drop k bytes)
        ∙ (ap (λ (bs : List ℕ). bs ++ drop k bytes) (first.saved.1 ∙ ap (λ (h : Shape). saved_arrays h p.arrays ++ saving.saved p.maps) (sym first.shape.1))
        ∙ append_assoc (saved_arrays old.shape p.arrays) (saving.saved p.maps) (drop k bytes))

    pub same_arrays : arrays ≡ p.arrays
    same_arrays = read p.arrays (saving.saved p.maps ++ drop k bytes)
        (subst (λ (h : Shape). AreArrays h p.arrays) (sym first.shape.1) first.saved.0.arrays) whole

    pub begins_so : bytes ≡ saved_arrays old.shape arrays ++ (saving.saved p.maps ++ drop k bytes)
    begins_so = whole ∙ ap (λ (others : List (List ℕ)). saved_arrays old.shape others ++ (saving.saved p.maps ++ drop k bytes)) (sym same_arrays)

  pub no_arrays : ((more : List ℕ) → bytes ≡ saved_arrays old.shape arrays ++ more → ⊥) → SavesNone old bytes
  no_arrays none k p first = none (saving.saved p.maps ++ drop k bytes) (begins_so k p first)

  module _ (count : ℕ) (inside : count ≤ length bytes) (front : take count bytes ≡ saved_arrays old.shape arrays) (rest : List ℕ)
      (rest_is : rest ≡ drop count bytes) where
    first_maps : (k : ℕ) (p : Contents) → IsSavedFirst old bytes k p → maps_read.IsSavedFirst old.maps rest (length (saving.saved p.maps)) p.maps
    first_maps k p first =
        let split : saved_arrays old.shape arrays ++ rest ≡ saved_arrays old.shape arrays ++ (saving.saved p.maps ++ drop k bytes) =
        ap (λ (bs : List ℕ). bs ++ rest) (sym front) ∙ (ap (λ (bs : List ℕ). take count bytes ++ bs) rest_is ∙
        (take-append-drop count bytes ∙ begins_so k p first)) in
        let here : rest ≡ saving.saved p.maps ++ drop k bytes = (same_fronts (saved_arrays old.shape arrays) (saved_arrays old.shape arrays)
        rest (saving.saved p.maps ++ drop k bytes) refl split).1 in
        record {
          shape = (first.shape.0, is.maps ∙ (ap (λ (h : Shape). h.maps) first.shape.1 ∙ sym first.saved.0.maps));
          saved = (
            first.saved.2.0,
            ap (take (length (saving.saved p.maps))) here ∙ take_seam (saving.saved p.maps) (drop k bytes)
                (length (saving.saved p.maps)) refl,
          );
        }

    pub no_maps : maps_read.SavesNone old.maps rest → SavesNone old bytes
    no_maps none k p first = none (length (saving.saved p.maps)) p.maps (first_maps k p first)

    module _ (maps : hash.Contents) (n : ℕ) (r : maps_read.IsRead old.maps rest n maps) where
      abbrev new : Contents
      new = record { shape = old.shape; maps = maps; arrays = arrays }

      pub new_store : IsStore new
      new_store = record {
        shape = is.shape;
        maps = sym r.saved.shape.1 ∙ is.maps;
        cpus = λ c. sym (r.saved.shape.0 c) ∙ is.cpus c;
        arrays = those;
      }

      only : (k : ℕ) (p : Contents) → IsSavedFirst old bytes k p → ◌≡◌ {A = Contents} new (normal p)
      only k p first =
          let shape = first.shape.1 in
          let stores = r.only (length (saving.saved p.maps)) p.maps (first_maps k p first) in
          let bytes_same = same_arrays k p first in
          λ j. record { shape = shape j; maps = stores j; arrays = bytes_same j }

      saved_so : take (count + n) bytes ≡ saved new
      saved_so =
          let one : take count bytes ++ (take n rest ++ drop n rest) ≡ bytes =
          ap (λ (bs : List ℕ). take count bytes ++ bs) (take-append-drop n rest ∙ rest_is) ∙ take-append-drop count bytes in
          let two : bytes ≡ (saved_arrays old.shape arrays ++ saving.saved maps) ++ drop n rest =
          sym one
          ∙ (ap (λ (bs : List ℕ). bs ++ (take n rest ++ drop n rest)) front
          ∙ (ap (λ (bs : List ℕ). saved_arrays old.shape arrays ++ (bs ++ drop n rest)) r.saved.saved.1 ∙ sym
          (append_assoc (saved_arrays old.shape arrays) (saving.saved maps) (drop n rest)))) in
          let size : count + n ≡ length (saved_arrays old.shape arrays ++ saving.saved maps) =
          (let a = length-take-le count bytes inside in
          let b = length-take-le n rest r.inside in
          let c = ap (λ (bs : List ℕ). length bs) front in
          let d = ap (λ (bs : List ℕ). length bs) r.saved.saved.1 in
          let e = length-append (saved_arrays old.shape arrays) (saving.saved maps) in
          omega (arith, a, b, c, d, e)) in
          ap (take (count + n)) two ∙ take_seam (saved_arrays old.shape arrays ++ saving.saved maps) (drop n rest) (count + n) size

      pub all_inside : count + n ≤ length bytes
      all_inside =
          let a = r.inside in
          let b = ap (λ (bs : List ℕ). length bs) rest_is in
          let c = length-drop count bytes in
          omega (arith, a, b, c)

      pub both_read : IsRead old bytes (count + n) new
      both_read = is_read old new bytes only (count + n) all_inside (r.saved.shape.0, refl) (new_store, saved_so, (r.saved.saved.0, refl))
