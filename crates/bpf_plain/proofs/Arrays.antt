-- The bytes of arrays, read one array after the other.
use Rattle.std.proofs.Common.{◌≡◌, ℕ, suc, ◌+◌, ◌<◌, Bool, true, false, true≢false, if◌then◌else◌, List, [], ◌++◌, length, drop}
use Rattle.std.proofs.Common.{append_assoc, get_or, set, slice_get, slice_index, Option, inl, inr, refl, sym, ap, subst, ◌∙◌, arith}
use Rattle.std.specs.Prelude.{Vec}
use Rattle.std.specs.declared.alloc.Global.{Global}
use Rattle.std.proofs.lemmas.List.{drop-drop}
use Rattle.bpf_base.proofs.Lists.{same_fronts}
use Rattle.bpf_shared.specs.declared.shapes.ArrayShape.{ArrayShape}
use Rattle.bpf_shared.specs.Contents.{bytes_of_all}
use Rattle.bpf_shared.specs.Shape.{Shape, IsArray, contents_of}
use Rattle.bpf_shared.proofs.Puts.{equal_or_not}
use Rattle.bpf_shared.proofs.Fixed.{same_array}
use Rattle.bpf_hash.specs.Private.Saved.{all_below}
use Rattle.bpf_hash.proofs.Blocks.{below_or_same}
use Rattle.bpf_hash.proofs.Normal.{behind}
use Rattle.bpf_plain.specs.Private.Contents.{AreArrays, IsArrayOf, IsAsMade, IsPadded, first_at}
use Rattle.bpf_plain.specs.Private.Changes.{changes}
use Rattle.bpf_plain.specs.Private.Saved.{saved_array, array_block, saved_arrays}
use Rattle.bpf_plain.proofs.Changed.{changes-first}
use Rattle.bpf_plain.proofs.Filling.{filled_at, filled_one}
use Rattle.bpf_plain.proofs.Vectors.{bytes_put, bytes_kept}

module _ (h : Shape) (a : ℕ) (g : ArrayShape) (there : IsArray h.arrays a g) (old : List ℕ) (made : IsAsMade h.cpus g (contents_of h a) old) where
  pub frozen_read : g.frozen ≡ true → (saved : List ℕ) (k : ArrayShape) (xs more : List ℕ) → IsArray h.arrays a k → IsArrayOf h a k xs →
      saved ≡ saved_array h a (slice_get h.arrays a) xs ++ more → (old ≡ xs) × (saved ≡ more)
  frozen_read frozen saved k xs more is of e =
      let of_g : IsArrayOf h a g xs = subst (λ (y : ArrayShape). IsArrayOf h a y xs) (same_array h.arrays a k g is there) of in (
        filled_one _ _ _ old xs made (of_g.frozen frozen),
        e ∙ (ap (λ (o : Option ArrayShape). saved_array h a o xs ++ more) there ∙ ap
            (λ (b : Bool). (if b then [] else changes (first_at h a g) xs) ++ more) frozen),
      )

  pub thawed_read : g.frozen ≡ false → (cpus : ℕ) → cpus ≡ h.cpus → (saved new : List ℕ) (r : ℕ)
      → ((xs more : List ℕ) → length xs ≡ length old → IsPadded cpus g (slice_index old) xs → saved ≡ changes (slice_index old) xs ++ more →
      (new ≡ xs) × (drop r saved ≡ more))
      → (k : ArrayShape) (xs more : List ℕ) → IsArray h.arrays a k → IsArrayOf h a k xs → saved ≡ saved_array h a (slice_get h.arrays a) xs
      ++ more → (new ≡ xs) × (drop r saved ≡ more)
  thawed_read thawed cpus served saved new r read k xs more is of e =
      let of_g : IsArrayOf h a g xs = subst (λ (y : ArrayShape). IsArrayOf h a y xs) (same_array h.arrays a k g is there) of in
      let size : length xs ≡ length old = of_g.size ∙ sym made.size in
      let first : (x : ℕ) → x < length xs → first_at h a g x ≡ slice_index old x = λ x l. sym (filled_at _ _ _ old made x (omega arith)) in
      let opened : saved ≡ changes (first_at h a g) xs ++ more =
      e ∙ (ap (λ (o : Option ArrayShape). saved_array h a o xs ++ more) there ∙ ap
      (λ (b : Bool). (if b then [] else changes (first_at h a g) xs) ++ more) thawed) in
      let padded : IsPadded h.cpus g (slice_index old) xs = λ x l none. of_g.padded x l none ∙ first x l in
      read xs more size (subst (λ (n : ℕ). IsPadded n g (slice_index old) xs) (sym served) padded)
      (opened ∙ ap (λ (bs : List ℕ). (bs ++ Rattle.bpf_base.specs.Bytes.low_bytes 4 0) ++ more)
      (changes-first (first_at h a g) (slice_index old) 0 xs (λ x l m. first x (omega arith))))

  pub thawed_array : g.frozen ≡ false → (cpus : ℕ) → cpus ≡ h.cpus → (new : List ℕ) → length new ≡ length old → IsPadded cpus g
      (slice_index old) new → (k : ArrayShape) → IsArray h.arrays a k → IsArrayOf h a k new
  thawed_array thawed cpus served new size padded k is =
      let here : IsPadded h.cpus g (slice_index old) new = subst (λ (n : ℕ). IsPadded n g (slice_index old) new) served padded in
      subst (λ (y : ArrayShape). IsArrayOf h a y new) (same_array h.arrays a g k there is) (record {
        size = size ∙ made.size;
        frozen = λ frozen. absurd (true≢false (sym frozen ∙ thawed));
        padded = λ x l none. here x l none ∙ filled_at _ _ _ old made x (omega arith);
      })

-- ---- one array more
module _ (h : Shape) (arrays : List (Vec ℕ Global)) (n : ℕ) (v : Vec ℕ Global) (l : n < length arrays) where
  pub one_array : ((k : ArrayShape) → IsArray h.arrays n k → IsArrayOf h n k v.items) →
      ((a : ℕ) (k : ArrayShape) → a < n → IsArray h.arrays a k → IsArrayOf h a k (get_or (bytes_of_all arrays) a []))
      → (a : ℕ) (k : ArrayShape) → a < n + 1 → IsArray h.arrays a k → IsArrayOf h a k (get_or (bytes_of_all (set arrays n v)) a [])
  one_array new done a k below is = elim (equal_or_not a n) [
    | inl e ↦
        let here : get_or (bytes_of_all (set arrays n v)) a [] ≡ v.items = ap (λ (x : ℕ). get_or (bytes_of_all (set arrays n v)) x []) e ∙
        bytes_put arrays n v l in
        subst (IsArrayOf h a k) (sym here) (subst (λ (y : ℕ). IsArrayOf h y k v.items) (sym e) (new k (subst (λ (y : ℕ). IsArray h.arrays y k) e is)))
    | inr ne ↦ subst (IsArrayOf h a k) (sym (bytes_kept arrays n a v ne)) (done a k (below_or_same a n below ne) is)
  ]

  module _ (saved past : List ℕ) (at r : ℕ) (past_is : past ≡ drop at saved) (inside : n < length h.arrays) (others : List (List ℕ)) (more : List ℕ) where
    abbrev f : ℕ → List ℕ
    f = array_block h others

    pub one_read : (g : ArrayShape) → IsArray h.arrays n g → AreArrays h others → saved ≡ saved_arrays h others ++ more
        → ((k : ArrayShape) (xs rest : List ℕ) → IsArray h.arrays n k → IsArrayOf h n k xs → past ≡ saved_array h n (slice_get h.arrays n)
        xs ++ rest → (v.items ≡ xs) × (drop r past ≡ rest))
        → ((a : ℕ) → a < n → get_or (bytes_of_all arrays) a [] ≡ get_or others a []) → saved ≡ all_below f n ++ drop at saved
        → ((a : ℕ) → a < n + 1 → get_or (bytes_of_all (set arrays n v)) a [] ≡ get_or others a []) × (saved ≡ all_below f (n + 1) ++ drop (at + r) saved)
    one_read g there are whole read front before =
        let b = behind f (length h.arrays) n inside in
        let later = b.0 in
        let split : all_below f n ++ drop at saved ≡ all_below f n ++ (f n ++ (later ++ more)) =
        sym before ∙ (whole ∙ (ap (λ (bs : List ℕ). bs ++ more) b.1 ∙
        (append_assoc (all_below f n) (f n ++ later) more ∙ ap (λ (bs : List ℕ). all_below f n ++ bs) (append_assoc (f n) later more)))) in
        let rest : drop at saved ≡ f n ++ (later ++ more) = (same_fronts (all_below f n) (all_below f n) (drop at saved)
        (f n ++ (later ++ more)) refl split).1 in
        let got = read g (get_or others n []) (later ++ more) there (are.each n g there) (past_is ∙ rest) in
        let left : drop (at + r) saved ≡ later ++ more = sym (drop-drop r at saved) ∙ (ap (drop r) (sym past_is) ∙ got.1) in
        let next : suc n ≡ n + 1 = omega arith in (
          λ a below. elim (equal_or_not a n) [
            | inl e ↦ ap (λ (x : ℕ). get_or (bytes_of_all (set arrays n v)) x []) e ∙
                (bytes_put arrays n v l ∙ (got.0 ∙ ap (λ (x : ℕ). get_or others x []) (sym e)))
            | inr ne ↦ bytes_kept arrays n a v ne ∙ front a (below_or_same a n below ne)
          ],
          before ∙ (ap (λ (bs : List ℕ). all_below f n ++ bs) rest ∙
              (sym (append_assoc (all_below f n) (f n) (later ++ more)) ∙
              (ap (λ (bs : List ℕ). all_below f (suc n) ++ bs) (sym left) ∙ ap (λ (k : ℕ). all_below f k ++ drop (at + r) saved) next))),
        )
