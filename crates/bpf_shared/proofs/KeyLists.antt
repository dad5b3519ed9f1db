-- A list of keys after it was sorted.
use Rattle.std.proofs.Common.{◌≡◌, ℕ, zero, suc, ◌<◌, List, [], ◌∷◌, ◌++◌, length, take, drop, get_or, refl, ap, sym, subst, ◌∙◌, arith, Vec}
use Rattle.std.specs.declared.alloc.Global.{Global}
use Rattle.std.specs.List.{Contains}
use Rattle.std.specs.List.Sorted.{IsPermutation, IsSorted}
use Rattle.std.proofs.Math.Seq.{take-append_seam}
use Rattle.std.proofs.lemmas.List.Sorted.{length_permutation, Contains-permutation, IsPermutation-sym}
use Rattle.bpf_shared.specs.declared.shapes.MapShape.{MapShape}
use Rattle.bpf_shared.specs.KeyOrder.{in_order, AreDistinct}
use Rattle.bpf_shared.specs.Private.KeyVectors.{IsKeyList, listed_keys, by_bytes}
use Rattle.bpf_shared.proofs.KeyOrder.{sorted_list}

any_default : {A : Type 0} (xs : List A) (k : ℕ) (c d : A) → k < length xs → get_or xs k c ≡ get_or xs k d
any_default [] k c d l = absurd (omega arith)
any_default (x ∷ xs) zero c d l = refl
any_default (x ∷ xs) (suc k) c d l = any_default xs k c d (omega arith)

module _ (h : MapShape) (n len : ℕ) (vs was ws : List (Vec ℕ Global)) (value : was ≡ vs) (all : len ≡ length vs) (is : IsKeyList h vs n)
    (moved : IsPermutation was ws) where
  now : List (Vec ℕ Global)
  now = take len (ws ++ drop (length ws) vs)

  again : take len (ws ++ drop (length ws) vs) ≡ ws
  again = ap (λ (k : ℕ). take k (ws ++ drop (length ws) vs)) (all ∙ (ap length (sym value) ∙ sym (length_permutation was ws moved))) ∙
      take-append_seam ws (drop (length ws) vs)

  vs_moved : IsPermutation vs ws
  vs_moved = subst (λ (x : List (Vec ℕ Global)). IsPermutation x ws) value moved

  pub kept : IsKeyList h (take len (ws ++ drop (length ws) vs)) n
  kept = subst (λ (x : List (Vec ℕ Global)). IsKeyList h x n) (sym again) (record {
    room = length_permutation vs ws vs_moved ∙ is.room;
    count = is.count;
    sizes = λ i d l.
        let x : Vec ℕ Global = get_or ws i d in
        let c : Contains vs (get_or ws i d) = Contains-permutation ws vs (get_or ws i d) (IsPermutation-sym vs ws vs_moved)
        (i, l, any_default ws i (get_or ws i d) d l) in
        ap (λ (v : Vec ℕ Global). length v.items) (sym c.2) ∙ is.sizes c.0 (get_or ws i d) c.1;
  })

  module _ (front : IsPermutation (take n was) (take n ws)) (sorted : IsSorted by_bytes (take n ws)) (keys : List (List ℕ))
      (viewed : listed_keys vs n ≡ keys) (apart : AreDistinct keys) where
    pub ordered : listed_keys (take len (ws ++ drop (length ws) vs)) n ≡ in_order keys
    ordered =
        ap (λ (x : List (Vec ℕ Global)). listed_keys x n) again
        ∙ (sym (sorted_list (take n vs) (take n ws) (subst (λ (x : List (Vec ℕ Global)). IsPermutation (take n x) (take n ws)) value front)
        sorted (subst AreDistinct (sym viewed) apart))
        ∙ ap in_order viewed)
