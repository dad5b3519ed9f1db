-- Lists of bytes with a part replaced.
use Rattle.std.proofs.Common.{◌≡◌, ℕ, ◌+◌, ◌-◌, ◌<◌, ◌≤◌, List, ◌++◌, length, take, drop, sym, ap, ◌∙◌, arith, ◌⊎◌, inl, inr, length-append}
use Rattle.std.proofs.Common.{length-drop, append_assoc}
use Rattle.std.proofs.Math.Seq.{take-append_seam, drop-append_seam}
use Rattle.std.specs.Prelude.{slice_get}
use Rattle.std.proofs.lemmas.List.{length-take-le}
use Rattle.bpf_base.specs.Bytes.{part, with_part}
use Rattle.bpf_base.proofs.Lists.{slice_get-append, slice_get-front, slice_get-drop, slice_get-take}

module _ (list : List ℕ) (i : ℕ) (others : List ℕ) (h : i + length others ≤ length list) where
  rest : List ℕ
  rest = drop (i + length others) list

  front : length (take i list) ≡ i
  front = length-take-le i list (omega arith)

  both : length (take i list ++ others) ≡ length (take i list) + length others
  both = length-append (take i list) others

  pub length-with_part : length (with_part list i others) ≡ length list
  length-with_part =
      omega (
        arith,
        front,
        length-append (take i list ++ others) (drop (i + length others) list),
        length-append (take i list) others,
        length-drop (i + length others) list,
      )

  -- what was put in
  pub part-with_part : part (with_part list i others) i (length others) ≡ others
  part-with_part =
      let regrouped : with_part list i others ≡ take i list ++ (others ++ drop (i + length others) list) = append_assoc (take i list) others
      (drop (i + length others) list) in
      let dropped : drop i (take i list ++ (others ++ drop (i + length others) list)) ≡ others ++ drop (i + length others) list =
      ap (λ n. drop n (take i list ++ (others ++ drop (i + length others) list))) (sym front) ∙ drop-append_seam (take i list)
      (others ++ drop (i + length others) list) in
      ap (λ xs. take (length others) (drop i xs)) regrouped ∙ ap (take (length others)) dropped ∙ take-append_seam others (drop (i + length others) list)

  -- what stays before it, and after it
  pub slice_get-before_part : (k : ℕ) → k < i → slice_get (with_part list i others) k ≡ slice_get list k
  slice_get-before_part k below =
      slice_get-front (take i list ++ others) (drop (i + length others) list) k (omega (arith, front, both))
      ∙ slice_get-front (take i list) others k (omega (arith, front)) ∙ slice_get-take i list k below

  pub slice_get-behind_part : (k : ℕ) → i + length others ≤ k → slice_get (with_part list i others) k ≡ slice_get list k
  slice_get-behind_part k above =
      slice_get-append (take i list ++ others) (drop (i + length others) list) (k - (i + length others)) k (omega (arith, front, both))
      ∙ slice_get-drop (i + length others) list (k - (i + length others)) k (omega arith)

  pub slice_get-with_part : (k : ℕ) → (k < i) ⊎ (i + length others ≤ k) → slice_get (with_part list i others) k ≡ slice_get list k
  slice_get-with_part k outside = elim outside [ inl below ↦ slice_get-before_part k below | inr above ↦ slice_get-behind_part k above ]
