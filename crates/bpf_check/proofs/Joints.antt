-- The parts between words of a kind.
use Rattle.std.proofs.Common.{◌≡◌, ℕ, ◌+◌, ◌-◌, ◌<◌, ◌≤◌, Bool, true, false, cond, not, List, [], ◌∷◌, ◌++◌, Option, Some, None, length}
use Rattle.std.proofs.Common.{map, take, drop, refl, sym, ap, subst, ◌∙◌, append_assoc, arith, inl, inr, ◌⊎◌, leb}
use Rattle.std.specs.Prelude.{option_and_then, option_map}
use Rattle.std.specs.List.{onto_first, position_or_len, prefix_len, slice_split}
use Rattle.std.proofs.lemmas.List.{drop-map, length-drop, length-map, take-map, take_all}
use Rattle.std.proofs.lemmas.Bool.Decides.{leb_tells}
use Rattle.std.proofs.lemmas.List.Splits.{slice_split-cons_no, slice_split_first}
use Rattle.bpf_check.specs.Claim.{Part}
use Rattle.bpf_check.specs.Parts.{all_parts, is_joint, part_in, parts_in}
use Rattle.bpf_check.specs.Private.Joints.{PushesParts}
use Rattle.bpf_check.specs.Subjects.{Subjects}

-- ---- a list without the element at which it would be cut
module _ {X : Type 0} (p : X → Bool) where
  here : (x : X) (xs : List X) → p x ≡ true → position_or_len p (x ∷ xs) ≡ 0
  here x xs e = ap (λ b. cond (not b) (1 + prefix_len (λ y. not (p y)) xs) 0) e

  later : (x : X) (xs : List X) → p x ≡ false → position_or_len p (x ∷ xs) ≡ 1 + position_or_len p xs
  later x xs e = ap (λ b. cond (not b) (1 + prefix_len (λ y. not (p y)) xs) 0) e

  by_test : (x : X) (xs : List X) (passes : Bool) → p x ≡ passes → length (x ∷ xs) ≤ position_or_len p (x ∷ xs)
      → (length xs ≤ position_or_len p xs → slice_split p xs ≡ xs ∷ []) → slice_split p (x ∷ xs) ≡ (x ∷ xs) ∷ []
  by_test x xs true e all more = let none = here x xs e in absurd (omega (arith, all, none))
  by_test x xs false e all more =
      let one = later x xs e in slice_split-cons_no p x xs e ∙ ap (onto_first x) (more (omega (arith, all, one)))

  pub uncut : (xs : List X) → length xs ≤ position_or_len p xs → slice_split p xs ≡ xs ∷ []
  uncut [] all = refl
  uncut (x ∷ xs) all = by_test x xs (p x) refl all (uncut xs)

-- ---- parts, of words that f reads
module _ {A : Type 0} (f : A → List ℕ) (s : Subjects) (joint : List ℕ) (words : List A) (n : ℕ)
    (is : n ≡ position_or_len (is_joint joint) (map f words)) where
  abbrev ws : List (List ℕ)
  ws = map f words

  abbrev split : List (List ℕ) → List (List (List ℕ))
  split xs = slice_split (is_joint joint) xs

  first_is : map f (take n words) ≡ take n ws
  first_is = sym (take-map f n words)

  rest_is : map f (drop (n + 1) words) ≡ drop (n + 1) ws
  rest_is = sym (drop-map f (n + 1) words)

  split_first : n < length words → split ws ≡ map f (take n words) ∷ split (map f (drop (n + 1) words))
  split_first inside =
      let same = length-map words f in
      subst (λ k. split ws ≡ take k ws ∷ split (drop (k + 1) ws)) (sym is) (slice_split_first (is_joint joint) ws [] (omega (arith, inside, is, same)))
      ∙ (ap (λ x. x ∷ split (drop (n + 1) ws)) (sym first_is) ∙ ap (λ x. map f (take n words) ∷ split x) (sym rest_is))

  split_last : length words ≤ n → split ws ≡ map f (take n words) ∷ []
  split_last all =
      let same = length-map words f in
      uncut (is_joint joint) ws (omega (arith, all, is, same)) ∙ ap (λ x. x ∷ []) (sym (first_is ∙ take_all n ws (omega (arith, all, same))))

  none_by : ((leb (length words) n ≡ true) × (length words ≤ n)) ⊎ ((leb (length words) n ≡ false) × (n < length words))
      → None ≡ part_in s (map f (take n words)) → parts_in s joint ws ≡ None
  none_by (inl last) none =
      ap (all_parts s) (split_last last.1) ∙ ap (λ o. option_and_then (λ p. option_map (λ ps. p ∷ ps) (Some [])) o) (sym none)
  none_by (inr inside) none =
      ap (all_parts s) (split_first inside.1) ∙ ap (λ o. option_and_then
      (λ p. option_map (λ ps. p ∷ ps) (parts_in s joint (map f (drop (n + 1) words)))) o) (sym none)

  -- the first is none
  pub none_first : None ≡ part_in s (map f (take n words)) → parts_in s joint ws ≡ None
  none_first none = none_by (leb_tells (length words) n) none

  -- it is one, and the last
  pub one_last : (old : List Part) (part : Part) (new : List Part) → length words ≤ n → Some part ≡ part_in s (map f (take n words))
      → new ≡ old ++ (part ∷ []) → PushesParts s joint ws old true new
  one_last old part new all one more = (
    part ∷ [],
    ap (all_parts s) (split_last all) ∙ ap (λ o. option_and_then (λ p. option_map (λ ps. p ∷ ps) (Some [])) o) (sym one),
    more,
  )

  with_first : (part : Part) (others : Option (List Part)) → n < length words → Some part ≡ part_in s (map f (take n words))
      → parts_in s joint (map f (drop (n + 1) words)) ≡ others → parts_in s joint ws ≡ option_map (λ ps. part ∷ ps) others
  with_first part others inside one rest =
      ap (all_parts s) (split_first inside)
      ∙ (ap (λ o. option_and_then (λ p. option_map (λ ps. p ∷ ps) (parts_in s joint (map f (drop (n + 1) words)))) o) (sym one)
      ∙ ap (option_map (λ ps. part ∷ ps)) rest)

  abbrev others : List A
  others = take (length words - (n + 1)) (drop (n + 1) words)

  others_are : others ≡ drop (n + 1) words
  others_are = let left = length-drop (n + 1) words in take_all (length words - (n + 1)) (drop (n + 1) words) (omega (arith, left))

  follow : (old : List Part) (part : Part) (mid : List Part) (all : Bool) (new : List Part) → n < length words
      → Some part ≡ part_in s (map f (take n words)) → mid ≡ old ++ (part ∷ [])
      → PushesParts s joint (map f (drop (n + 1) words)) mid all new → PushesParts s joint ws old all new
  follow old part mid true new inside one more (parts, rest, is_all) = (
    part ∷ parts,
    with_first part (Some parts) inside one rest,
    is_all ∙ (ap (λ xs. xs ++ parts) more ∙ append_assoc old (part ∷ []) parts),
  )
  follow old part mid false new inside one more rest = with_first part None inside one rest

  -- it is one, and others follow
  pub one_more : (old : List Part) (part : Part) (mid : List Part) (all : Bool) (new : List Part) → n < length words
      → Some part ≡ part_in s (map f (take n words)) → mid ≡ old ++ (part ∷ [])
      → PushesParts s joint (map f others) mid all new → PushesParts s joint ws old all new
  one_more old part mid all new inside one more rest =
      follow old part mid all new inside one more (subst (λ xs. PushesParts s joint (map f xs) mid all new) others_are rest)
