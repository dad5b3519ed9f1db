-- Lists beside lists: an origin for each new state, a number for each report.
use Rattle.std.proofs.Common.{◌≡◌, ◌∙◌, ◌<◌, ◌≤◌, ◌++◌, ◌∷◌, [], List, ℕ, zero, suc, Some, drop, length, refl, slice_get, ap, subst, sym, arith}
use Rattle.std.proofs.Common.{◌⊎◌, inl, inr, true, false, append-nil, append_assoc, length-append, set}
use Rattle.std.specs.Prelude.{flat_map}
use Rattle.std.proofs.lemmas.Bool.{cases_eq, eq-eqb, ne_eqb}
use Rattle.std.proofs.lemmas.Grind.{flat_map-append}
use Rattle.std.proofs.lemmas.List.{length-set}
use Rattle.std.proofs.lemmas.Option.{slice_get_within}
use Rattle.bpf_names.specs.Names.{Names}
use Rattle.bpf_expand.specs.declared.origin.Origin.{Origin}
use Rattle.bpf_expand.specs.Lines.{end_line}
use Rattle.bpf_expand.specs.Parts.{AreOrigins, ArePaired, EndsWith, LeadsTo, end_lines, in_part, origin_bytes, part_of}
use Rattle.bpf_expand.specs.State.{Host}
use Rattle.bpf_expand.proofs.PartLemmas.{get_set_other, get_set_same, one_in}
use Rattle.bpf_expand.specs.Private.Traced.{AreLater, IsPut}

module _ {A B : Type 0} (R : A → B → Type 0) where
  pub paired_more : (xs : List A) (ys : List B) (x : A) (y : B) → ArePaired R xs ys → R x y → ArePaired R (xs ++ x ∷ []) (ys ++ y ∷ [])
  paired_more [] [] x y pairs one = (one, tt)
  paired_more [] (b ∷ ys) x y pairs one = absurd pairs
  paired_more (a ∷ xs) [] x y pairs one = absurd pairs
  paired_more (a ∷ xs) (b ∷ ys) x y (first, rest) one = (first, paired_more xs ys x y rest one)

  pub paired_length : (xs : List A) (ys : List B) → ArePaired R xs ys → length xs ≡ length ys
  paired_length [] [] pairs = refl
  paired_length [] (b ∷ ys) pairs = absurd pairs
  paired_length (a ∷ xs) [] pairs = absurd pairs
  paired_length (a ∷ xs) (b ∷ ys) (first, rest) = ap suc (paired_length xs ys rest)

  pub paired_at : (xs : List A) (ys : List B) (i : ℕ) (x : A) (y : B) → ArePaired R xs ys → slice_get xs i ≡ Some x → slice_get ys i ≡ Some y → R x y
  paired_at [] [] i x y pairs at there = cc
  paired_at [] (b ∷ ys) i x y pairs at there = absurd pairs
  paired_at (a ∷ xs) [] i x y pairs at there = absurd pairs
  paired_at (a ∷ xs) (b ∷ ys) zero x y (first, rest) at there =
      let one : a ≡ x = cc in
      let other : b ≡ y = cc in
      subst (λ (c : B). R x c) other (subst (λ (c : A). R c b) one first)
  paired_at (a ∷ xs) (b ∷ ys) (suc i) x y (first, rest) at there = paired_at xs ys i x y rest at there

pub drop_more : {A : Type 0} (xs : List A) (n : ℕ) (x : A) → n ≤ length xs → drop n (xs ++ x ∷ []) ≡ drop n xs ++ x ∷ []
drop_more xs zero x within = refl
drop_more [] (suc n) x within = absurd (omega arith)
drop_more (y ∷ xs) (suc n) x within = drop_more xs n x (omega arith)

pub drop_all : {A : Type 0} (xs : List A) (n : ℕ) → n ≡ length xs → drop n xs ≡ []
drop_all [] zero all = refl
drop_all [] (suc n) all = refl
drop_all (x ∷ xs) zero all = absurd (omega arith)
drop_all (x ∷ xs) (suc n) all = drop_all xs n (omega arith)

-- where nothing is after the place yet
later_none : {A B : Type 0} (R : A → B → Type 0) (first : ℕ) (xs : List A) (ys : List B) → xs ≡ [] → first ≡ length ys → AreLater R first xs ys
later_none R first xs ys none all =
    (omega (arith, all), subst (λ (l : List _). ArePaired R l (drop first ys)) (sym none) (subst (ArePaired R []) (sym (drop_all ys first all)) tt))

pub none_traced : (h : Host) (names : Names) (read : List (List ℕ)) (first : ℕ) (origins : List Origin) (known : List (List ℕ)) (numbers : List ℕ)
    (ends : List (List ℕ)) → origins ≡ [] → first ≡ length known → numbers ≡ [] → ends ≡ []
    → AreLater (LeadsTo h read) first origins known × AreLater (EndsWith h names read) 0 numbers ends
none_traced h names read first origins known numbers ends none all unnumbered ended = (
  later_none (LeadsTo h read) first origins known none all,
  later_none (EndsWith h names read) 0 numbers ends unnumbered (sym (ap length ended)),
)

-- what is put in both lists or in none keeps them so
pub put_later : {A B : Type 0} (R : A → B → Type 0) (first : ℕ) (x : A) (y : B) (xs more : List A) (ys new : List B) → IsPut x y xs ys more new → R x y
    → AreLater R first xs ys → AreLater R first more new
put_later R first x y xs more ys new (inl (same, like)) one (within, pairs) =
    subst (λ (l : List _). AreLater R first l new) (sym same) (subst (λ (l : List _). AreLater R first xs l) (sym like) (within, pairs))
put_later R first x y xs more ys new (inr (grown, longer)) one (within, pairs) =
    subst (λ (l : List _). AreLater R first l new) (sym grown) (subst (λ (l : List _). AreLater R first (xs ++ x ∷ []) l) (sym longer) (
      omega (arith, length-append ys (y ∷ [])),
      subst (ArePaired R (xs ++ x ∷ [])) (sym (drop_more ys first y within)) (paired_more R xs (drop first ys) x y pairs one),
    ))

-- one more report is printed
pub ends_more : (ends : List (List ℕ)) (numbers : List ℕ) (report : List ℕ) (number : ℕ) → length numbers ≡ length ends
    → end_lines (ends ++ report ∷ []) (numbers ++ number ∷ []) ≡ end_lines ends numbers ++ end_line report number
ends_more [] [] report number same = append-nil (end_line report number)
ends_more [] (m ∷ numbers) report number same = absurd (omega arith)
ends_more (e ∷ ends) [] report number same = absurd (omega arith)
ends_more (e ∷ ends) (m ∷ numbers) report number same =
    ap (λ (l : List ℕ). end_line e m ++ l) (ends_more ends numbers report number (omega arith))
    ∙ sym (append_assoc (end_line e m) (end_lines ends numbers) (end_line report number))

-- one more origin is in the part of its state, and in no other
pub origins_more : (h : Host) (read : List (List ℕ)) (n : ℕ) (states parts : List (List ℕ)) (state part grown : List ℕ) (origin : Origin) (p : ℕ)
    → AreOrigins h read n states parts → LeadsTo h read origin state → p ≡ part_of n state → p < n → slice_get parts p ≡ Some part
    → grown ≡ part ++ origin_bytes origin → AreOrigins h read n (states ++ state ∷ []) (set parts p grown)
origins_more h read n states parts state part grown origin p are one is within at grows =
    (length-set parts p grown ∙ are.0, λ k less. each k less (cases_eq k p))
  where
    each : (k : ℕ) → k < n → (k ≡ p) ⊎ (k ≡ p → ⊥) → (origins : List Origin)
        × (slice_get (set parts p grown) k ≡ Some (flat_map origin_bytes origins))
        × ArePaired (LeadsTo h read) origins (in_part n k (states ++ state ∷ []))
    each k less (inl same) =
        let a = are.1 k less in
        let here : part_of n state ≡ k = sym is ∙ sym same in
        let there : slice_get parts k ≡ Some part = subst (λ (j : ℕ). slice_get parts j ≡ Some part) (sym same) at in
        let was : Some part ≡ Some (flat_map origin_bytes a.0) = sym there ∙ a.1 in
        let before : part ≡ flat_map origin_bytes a.0 = cc in
        let more : flat_map origin_bytes (a.0 ++ origin ∷ []) ≡ flat_map origin_bytes a.0 ++ origin_bytes origin =
        flat_map-append origin_bytes a.0 (origin ∷ [])
        ∙ ap (λ (l : List ℕ). flat_map origin_bytes a.0 ++ l) (append-nil (origin_bytes origin)) in (
          a.0 ++ origin ∷ [],
          subst (λ (j : ℕ). slice_get (set parts j grown) k ≡ Some grown) same (get_set_same parts k grown (slice_get_within parts k part there))
              ∙ ap (λ (l : List ℕ). Some l) (grows ∙ (ap (λ (l : List ℕ). l ++ origin_bytes origin) before ∙ sym more)),
          subst (ArePaired (LeadsTo h read) (a.0 ++ origin ∷ [])) (sym (one_in n k states state true (eq-eqb (part_of n state) k here)))
              (paired_more (LeadsTo h read) a.0 (in_part n k states) origin state a.2 one),
        )
    each k less (inr other) =
        let a = are.1 k less in
        let away : part_of n state ≡ k → ⊥ = λ e. other (sym (is ∙ e)) in
        let kept : in_part n k (states ++ state ∷ []) ≡ in_part n k states =
        one_in n k states state false (ne_eqb (part_of n state) k away) ∙ append-nil (in_part n k states) in (
          a.0,
          get_set_other parts p k grown other ∙ a.1,
          subst (ArePaired (LeadsTo h read) a.0) (sym kept) a.2,
        )

-- three pieces, one after the other
pub three_more : (a b c d one two three : List ℕ) → one ≡ a ++ b → two ≡ one ++ c → three ≡ two ++ d → three ≡ a ++ (b ++ (c ++ d))
three_more a b c d one two three p q r =
    r ∙ (ap (λ (l : List ℕ). l ++ d) (q ∙ ap (λ (l : List ℕ). l ++ c) p) ∙ (append_assoc (a ++ b) c d ∙ append_assoc a b (c ++ d)))
