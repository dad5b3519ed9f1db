-- Searches of one input that both found all outcomes print the same of them, in the same order.
use Rattle.std.proofs.Common.{◌≡◌, ◌∙◌, ℕ, zero, suc, ◌<◌, Bool, true, List, [], ◌∷◌, Some, Ok, inl, inr, ◌⊎◌, map, refl, sym, ap, subst, arith}
use Rattle.std.specs.Prelude.{slice_get, ◌||◌}
use Rattle.std.specs.List.{list_any}
use Rattle.std.specs.declared.cmp.Ordering.TheVariants.{Less, Equal}
use Rattle.std.specs.Ordering.{nat_cmp}
use Rattle.std.specs.Cmp.Lexicographic.{slice_cmp, nat_list_cmp_total}
use Rattle.std.proofs.lemmas.Cmp.{tied_itself}
use Rattle.bpf_names.specs.Names.{Names}
use Rattle.bpf_machine.specs.Schedule.{World, unrolled}
use Rattle.bpf_file.specs.File.{File}
use Rattle.bpf_file.specs.Laws.{FilesAreDetermined}
use Rattle.bpf_explore.specs.Outcomes.{Found, IsExplored, IsTold}
use Rattle.bpf_replies.specs.Exploring.{any_stopped_of, told_of}
use Rattle.bpf_replies.specs.Laws.{OutcomesAreDetermined}
use Rattle.bpf_replies.specs.Script.{first_world_of}

never_both : (x y : List ℕ) → slice_cmp nat_cmp x y ≡ Less → slice_cmp nat_cmp y x ≡ Less → ⊥
never_both x y a b =
    let less : slice_cmp nat_cmp x x ≡ Less = nat_list_cmp_total.trans x y x a b in
    let equal : slice_cmp nat_cmp x x ≡ Equal = tied_itself nat_list_cmp_total x in
    let both : Less ≡ Equal = sym less ∙ equal in
    cc

never_less : (x y : List ℕ) → x ≡ y → slice_cmp nat_cmp x y ≡ Less → ⊥
never_less x y same less =
    never_both x x (subst (λ (t : List ℕ). slice_cmp nat_cmp x t ≡ Less) (sym same) less)
    (subst (λ (t : List ℕ). slice_cmp nat_cmp x t ≡ Less) (sym same) less)

abbrev AreSorted : List Found → Type 0
AreSorted xs = (i j : ℕ) (found later : Found) → i < j → slice_get xs i ≡ Some found
    → slice_get xs j ≡ Some later → slice_cmp nat_cmp found.text later.text ≡ Less

-- what each of these prints, one of those prints
abbrev AreTold : List Found → List Found → Type 0
AreTold xs ys = (i : ℕ) (found : Found) → slice_get xs i ≡ Some found
    → IsTold ys found.text found.stopped

tail_sorted : (x : Found) (xs : List Found) → AreSorted (x ∷ xs) → AreSorted xs
tail_sorted x xs sorted i j found later less a b =
    sorted (suc i) (suc j) found later (omega arith) a b

-- the first answer has this text, or one after it has, whose text is greater
first_or_behind : (y : Found) (ys : List Found) (text : List ℕ) (stopped : Bool) → AreSorted (y ∷ ys)
    → (i : ℕ) (found : Found) → slice_get (y ∷ ys) i ≡ Some found → found.text ≡ text
    → found.stopped ≡ stopped
    → (told_of y ≡ (text, stopped)) ⊎ (IsTold ys text stopped × (slice_cmp nat_cmp y.text text ≡ Less))
first_or_behind y ys text stopped sorted zero found at same halted =
    let one : y ≡ found = cc in
    let first : told_of y ≡ told_of found = ap told_of one in
    inl (first ∙ ap (λ (t : List ℕ). (t, found.stopped)) same ∙ ap (λ (b : Bool). (text, b)) halted)
first_or_behind y ys text stopped sorted (suc i) found at same halted =
    inr ((i, found, at, same, halted), subst (λ (t : List ℕ). slice_cmp nat_cmp y.text t ≡ Less) same (sorted 0 (suc i) y found (omega arith) refl at))

split : (y : Found) (ys : List Found) (text : List ℕ) (stopped : Bool) → AreSorted (y ∷ ys)
    → IsTold (y ∷ ys) text stopped
    → (told_of y ≡ (text, stopped)) ⊎ (IsTold ys text stopped × (slice_cmp nat_cmp y.text text ≡ Less))
split y ys text stopped sorted told =
    first_or_behind y ys text stopped sorted told.0 told.1 told.2 told.3 told.4

same_first : (x y : Found) (xs ys : List Found) → AreSorted (x ∷ xs) → AreSorted (y ∷ ys)
    → IsTold (y ∷ ys) x.text x.stopped → IsTold (x ∷ xs) y.text y.stopped → told_of x ≡ told_of y
same_first x y xs ys s t a b = elim (split y ys x.text x.stopped t a) [
  | inl same ↦ sym same
  | inr behind ↦ elim (split x xs y.text y.stopped s b) [
    | inl same ↦ same
    | inr back ↦ absurd (never_both x.text y.text back.1 behind.1)
  ]
]

tail_told : (x y : Found) (xs ys : List Found) → AreSorted (x ∷ xs) → AreSorted (y ∷ ys)
    → x.text ≡ y.text → AreTold (x ∷ xs) (y ∷ ys) → AreTold xs ys
tail_told x y xs ys s t same all i found at = elim (split y ys found.text found.stopped t (all (suc i) found at)) [
  | inl first ↦
      let text : y.text ≡ found.text = ap (λ (p : List ℕ × Bool). p.0) first in
      absurd (never_less x.text found.text (same ∙ text) (s 0 (suc i) x found (omega arith) refl at))
  | inr behind ↦ behind.0
]

same_told : (xs ys : List Found) → AreSorted xs → AreSorted ys → AreTold xs ys → AreTold ys xs
    → map told_of xs ≡ map told_of ys
same_told [] [] s t a b = refl
same_told [] (y ∷ ys) s t a b = let h = b 0 y refl in let none = h.2 in absurd cc
same_told (x ∷ xs) [] s t a b = let h = a 0 x refl in let none = h.2 in absurd cc
same_told (x ∷ xs) (y ∷ ys) s t a b =
    let first = same_first x y xs ys s t (a 0 x refl) (b 0 y refl) in
    let text : x.text ≡ y.text = ap (λ (p : List ℕ × Bool). p.0) first in
    let rest = same_told xs ys (tail_sorted x xs s) (tail_sorted y ys t) (tail_told x y xs ys s t text a) (tail_told y x ys xs t s (sym text) b) in
    ap (λ (p : List ℕ × Bool). p ∷ map told_of xs) first ∙ ap (λ (ps : List (List ℕ × Bool)). told_of y ∷ ps) rest

stopped_told : (xs : List Found) → any_stopped_of xs ≡ list_any (λ (p : List ℕ × Bool). p.1) (map told_of xs)
stopped_told [] = refl
stopped_told (x ∷ xs) = ap (λ (b : Bool). x.stopped || b) (stopped_told xs)

-- what one search prints, the other prints
all_told : (w : World) (names : Names) (xs ys : List Found) (cut short : Bool) (limit states more others : ℕ)
    → IsExplored w names true xs true cut limit states → IsExplored w names true ys true short more others
    → AreTold xs ys
all_told w names xs ys cut short limit states more others a b i found at =
    b.complete refl found.text found.stopped (unrolled found.by, a.outcomes.each i found at)

pub outcomes_are_determined : FilesAreDetermined → OutcomesAreDetermined
outcomes_are_determined files text xs ys limit states more others a b =
    let both : Ok a.0 ≡ Ok b.0 = files text (Ok a.0) (Ok b.0) a.1 b.1 in
    let same : a.0 ≡ b.0 = cc in
    let w = first_world_of a.0 in
    let names = a.0.names in
    let other = subst (λ (f : File). IsExplored (first_world_of f) f.names true ys true b.2 more others) (sym same) b.3 in
    let told = same_told xs ys a.3.outcomes.sorted other.outcomes.sorted (all_told w names xs ys a.2 b.2 limit states more others a.3 other)
    (all_told w names ys xs b.2 a.2 more others limit states other a.3) in
    (told, stopped_told xs ∙ ap (list_any (λ (p : List ℕ × Bool). p.1)) told ∙ sym (stopped_told ys))
