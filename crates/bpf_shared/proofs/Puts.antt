-- Functions changed at one place, and maps changed at one key.
use Rattle.std.proofs.Common.{◌≡◌, ◌≢◌, ℕ, Bool, true, false, cond, List, Some, None, ◌⊎◌, inl, inr, ◌==◌, if◌then◌else◌, refl, sym, ap}
use Rattle.std.proofs.Common.{◌∙◌, arith, eq-eqb, ne_eqb}
use Rattle.std.proofs.lemmas.Bool.Decides.{nat_tests}
use Rattle.std.specs.declared.cmp.Ordering.{Ordering}
use Rattle.std.specs.declared.cmp.Ordering.TheVariants.{Less, Equal, Greater}
use Rattle.std.specs.Ordering.{nat_cmp, eq_by_cmp, is_eq}
use Rattle.std.specs.Cmp.{tied_itself}
use Rattle.std.specs.Cmp.Lexicographic.{slice_cmp}
use Rattle.std.proofs.lemmas.Cmp.{nat_list_cmp_total}
use Rattle.std.proofs.lemmas.Map.Lookups.{exact_bytes}
use Rattle.std.specs.FinMap.{get, insert, remove, get-insert, get-remove}
use Rattle.bpf_shared.specs.Store.{KeyMap, put}

pub true_or_false : (b : Bool) → (b ≡ true) ⊎ (b ≡ false)
true_or_false true = inl refl
true_or_false false = inr refl

pub equal_or_not : (i j : ℕ) → (i ≡ j) ⊎ (i ≢ j)
equal_or_not i j = elim (true_or_false (i == j)) [
  | inl h ↦ inl (grind (arith, nat_tests))
  | inr h ↦ inr (λ e. let k : (i == j) ≡ true = eq-eqb i j e in cc)
]

-- ---- functions
pub put-same : {A : Type 0} (f : ℕ → A) (i j : ℕ) (x : A) → j ≡ i → put f i x j ≡ x
put-same f i j x e = ap (λ (b : Bool). if b then x else f j) (eq-eqb j i e)

pub put-other : {A : Type 0} (f : ℕ → A) (i j : ℕ) (x : A) → j ≢ i → put f i x j ≡ f j
put-other f i j x ne = ap (λ (b : Bool). if b then x else f j) (ne_eqb j i ne)

pub put_cases : {A : Type 0} (f : ℕ → A) (i j : ℕ) (x : A) → ((j ≡ i) × (put f i x j ≡ x)) ⊎ ((j ≢ i) × (put f i x j ≡ f j))
put_cases f i j x = elim (equal_or_not j i) [ inl e ↦ inl (e, put-same f i j x e) | inr ne ↦ inr (ne, put-other f i j x ne) ]

-- a test of two numbers that is true of a pair besides
pub put_pair : (f : ℕ → ℕ → Bool) (c v d w : ℕ) → put f c (put (f c) v true) d w ≡ true → ((d ≡ c) × (w ≡ v)) ⊎ (f d w ≡ true)
put_pair f c v d w h = elim (put_cases f c d (put (f c) v true)) [
  | inr k ↦ inr (sym (ap (λ (g : ℕ → Bool). g w) k.1) ∙ h)
  | inl k ↦ elim (put_cases (f c) v w true) [
    | inl l ↦ inl (k.0, l.0)
    | inr l ↦ inr (ap (λ (x : ℕ). f x w) k.0 ∙ (sym l.1 ∙ (sym (ap (λ (g : ℕ → Bool). g w) k.1) ∙ h)))
  ]
]

pub put_pair-old : (f : ℕ → ℕ → Bool) (c v d w : ℕ) → f d w ≡ true → put f c (put (f c) v true) d w ≡ true
put_pair-old f c v d w h = elim (put_cases f c d (put (f c) v true)) [
  | inr k ↦ ap (λ (g : ℕ → Bool). g w) k.1 ∙ h
  | inl k ↦ ap (λ (g : ℕ → Bool). g w) k.1 ∙ elim (put_cases (f c) v w true) [
    | inl l ↦ l.1
    | inr l ↦ l.1 ∙ (ap (λ (x : ℕ). f x w) (sym k.0) ∙ h)
  ]
]

pub put_pair-new : (f : ℕ → ℕ → Bool) (c v : ℕ) → put f c (put (f c) v true) c v ≡ true
put_pair-new f c v = ap (λ (g : ℕ → Bool). g v) (put-same f c c (put (f c) v true) refl) ∙ put-same (f c) v v true refl

-- ---- keys
is_equal : (o : Ordering) → is_eq o ≡ true → o ≡ Equal
is_equal Less h = cc
is_equal Equal h = refl
is_equal Greater h = cc

pub same_key : (p q : List ℕ) → eq_by_cmp (slice_cmp nat_cmp) p q ≡ true → p ≡ q
same_key p q h = exact_bytes p q (is_equal (slice_cmp nat_cmp p q) h)

pub insert_cases : (k : KeyMap) (key : List ℕ) (n : ℕ) (q : List ℕ) → ((q ≡ key) × (get (insert k key n) q ≡ Some n)) ⊎ (get (insert k key n) q ≡ get k q)
insert_cases k key n q =
    let g = get-insert nat_list_cmp_total k key n q in
    elim (true_or_false (eq_by_cmp (slice_cmp nat_cmp) q key)) [
      | inl h ↦ inl (same_key q key h, g ∙ ap (λ (b : Bool). cond b (Some n) (get k q)) h)
      | inr h ↦ inr (g ∙ ap (λ (b : Bool). cond b (Some n) (get k q)) h)
    ]

pub remove_cases : (k : KeyMap) (key : List ℕ) (q : List ℕ) → ((q ≡ key) × (get (remove k key) q ≡ None)) ⊎ (get (remove k key) q ≡ get k q)
remove_cases k key q =
    let g = get-remove nat_list_cmp_total k key q in
    elim (true_or_false (eq_by_cmp (slice_cmp nat_cmp) q key)) [
      | inl h ↦ inl (same_key q key h, g ∙ ap (λ (b : Bool). cond b None (get k q)) h)
      | inr h ↦ inr (g ∙ ap (λ (b : Bool). cond b None (get k q)) h)
    ]

pub gone_key : (k : KeyMap) (key : List ℕ) → get (remove k key) key ≡ None
gone_key k key = get-remove nat_list_cmp_total k key key ∙ ap (λ (b : Bool). cond b None (get k key)) (itself key)
  where
    itself : (q : List ℕ) → eq_by_cmp (slice_cmp nat_cmp) q q ≡ true
    itself q = ap is_eq (tied_itself nat_list_cmp_total q)
