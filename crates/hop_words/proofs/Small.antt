-- Keys, and functions of two numbers.
use Rattle.std.proofs.Common.{◌≡◌, ◌≢◌, ℕ, Bool, true, false, true≢false, List, [], ◌∷◌, Option, ◌==◌, if◌then◌else◌, refl, ap, sym, ◌∙◌}
use Rattle.std.proofs.Common.{arith, eq-eqb, ⊎_elim, inl, inr, ◌⊎◌}
use Rattle.std.proofs.lemmas.Bool.Decides.{nat_tests}
use Rattle.std.proofs.lemmas.Bool.{cases_eq, and_parts}
use Rattle.bpf_shared.specs.Store.{put}
use Rattle.bpf_shared.proofs.Puts.{put-same, put-other}
use Rattle.hop_words.specs.Rule.{key_is, put_key}

-- ---- keys
pub key_same : (p q : List ℕ) → key_is p q ≡ true → p ≡ q
key_same [] [] e = refl
key_same [] (y ∷ ys) e = absurd (true≢false (sym e))
key_same (x ∷ xs) [] e = absurd (true≢false (sym e))
key_same (x ∷ xs) (y ∷ ys) e =
    let t = and_parts (x == y) (key_is xs ys) e in
    let h : x ≡ y = (let u = t.0 in grind (arith, nat_tests)) in
    let r = key_same xs ys t.1 in
    λ i. h i ∷ r i

pub key_self : (p : List ℕ) → key_is p p ≡ true
key_self [] = refl
key_self (x ∷ xs) = rw (eq-eqb x x refl, key_self xs) refl

pub key_apart : (p q : List ℕ) → p ≢ q → key_is p q ≡ false
key_apart p q ne = go (key_is p q) refl
  where
    go : (b : Bool) → key_is p q ≡ b → key_is p q ≡ false
    go true e = absurd (ne (key_same p q e))
    go false e = e

pub equal_keys : (p q : List ℕ) → (p ≡ q) ⊎ (p ≢ q)
equal_keys p q = go (key_is p q) refl
  where
    go : (b : Bool) → key_is p q ≡ b → (p ≡ q) ⊎ (p ≢ q)
    go true e = inl (key_same p q e)
    go false e = inr (λ s. true≢false (sym (key_self q) ∙ (ap (λ x. key_is x q) (sym s) ∙ e)))

pub put_key-same : (f : List ℕ → Option ℕ) (key q : List ℕ) (o : Option ℕ) → q ≡ key → put_key f key o q ≡ o
put_key-same f key q o e = ap (λ (b : Bool). if b then o else f q) (ap (λ x. key_is x key) e ∙ key_self key)

pub put_key-other : (f : List ℕ → Option ℕ) (key q : List ℕ) (o : Option ℕ) → q ≢ key → put_key f key o q ≡ f q
put_key-other f key q o ne = ap (λ (b : Bool). if b then o else f q) (key_apart q key ne)

-- ---- functions of two numbers

-- a pair of numbers is this one, or it isn't
pub here_or : (m n i j : ℕ) → ((n ≡ m) × (j ≡ i)) ⊎ ((n ≡ m) → j ≢ i)
here_or m n i j = ⊎_elim
    (λ (e : n ≡ m). ⊎_elim (λ (f : j ≡ i). inl (e, f)) (λ (ne : j ≢ i). inr (λ _. ne)) (cases_eq j i))
    (λ (ne : n ≢ m). inr (λ e. absurd (ne e)))
    (cases_eq n m)

pub put2-same : {A : Type 0} (f : ℕ → ℕ → A) (m i n j : ℕ) (x : A) → n ≡ m → j ≡ i → put f m (put (f m) i x) n j ≡ x
put2-same f m i n j x e d = ap (λ g. g j) (put-same f m n (put (f m) i x) e) ∙ put-same (f m) i j x d

pub put2-other : {A : Type 0} (f : ℕ → ℕ → A) (m i n j : ℕ) (x : A) → (n ≡ m → j ≢ i) → put f m (put (f m) i x) n j ≡ f n j
put2-other f m i n j x ne = ⊎_elim
    (λ (e : n ≡ m). ap (λ g. g j) (put-same f m n (put (f m) i x) e) ∙ (put-other (f m) i j x (ne e) ∙ ap (λ k. f k j) (sym e)))
    (λ (d : n ≢ m). ap (λ g. g j) (put-other f m n (put (f m) i x) d))
    (cases_eq n m)
