-- Tests of some number below a bound.
use Rattle.std.proofs.Common.{◌≡◌, ◌≢◌, ℕ, zero, suc, ◌<◌, Bool, true, false, ◌||◌, inl, inr, refl, ap, sym, ◌∙◌, arith}
use Rattle.bpf_shared.proofs.Puts.{equal_or_not}
use Rattle.bpf_hash.specs.Private.Contents.{any_below}

pub any_below_same : (n : ℕ) (f g : ℕ → Bool) → ((i : ℕ) → i < n → g i ≡ f i) → any_below n g ≡ any_below n f
any_below_same zero f g h = refl
any_below_same (suc n) f g h =
    ap (λ (b : Bool). b || any_below n g) (h n (omega arith)) ∙ ap (λ (b : Bool). f n || b) (any_below_same n f g (λ i l. h i (omega arith)))

pub any_below_none : (n : ℕ) (f : ℕ → Bool) → ((i : ℕ) → i < n → f i ≡ false) → any_below n f ≡ false
any_below_none zero f h = refl
any_below_none (suc n) f h = ap (λ (b : Bool). b || any_below n f) (h n (omega arith)) ∙ any_below_none n f (λ i l. h i (omega arith))

or_nested : (a b r : Bool) → ((a || b) || r) ≡ (a || (b || r))
or_nested true b r = refl
or_nested false b r = refl

or_moved : (a n r : Bool) → (n || (a || r)) ≡ (a || (n || r))
or_moved true true r = refl
or_moved true false r = refl
or_moved false true r = refl
or_moved false false r = refl

-- a test that is true of one number besides
pub any_below_one : (n i : ℕ) (f g : ℕ → Bool) (a : Bool) → i < n → g i ≡ (a || f i) → ((j : ℕ) → j ≢ i → g j ≡ f j) → any_below n g ≡ (a || any_below n f)
any_below_one zero i f g a l here other = absurd (omega arith)
any_below_one (suc n) i f g a l here other = elim (equal_or_not i n) [
  | inl e ↦
      ap (λ (b : Bool). b || any_below n g) (ap g (sym e) ∙ (here ∙ ap (λ (k : ℕ). a || f k) e))
      ∙ (ap (λ (b : Bool). (a || f n) || b) (any_below_same n f g (λ j k. other j (λ q. omega arith))) ∙ or_nested a (f n) (any_below n f))
  | inr ne ↦
      ap (λ (b : Bool). b || any_below n g) (other n (λ q. ne (sym q)))
      ∙ (ap (λ (b : Bool). f n || b) (any_below_one n i f g a (omega arith) here other) ∙ or_moved a (f n) (any_below n f))
]
