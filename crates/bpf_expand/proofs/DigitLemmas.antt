-- Hex digits by a table.
use Rattle.std.proofs.Common.{◌≡◌, ◌<◌, ◌+◌, ◌*◌, ℕ, zero, suc, true, List, Option, Some, None, Ok, Err, refl, sym, ap, subst, slice_index}
use Rattle.std.proofs.Common.{inl, inr, ◌≤◌, ◌∙◌, arith}
use Rattle.std.proofs.lemmas.Bool.{and_parts, cases_lt, eqb-true}
use Rattle.std.proofs.lemmas.Bool.Decides.{nat_tests}
use Rattle.hex.specs.Hex.{hex_digit_value, digit_or_error, pair_value, value_at, ◌>>=◌}
use Rattle.hex.specs.declared.error.FromHexError.{FromHexError}
use Rattle.hex.specs.declared.error.FromHexError.TheVariants.{InvalidHexCharacter}
use Rattle.bpf_expand.specs.Private.Digits.{all_numbers, is_same, number_or_none, AreNumbers}

same_is : (x y : Option ℕ) → is_same x y ≡ true → x ≡ y
same_is None None e = refl
same_is None (Some b) e = absurd cc
same_is (Some a) None e = absurd cc
same_is (Some a) (Some b) e = ap Some (eqb-true a b e)

fit_at : (numbers : List ℕ) (n k : ℕ) → all_numbers numbers n ≡ true → k < n → hex_digit_value k ≡ number_or_none (slice_index numbers k)
fit_at numbers zero k h less = absurd (omega arith)
fit_at numbers (suc n) k h less =
    let parts = and_parts (is_same (hex_digit_value n) (number_or_none (slice_index numbers n))) (all_numbers numbers n) h in
    elim (cases_lt k n) [
      | inl below ↦ fit_at numbers n k parts.1 below
      | inr top ↦
          let e : k ≡ n = omega arith in
          subst (λ (j : ℕ). hex_digit_value j ≡ number_or_none (slice_index numbers j)) (sym e)
          (same_is (hex_digit_value n) (number_or_none (slice_index numbers n)) parts.0)
    ]

pub number_at : (numbers : List ℕ) (k : ℕ) → AreNumbers numbers → k < 256 → hex_digit_value k ≡ number_or_none (slice_index numbers k)
number_at numbers k are less = fit_at numbers 256 k are less

some_number : (n : ℕ) → n < 16 → number_or_none n ≡ Some n
some_number n less = grind (arith, nat_tests)

none_number : (n : ℕ) → 16 ≤ n → number_or_none n ≡ None
none_number n past = grind (arith, nat_tests)

-- a byte that is no digit
no_high : (high low : ℕ) → hex_digit_value high ≡ None → (i : ℕ) → (e : FromHexError) × (pair_value high low i ≡ Err e)
no_high high low none i = (
  InvalidHexCharacter high i,
  ap (λ (o : Option ℕ). digit_or_error high i o >>=
      (λ h. value_at low (i + 1) >>= (λ l. Ok (h * 16 + l)))) none,
)

no_low : (high low n : ℕ) → hex_digit_value high ≡ Some n → hex_digit_value low ≡ None → (i : ℕ) → (e : FromHexError) × (pair_value high low i ≡ Err e)
no_low high low n some none i = (
  InvalidHexCharacter low (i + 1),
  subst
      (λ (o : Option ℕ). (digit_or_error high i o >>= (λ h. value_at low (i + 1) >>= (λ l. Ok (h * 16 + l)))) ≡ Err
      (InvalidHexCharacter low (i + 1))) (sym some) (ap (λ (o : Option ℕ). digit_or_error low (i + 1) o >>= (λ l. Ok (n * 16 + l))) none),
)

pub first_is_none : (high low n : ℕ) → hex_digit_value high ≡ number_or_none n → 16 ≤ n → (i : ℕ) → (e : FromHexError) × (pair_value high low i ≡ Err e)
first_is_none high low n is past = no_high high low (is ∙ none_number n past)

pub second_is_none : (high low n m : ℕ) → hex_digit_value high ≡ number_or_none n → n < 16 → hex_digit_value low ≡ number_or_none m → 16 ≤ m
    → (i : ℕ) → (e : FromHexError) × (pair_value high low i ≡ Err e)
second_is_none high low n m is less then past = no_low high low n (is ∙ some_number n less) (then ∙ none_number m past)

both_read : (high low n m : ℕ) → hex_digit_value high ≡ Some n → hex_digit_value low ≡ Some m → (i : ℕ) → pair_value high low i ≡ Ok (n * 16 + m)
both_read high low n m some more i =
    ap (λ (o : Option ℕ). digit_or_error high i o >>= (λ h. value_at low (i + 1) >>= (λ l. Ok (h * 16 + l)))) some
    ∙ ap (λ (o : Option ℕ). digit_or_error low (i + 1) o >>= (λ l. Ok (n * 16 + l))) more

pub both_are : (high low n m : ℕ) → hex_digit_value high ≡ number_or_none n → n < 16 → hex_digit_value low ≡ number_or_none m → m < 16 →
    (i : ℕ) → pair_value high low i ≡ Ok (n * 16 + m)
both_are high low n m is less then few = both_read high low n m (is ∙ some_number n less) (then ∙ some_number m few)
