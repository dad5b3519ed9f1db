-- Numbers that digits write.
use Rattle.std.proofs.Common.{◌≡◌, ℕ, ◌+◌, ◌*◌, ◌^◌, ◌<◌, ◌≤◌, suc, List, [], ◌∷◌, drop, length, get_or, sym, ap, ◌∙◌, arith}
use Rattle.std.proofs.Math.Nat.{le-mul_of_pos_right}
use Rattle.std.proofs.Math.Seq.{drop-cons}
use Rattle.std.proofs.lemmas.List.{drop_all}
use Rattle.std.specs.Char.{digit_value}
use Rattle.std.specs.Str.Parse.{digits_value_after}

-- more digits make a number no smaller
grows : (base n : ℕ) (ds : List ℕ) → 0 < base → n ≤ digits_value_after base n ds
grows base n [] h = omega arith
grows base n (d ∷ ds) h =
    let rest = grows base (n * base + digit_value d) ds h in
    let first = le-mul_of_pos_right n h in
    omega arith

-- where one more digit doesn't fit, the number doesn't
pub too_large_at : (base n : ℕ) (ds : List ℕ) (i x : ℕ) → 0 < base → i < length ds → digits_value_after base n (drop i ds) ≡ x → 2 ^ 64 ≤ n
    * base + digit_value (get_or ds i 0) → 2 ^ 64 ≤ x
too_large_at base n ds i x some within value large =
    let rest = grows base (n * base + digit_value (get_or ds i 0)) (drop (suc i) ds) some in
    let step : digits_value_after base n (drop i ds) ≡ digits_value_after base (n * base + digit_value (get_or ds i 0)) (drop (suc i) ds) =
    ap (digits_value_after base n) (drop-cons ds i 0 within) in
    omega (arith, value, step, rest)

-- after the last digit the number is read
pub at_end : (base n : ℕ) (ds : List ℕ) (i x : ℕ) → length ds ≤ i → digits_value_after base n (drop i ds) ≡ x → n ≡ x
at_end base n ds i x end value = sym (ap (digits_value_after base n) (drop_all i ds end)) ∙ value
