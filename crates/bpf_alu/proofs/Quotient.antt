-- A signed quotient or remainder of numbers of a width, taken modulo 2 ^ bits, is its two's complement.
use Rattle.std.proofs.Common.{◌≡◌, ℕ, suc, zero, ◌+◌, ◌%◌, ◌/◌, ◌^◌, ◌<◌, ◌≤◌, ℤ, pos, arith, sym, ◌∙◌, ◌≢◌, eqb, false}
use Rattle.std.specs.Prelude.{negsuc, neg_ℤ, int_div, int_rem, FitsSigned}
use Rattle.std.specs.Int.{Width as Number, w8, w16, w32, w64, w128, cast_signed, cast_unsigned}
use mir.Val.{bits, hbits}
use lib.Signed.{mag, mag_rem}
use Rattle.std.proofs.lemmas.Bool.{ne_eqb}
use Rattle.std.proofs.lemmas.Int.{of_z-to_z}
use Rattle.std.proofs.Math.Nat.{mod-eq_of_lt, div-le_self}
use Rattle.bpf_alu.specs.Width.{low, signed, modulo}
use Rattle.bpf_alu.specs.Arithmetic.{whole}
use Rattle.bpf_insn.specs.declared.operation.arithmetic.AluOp.TheVariants.{Sdiv, Smod}

-- a number whose size is below 2 ^ bits is its two's complement, modulo 2 ^ bits
modulo-cast : (w : Number) (z : ℤ) → mag z < 2 ^ bits w → modulo w z ≡ cast_unsigned w z
modulo-cast w (pos n) h = mod-eq_of_lt h
modulo-cast w (negsuc n) h = omega (arith, mod-eq_of_lt h)

mag-neg_ℤ : (n : ℕ) → mag (neg_ℤ (pos n)) ≤ n
mag-neg_ℤ zero = omega arith
mag-neg_ℤ (suc n) = omega arith

-- rounding toward zero makes no number larger, but for the smallest one by -1
mag-int_div : (x y : ℤ) → mag (int_div x y) ≤ mag x + 1
mag-int_div (pos a) (pos b) = omega (arith, div-le_self a b)
mag-int_div (pos a) (negsuc b) = omega (arith, mag-neg_ℤ (a / suc b), div-le_self a (suc b))
mag-int_div (negsuc a) (pos b) = omega (arith, mag-neg_ℤ (suc a / b), div-le_self (suc a) b)
mag-int_div (negsuc a) (negsuc b) = omega (arith, div-le_self (suc a) (suc b))

half-below : (w : Number) → 2 ^ hbits w + 1 ≤ 2 ^ bits w
half-below w8 = omega arith
half-below w16 = omega arith
half-below w32 = omega arith
half-below w64 = omega arith
half-below w128 = omega arith

fits-int_div : (w : Number) (x y : ℤ) → FitsSigned w x → mag (int_div x y) < 2 ^ bits w
fits-int_div w x y h = omega (arith, h.sfits, mag-int_div x y, half-below w)

cast-below : (w : Number) (z : ℤ) → mag z < 2 ^ bits w → cast_unsigned w z < 2 ^ bits w
cast-below w (pos n) h = h
cast-below w (negsuc n) h = omega arith

-- what the code's signed division gives, where the divisor isn't zero
pub quotient_value : (w : Number) (a b r : ℕ) (x y : ℤ) → a < 2 ^ bits w → b < 2 ^ bits w → b ≢ 0 → x ≡ signed w a → y ≡ signed w b →
    FitsSigned w x → r ≡ cast_unsigned w (cast_signed w (cast_unsigned w (int_div x y))) → r ≡ modulo w (whole w Sdiv (low w a) (low w b))
quotient_value w a b r x y la lb nz ex ey fx er =
    let ea : a % 2 ^ bits w ≡ a = mod-eq_of_lt la in
    let eb : b % 2 ^ bits w ≡ b = mod-eq_of_lt lb in
    let test : eqb b 0 ≡ false = ne_eqb b 0 nz in
    let small = fits-int_div w x y fx in
    rw (ea, eb, test, ← ex, ← ey) (er ∙ of_z-to_z w _ (cast-below w (int_div x y) small) ∙ sym (modulo-cast w (int_div x y) small))

fits-int_rem : (w : Number) (x y : ℤ) → FitsSigned w x → mag (int_rem x y) < 2 ^ bits w
fits-int_rem w x y h = omega (arith, h.sfits, mag_rem x y, half-below w)

-- what the code's signed remainder gives, where the divisor isn't zero
pub remainder_value : (w : Number) (a b r : ℕ) (x y : ℤ) → a < 2 ^ bits w → b < 2 ^ bits w → b ≢ 0 → x ≡ signed w a → y ≡ signed w b →
    FitsSigned w x → r ≡ cast_unsigned w (cast_signed w (cast_unsigned w (int_rem x y))) → r ≡ modulo w (whole w Smod (low w a) (low w b))
remainder_value w a b r x y la lb nz ex ey fx er =
    let ea : a % 2 ^ bits w ≡ a = mod-eq_of_lt la in
    let eb : b % 2 ^ bits w ≡ b = mod-eq_of_lt lb in
    let test : eqb b 0 ≡ false = ne_eqb b 0 nz in
    let small = fits-int_rem w x y fx in
    rw (ea, eb, test, ← ex, ← ey) (er ∙ of_z-to_z w _ (cast-below w (int_rem x y) small) ∙ sym (modulo-cast w (int_rem x y) small))
