-- What arithmetic means, as whole numbers that are reduced once (RFC 9669, section 4.1).
use Rattle.std.specs.Prelude.{ℕ, ◌/◌, ◌%◌, ◌*◌, ◌^◌, ◌==◌, ℤ, pos, neg_ℤ, ◌+ℤ◌, ◌-ℤ◌, if◌then◌else◌, bit_and, bit_or, bit_xor, int_div, int_rem}
use Rattle.std.specs.Int.{Width as Number, w8, w16, w32, w64, int_div_euclid}
use mir.Val.{bits}
use Rattle.bpf_insn.specs.declared.operation.widths.Width.{Width}
use Rattle.bpf_insn.specs.declared.operation.arithmetic.AluOp.{AluOp}
use Rattle.bpf_insn.specs.declared.operation.arithmetic.AluOp.TheVariants.{Add, Sub, Mul, Div, Sdiv, Or, And, Lsh, Rsh, Mod, Smod, Xor, Mov, Arsh}
use Rattle.bpf_insn.specs.declared.operation.extensions.SignExtension.{SignExtension}
use Rattle.bpf_insn.specs.declared.operation.extensions.SignExtension.TheVariants.{From8To32, From16To32, From8To64, From16To64, From32To64}
use Rattle.bpf_alu.specs.Width.{numbers_of, low, signed, modulo}

-- The whole number that an operation on a and b stands for, both below 2 ^ bits.
-- Division by zero is 0 and modulo by zero is a; signed division rounds toward zero, an arithmetic
-- shift down. The smallest number divided by -1 is one too large for the width, so it becomes
-- itself again, with remainder 0: our own choice, where the RFC says nothing.
abbrev pub whole : Number → AluOp → ℕ → ℕ → ℤ
whole w Add a b = pos a +ℤ pos b
whole w Sub a b = pos a -ℤ pos b
whole w Mul a b = pos (a * b)
whole w Div a b = if b == 0 then pos 0 else pos (a / b)
whole w Sdiv a b = if b == 0 then pos 0 else int_div (signed w a) (signed w b)
whole w Or a b = pos (bit_or a b)
whole w And a b = pos (bit_and a b)
whole w Lsh a b = pos (a * 2 ^ (b % bits w))
whole w Rsh a b = pos (a / 2 ^ (b % bits w))
whole w Mod a b = if b == 0 then pos a else pos (a % b)
whole w Smod a b = if b == 0 then pos a else int_rem (signed w a) (signed w b)
whole w Xor a b = pos (bit_xor a b)
whole w Mov a b = pos b
whole w Arsh a b = int_div_euclid (signed w a) (pos (2 ^ (b % bits w)))

-- what an instruction of a width leaves in dst, of dst and its operand: of 32 bits, the upper half
-- is zero
unfoldable pub arithmetic : Width → AluOp → ℕ → ℕ → ℕ
arithmetic width op a b =
    let w = numbers_of width in modulo w (whole w op (low w a) (low w b))

-- NEG
unfoldable pub negated : Width → ℕ → ℕ
negated width a = let w = numbers_of width in modulo w (neg_ℤ (pos (low w a)))

-- the low bits of a as a signed number, in a wider register
abbrev pub extended : Number → Number → ℕ → ℕ
extended from to a = modulo to (signed from (low from a))

-- MOVSX
unfoldable pub sign_extended : SignExtension → ℕ → ℕ
sign_extended From8To32 a = extended w8 w32 a
sign_extended From16To32 a = extended w16 w32 a
sign_extended From8To64 a = extended w8 w64 a
sign_extended From16To64 a = extended w16 w64 a
sign_extended From32To64 a = extended w32 w64 a
