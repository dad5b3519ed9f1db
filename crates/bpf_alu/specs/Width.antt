-- Numbers of a width: what a register's low 32 or all its 64 bits say, unsigned or signed.
use Rattle.std.specs.Prelude.{ℕ, ◌^◌, ◌%◌, ℤ, pos, unsigned_abs}
use Rattle.std.specs.Int.{Width as Number, w32, w64, cast_signed, int_rem_euclid}
use mir.Val.{bits}
use Rattle.bpf_insn.specs.declared.operation.widths.Width.{Width}
use Rattle.bpf_insn.specs.declared.operation.widths.Width.TheVariants.{Bits32, Bits64}

-- the numbers that a width works on
abbrev pub numbers_of : Width → Number
numbers_of Bits32 = w32
numbers_of Bits64 = w64

-- the low bits of a, as an unsigned number
abbrev pub low : Number → ℕ → ℕ
low w a = a % 2 ^ bits w

-- a number below 2 ^ bits, read as two's complement
abbrev pub signed : Number → ℕ → ℤ
signed w a = cast_signed w a

-- z modulo 2 ^ bits
abbrev pub modulo : Number → ℤ → ℕ
modulo w z = unsigned_abs (int_rem_euclid z (pos (2 ^ bits w)))
