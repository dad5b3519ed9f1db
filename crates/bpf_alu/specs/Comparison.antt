-- When a conditional jump is taken (RFC 9669, section 4.3).
use Rattle.std.specs.Prelude.{ℕ, ◌==◌, Bool, not, nat_lt, nat_le, int_lt, int_le, bit_and}
use Rattle.std.specs.Int.{Width as Number}
use Rattle.bpf_insn.specs.declared.operation.widths.Width.{Width}
use Rattle.bpf_insn.specs.declared.operation.conditions.Condition.{Condition}
use Rattle.bpf_insn.specs.declared.operation.conditions.Condition.TheVariants.{Eq, Gt, Ge, Set, Ne, Sgt, Sge, Lt, Le, Slt, Sle}
use Rattle.bpf_alu.specs.Width.{numbers_of, low, signed}

-- whether a condition holds of a and b, both below 2 ^ bits
abbrev pub compared : Number → Condition → ℕ → ℕ → Bool
compared w Eq a b = a == b
compared w Ne a b = not (a == b)
compared w Gt a b = nat_lt b a
compared w Ge a b = nat_le b a
compared w Lt a b = nat_lt a b
compared w Le a b = nat_le a b
compared w Sgt a b = int_lt (signed w b) (signed w a)
compared w Sge a b = int_le (signed w b) (signed w a)
compared w Slt a b = int_lt (signed w a) (signed w b)
compared w Sle a b = int_le (signed w a) (signed w b)
compared w Set a b = not (bit_and a b == 0)

-- whether a jump of a width is taken: of 32 bits, the lower halves alone are compared
unfoldable pub holds : Width → Condition → ℕ → ℕ → Bool
holds width condition a b = let w = numbers_of width in compared w condition (low w a) (low w b)
