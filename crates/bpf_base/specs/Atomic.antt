-- What the atomic operations do with a number in memory (RFC 9669, section 5.3).
use Rattle.std.specs.Prelude.{ℕ, ◌+◌, ◌%◌, ◌==◌, bit_and, bit_or, bit_xor, if◌then◌else◌}
use Rattle.bpf_base.specs.Bytes.{modulus}
use Rattle.bpf_base.specs.declared.atomic.Change.{Change}
use Rattle.bpf_base.specs.declared.atomic.Change.TheVariants.{Add, Or, And, Xor, Exchange, CompareExchange}

-- the number that is left where a number of n bytes stood; CMPXCHG alone looks at `expected`
abbrev pub number_after : Change → ℕ → ℕ → ℕ → ℕ → ℕ
number_after Add n before operand expected = (before + operand) % modulus n
number_after Or n before operand expected = bit_or before (operand % modulus n)
number_after And n before operand expected = bit_and before (operand % modulus n)
number_after Xor n before operand expected = bit_xor before (operand % modulus n)
number_after Exchange n before operand expected = operand % modulus n
number_after CompareExchange n before operand expected =
    if before == expected % modulus n then operand % modulus n else before
