-- How many bytes accesses have.
use Rattle.std.specs.Prelude.{ℕ}
use Rattle.bpf_insn.specs.declared.operation.sizes.Size.{Size}
use Rattle.bpf_insn.specs.declared.operation.sizes.Size.TheVariants.{Byte, Half, Word, Double}
use Rattle.bpf_insn.specs.declared.operation.widths.Width.{Width}
use Rattle.bpf_insn.specs.declared.operation.widths.Width.TheVariants.{Bits32, Bits64}

-- how many bytes a size has (RFC 9669, section 5)
abbrev pub length_of : Size → ℕ
length_of Byte = 1
length_of Half = 2
length_of Word = 4
length_of Double = 8

-- the size of the numbers that an atomic operation of this width works on (RFC 9669, section 5.3)
abbrev pub size_of : Width → Size
size_of Bits32 = Word
size_of Bits64 = Double
