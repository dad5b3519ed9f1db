-- The byte order instructions on a little-endian machine (RFC 9669, section 4.2).
use Rattle.std.specs.Prelude.{ℕ, reverse}
use Rattle.std.specs.Int.{Width as Number, w16, w32, w64, to_le_bytes, from_le_bytes}
use Rattle.bpf_insn.specs.declared.operation.swaps.ByteSwap.{ByteSwap}
use Rattle.bpf_insn.specs.declared.operation.swaps.ByteSwap.TheVariants.{ToLittle, ToBig, Reverse}
use Rattle.bpf_insn.specs.declared.operation.swaps.SwapWidth.{SwapWidth}
use Rattle.bpf_insn.specs.declared.operation.swaps.SwapWidth.TheVariants.{Bits16, Bits32, Bits64}
use Rattle.bpf_alu.specs.Width.{low}

abbrev pub number_of_swap : SwapWidth → Number
number_of_swap Bits16 = w16
number_of_swap Bits32 = w32
number_of_swap Bits64 = w64

-- the number of a's low bytes in reverse order
abbrev pub reversed : Number → ℕ → ℕ
reversed w a = from_le_bytes w (reverse (to_le_bytes w (low w a)))

-- END: the low bytes of a, kept or reversed; that the bytes above become zero is our own choice
unfoldable pub swapped : ByteSwap → SwapWidth → ℕ → ℕ
swapped ToLittle width a = low (number_of_swap width) a
swapped ToBig width a = reversed (number_of_swap width) a
swapped Reverse width a = reversed (number_of_swap width) a
