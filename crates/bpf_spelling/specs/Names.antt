-- The words that the forms of the assembly language have (our own choice, after the notation of
-- the Linux kernel's BPF listings), each with its one spelling.
use Rattle.std.specs.Prelude.{ℕ, Bool, List, find, Option, codes}
use Rattle.std.specs.Str.{bytes_eq}
use Rattle.bpf_insn.specs.declared.register.Reg.{Reg}
use Rattle.bpf_insn.specs.declared.register.Reg.TheVariants.{R0, R1, R2, R3, R4, R5, R6, R7, R8, R9, R10}
use Rattle.bpf_insn.specs.declared.operation.widths.Width.{Width}
use Rattle.bpf_insn.specs.declared.operation.widths.Width.TheVariants.{Bits32, Bits64}
use Rattle.bpf_insn.specs.declared.operation.sizes.Size.TheVariants as size
use Rattle.bpf_insn.specs.declared.operation.sizes.SignedSize.TheVariants as signed_size
use Rattle.bpf_insn.specs.declared.operation.swaps.ByteSwap.TheVariants as swap
use Rattle.bpf_insn.specs.declared.operation.swaps.SwapWidth.TheVariants as bits
use Rattle.bpf_spelling.specs.declared.keywords.Keyword.{Keyword}
use Rattle.bpf_spelling.specs.declared.keywords.Keyword.TheVariants as key
use Rattle.bpf_spelling.specs.declared.keywords.TheConstants.{KEYWORDS}
use Rattle.bpf_spelling.specs.declared.registers.TheConstants.{REGISTERS}

-- all 64 bits of a register are written `r`, its low 32 bits `w`
abbrev pub register_text : Width → Reg → List ℕ
register_text Bits64 R0 = codes "r0"
register_text Bits64 R1 = codes "r1"
register_text Bits64 R2 = codes "r2"
register_text Bits64 R3 = codes "r3"
register_text Bits64 R4 = codes "r4"
register_text Bits64 R5 = codes "r5"
register_text Bits64 R6 = codes "r6"
register_text Bits64 R7 = codes "r7"
register_text Bits64 R8 = codes "r8"
register_text Bits64 R9 = codes "r9"
register_text Bits64 R10 = codes "r10"
register_text Bits32 R0 = codes "w0"
register_text Bits32 R1 = codes "w1"
register_text Bits32 R2 = codes "w2"
register_text Bits32 R3 = codes "w3"
register_text Bits32 R4 = codes "w4"
register_text Bits32 R5 = codes "w5"
register_text Bits32 R6 = codes "w6"
register_text Bits32 R7 = codes "w7"
register_text Bits32 R8 = codes "w8"
register_text Bits32 R9 = codes "w9"
register_text Bits32 R10 = codes "w10"

abbrev pub keyword_text : Keyword → List ℕ
keyword_text key.Signed = codes "s"
keyword_text key.If = codes "if"
keyword_text key.Goto = codes "goto"
keyword_text key.GotoLong = codes "gotol"
keyword_text key.Call = codes "call"
keyword_text key.Exit = codes "exit"
keyword_text key.Wide = codes "ll"
keyword_text key.Map = codes "map"
keyword_text key.Lock = codes "lock"
keyword_text (key.Unsigned size.Byte) = codes "u8"
keyword_text (key.Unsigned size.Half) = codes "u16"
keyword_text (key.Unsigned size.Word) = codes "u32"
keyword_text (key.Unsigned size.Double) = codes "u64"
keyword_text (key.Extended signed_size.Byte) = codes "s8"
keyword_text (key.Extended signed_size.Half) = codes "s16"
keyword_text (key.Extended signed_size.Word) = codes "s32"
keyword_text (key.Swap swap.ToLittle bits.Bits16) = codes "le16"
keyword_text (key.Swap swap.ToLittle bits.Bits32) = codes "le32"
keyword_text (key.Swap swap.ToLittle bits.Bits64) = codes "le64"
keyword_text (key.Swap swap.ToBig bits.Bits16) = codes "be16"
keyword_text (key.Swap swap.ToBig bits.Bits32) = codes "be32"
keyword_text (key.Swap swap.ToBig bits.Bits64) = codes "be64"
keyword_text (key.Swap swap.Reverse bits.Bits16) = codes "bswap16"
keyword_text (key.Swap swap.Reverse bits.Bits32) = codes "bswap32"
keyword_text (key.Swap swap.Reverse bits.Bits64) = codes "bswap64"
keyword_text key.FetchAdd = codes "atomic_fetch_add"
keyword_text key.FetchOr = codes "atomic_fetch_or"
keyword_text key.FetchAnd = codes "atomic_fetch_and"
keyword_text key.FetchXor = codes "atomic_fetch_xor"
keyword_text (key.Exchange Bits32) = codes "xchg_32"
keyword_text (key.Exchange Bits64) = codes "xchg_64"
keyword_text (key.CompareExchange Bits32) = codes "cmpxchg_32"
keyword_text (key.CompareExchange Bits64) = codes "cmpxchg_64"

-- ---- what a word spells

unfoldable pub register_of : List ℕ → Option (Width × Reg)
register_of w = find (λ r. bytes_eq (register_text r.0 r.1) w) REGISTERS

unfoldable pub keyword_of : List ℕ → Option Keyword
keyword_of w = find (λ k. bytes_eq (keyword_text k) w) KEYWORDS

abbrev pub same_keyword : Keyword → Keyword → Bool
same_keyword a b = bytes_eq (keyword_text a) (keyword_text b)
