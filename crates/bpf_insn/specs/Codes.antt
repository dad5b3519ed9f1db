-- RFC 9669, sections 3 to 5: the numbers by which words name operations (Atomic has those of the
-- atomic ones).
use Rattle.std.specs.Prelude.{ℕ, ◌+◌, ◌*◌}
use Rattle.bpf_insn.specs.declared.operation.widths.Width.{Width}
use Rattle.bpf_insn.specs.declared.operation.widths.Width.TheVariants.{Bits32, Bits64}
use Rattle.bpf_insn.specs.declared.operation.arithmetic.AluOp.{AluOp}
use Rattle.bpf_insn.specs.declared.operation.arithmetic.AluOp.TheVariants as alu
use Rattle.bpf_insn.specs.declared.operation.conditions.Condition.{Condition}
use Rattle.bpf_insn.specs.declared.operation.conditions.Condition.TheVariants as condition
use Rattle.bpf_insn.specs.declared.operation.extensions.SignExtension.{SignExtension}
use Rattle.bpf_insn.specs.declared.operation.extensions.SignExtension.TheVariants.{From8To32, From16To32, From8To64, From16To64, From32To64}
use Rattle.bpf_insn.specs.declared.operation.swaps.ByteSwap.{ByteSwap}
use Rattle.bpf_insn.specs.declared.operation.swaps.ByteSwap.TheVariants.{ToLittle, ToBig, Reverse}
use Rattle.bpf_insn.specs.declared.operation.swaps.SwapWidth.{SwapWidth}
use Rattle.bpf_insn.specs.declared.operation.swaps.SwapWidth.TheVariants as swap_width
use Rattle.bpf_insn.specs.declared.operation.sizes.Size.{Size}
use Rattle.bpf_insn.specs.declared.operation.sizes.Size.TheVariants as size
use Rattle.bpf_insn.specs.declared.operation.sizes.SignedSize.{SignedSize}
use Rattle.bpf_insn.specs.declared.operation.sizes.SignedSize.TheVariants as signed_size

-- ---- opcodes (sections 3.3, 4 and 5)

-- the classes; those of arithmetic and of jumps are below
abbrev pub ld_class : ℕ
ld_class = 0

abbrev pub ldx_class : ℕ
ldx_class = 1

abbrev pub st_class : ℕ
st_class = 2

abbrev pub stx_class : ℕ
stx_class = 3

-- arithmetic and jumps: the class in bits 0 to 2, bit 3 set where the operand is a register (X) and
-- not an immediate (K), the code in bits 4 to 7
abbrev pub opcode_k : ℕ → ℕ → ℕ
opcode_k class code = class + 16 * code

abbrev pub opcode_x : ℕ → ℕ → ℕ
opcode_x class code = class + 8 + 16 * code

-- loads and stores: the class in bits 0 to 2, the size in bits 3 and 4, the mode in bits 5 to 7
abbrev pub opcode_memory : ℕ → ℕ → ℕ → ℕ
opcode_memory class size mode = class + 8 * size + 32 * mode

-- ---- arithmetic (sections 4.1 and 4.2)

-- ALU and ALU64
abbrev pub alu_class : Width → ℕ
alu_class Bits32 = 4
alu_class Bits64 = 7

abbrev pub alu_code : AluOp → ℕ
alu_code alu.Add = 0x0
alu_code alu.Sub = 0x1
alu_code alu.Mul = 0x2
alu_code alu.Div = 0x3
alu_code alu.Sdiv = 0x3
alu_code alu.Or = 0x4
alu_code alu.And = 0x5
alu_code alu.Lsh = 0x6
alu_code alu.Rsh = 0x7
alu_code alu.Mod = 0x9
alu_code alu.Smod = 0x9
alu_code alu.Xor = 0xa
alu_code alu.Mov = 0xb
alu_code alu.Arsh = 0xc

-- the code of NEG
abbrev pub negate_code : ℕ
negate_code = 0x8

-- MOVSX: to how many bits is said by the class, from how many by the offset
abbrev pub extension_width : SignExtension → Width
extension_width From8To32 = Bits32
extension_width From16To32 = Bits32
extension_width From8To64 = Bits64
extension_width From16To64 = Bits64
extension_width From32To64 = Bits64

abbrev pub extension_opcode : SignExtension → ℕ
extension_opcode e = opcode_x (alu_class (extension_width e)) (alu_code alu.Mov)

abbrev pub extension_offset : SignExtension → ℕ
extension_offset From8To32 = 8
extension_offset From16To32 = 16
extension_offset From8To64 = 8
extension_offset From16To64 = 16
extension_offset From32To64 = 32

-- the code of END: in ALU bit 3 is the byte order, in ALU64 it is clear
abbrev pub end_code : ℕ
end_code = 0xd

abbrev pub swap_opcode : ByteSwap → ℕ
swap_opcode ToLittle = opcode_k (alu_class Bits32) end_code
swap_opcode ToBig = opcode_x (alu_class Bits32) end_code
swap_opcode Reverse = opcode_k (alu_class Bits64) end_code

abbrev pub swap_bits : SwapWidth → ℕ
swap_bits swap_width.Bits16 = 16
swap_bits swap_width.Bits32 = 32
swap_bits swap_width.Bits64 = 64

-- ---- jumps (section 4.3)

-- JMP32 and JMP
abbrev pub jump_class : Width → ℕ
jump_class Bits32 = 6
jump_class Bits64 = 5

abbrev pub condition_code : Condition → ℕ
condition_code condition.Eq = 0x1
condition_code condition.Gt = 0x2
condition_code condition.Ge = 0x3
condition_code condition.Set = 0x4
condition_code condition.Ne = 0x5
condition_code condition.Sgt = 0x6
condition_code condition.Sge = 0x7
condition_code condition.Lt = 0xa
condition_code condition.Le = 0xb
condition_code condition.Slt = 0xc
condition_code condition.Sle = 0xd

-- the codes of JA, CALL and EXIT
abbrev pub always_code : ℕ
always_code = 0x0

abbrev pub call_code : ℕ
call_code = 0x8

abbrev pub exit_code : ℕ
exit_code = 0x9

-- ---- loads and stores (sections 5.1 to 5.4)

abbrev pub size_code : Size → ℕ
size_code size.Word = 0
size_code size.Half = 1
size_code size.Byte = 2
size_code size.Double = 3

abbrev pub signed_size_code : SignedSize → ℕ
signed_size_code signed_size.Word = size_code size.Word
signed_size_code signed_size.Half = size_code size.Half
signed_size_code signed_size.Byte = size_code size.Byte

-- atomic operations are on 4 or 8 bytes
abbrev pub atomic_size_code : Width → ℕ
atomic_size_code Bits32 = size_code size.Word
atomic_size_code Bits64 = size_code size.Double

-- the modes IMM, MEM, MEMSX and ATOMIC
abbrev pub immediate_mode : ℕ
immediate_mode = 0

abbrev pub memory_mode : ℕ
memory_mode = 3

abbrev pub signed_mode : ℕ
signed_mode = 4

abbrev pub atomic_mode : ℕ
atomic_mode = 6
