-- The table of codes the other way round: of all operations the one that has a number, if one has
-- it.
use Rattle.std.specs.Prelude.{ℕ, Bool, true, ◌==◌, ◌&&◌, List, [], ◌∷◌, find, Option, slice_get}
use Rattle.bpf_insn.specs.Codes.{alu_code, condition_code, extension_opcode, extension_offset, swap_opcode, swap_bits, size_code}
use Rattle.bpf_insn.specs.Codes.{signed_size_code, atomic_size_code}
use Rattle.bpf_insn.specs.Atomic.{atomic_code}
use Rattle.bpf_insn.specs.Table.{offset_k}
use Rattle.bpf_insn.specs.declared.row.Field.{Field}
use Rattle.bpf_insn.specs.declared.row.Field.TheVariants.{Unused, Selects, Holds}
use Rattle.bpf_insn.specs.declared.operation.arithmetic.TheConstants.{ALU_OPS}
use Rattle.bpf_insn.specs.declared.operation.extensions.TheConstants.{SIGN_EXTENSIONS}
use Rattle.bpf_insn.specs.declared.operation.atomics.TheConstants.{ATOMIC_OPS}
use Rattle.bpf_insn.specs.declared.operation.conditions.TheConstants.{CONDITIONS}
use Rattle.bpf_insn.specs.declared.operation.sizes.TheConstants.{SIZES, SIGNED_SIZES}
use Rattle.bpf_insn.specs.declared.operation.swaps.TheConstants.{BYTE_SWAPS, SWAP_WIDTHS}
use Rattle.bpf_insn.specs.declared.operation.widths.TheConstants.{WIDTHS}
use Rattle.bpf_insn.specs.declared.register.Reg.{Reg}
use Rattle.bpf_insn.specs.declared.register.Reg.TheVariants.{R0, R1, R2, R3, R4, R5, R6, R7, R8, R9, R10}
use Rattle.bpf_insn.specs.declared.operation.widths.Width.{Width}
use Rattle.bpf_insn.specs.declared.operation.arithmetic.AluOp.{AluOp}
use Rattle.bpf_insn.specs.declared.operation.conditions.Condition.{Condition}
use Rattle.bpf_insn.specs.declared.operation.extensions.SignExtension.{SignExtension}
use Rattle.bpf_insn.specs.declared.operation.swaps.ByteSwap.{ByteSwap}
use Rattle.bpf_insn.specs.declared.operation.swaps.SwapWidth.{SwapWidth}
use Rattle.bpf_insn.specs.declared.operation.sizes.Size.{Size}
use Rattle.bpf_insn.specs.declared.operation.sizes.SignedSize.{SignedSize}
use Rattle.bpf_insn.specs.declared.operation.atomics.AtomicOp.{AtomicOp}

abbrev pub all_registers : List Reg
all_registers = R0 ∷ R1 ∷ R2 ∷ R3 ∷ R4 ∷ R5 ∷ R6 ∷ R7 ∷ R8 ∷ R9 ∷ R10 ∷ []

unfoldable pub register_at : ℕ → Option Reg
register_at n = slice_get all_registers n

-- the field selects nothing else than this number
abbrev pub selects : Field → ℕ → Bool
selects Unused n = true
selects (Selects m) n = m == n
selects (Holds m) n = true

unfoldable pub alu_op_at : ℕ → ℕ → Option AluOp
alu_op_at code offset =
    find (λ op. (alu_code op == code) && selects (offset_k op) offset) ALU_OPS

unfoldable pub extension_at : ℕ → ℕ → Option SignExtension
extension_at opcode offset =
    find (λ e. (extension_opcode e == opcode) && (extension_offset e == offset)) SIGN_EXTENSIONS

unfoldable pub byte_swap_at : ℕ → Option ByteSwap
byte_swap_at opcode = find (λ s. swap_opcode s == opcode) BYTE_SWAPS

unfoldable pub swap_width_at : ℕ → Option SwapWidth
swap_width_at bits = find (λ w. swap_bits w == bits) SWAP_WIDTHS

unfoldable pub condition_at : ℕ → Option Condition
condition_at code = find (λ c. condition_code c == code) CONDITIONS

unfoldable pub size_at : ℕ → Option Size
size_at code = find (λ z. size_code z == code) SIZES

unfoldable pub signed_size_at : ℕ → Option SignedSize
signed_size_at code = find (λ z. signed_size_code z == code) SIGNED_SIZES

unfoldable pub atomic_width_at : ℕ → Option Width
atomic_width_at code = find (λ w. atomic_size_code w == code) WIDTHS

unfoldable pub atomic_op_at : ℕ → Option AtomicOp
atomic_op_at code = find (λ op. atomic_code op == code) ATOMIC_OPS
