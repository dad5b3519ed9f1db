-- The instruction of the only row that a word can be of, by its class and its code, with what the
-- word's fields hold. That it is the only one is proved in proofs/Dispatch.antt.
use Rattle.std.specs.Prelude.{ℕ, ℤ, ◌+◌, ◌*◌, ◌/◌, ◌%◌, ◌^◌, ◌==◌, Option, Some, None, if◌then◌else◌}
use Rattle.std.specs.Option.{unwrap_or}
use Rattle.std.specs.Int.{w16, w32, cast_signed}
use Rattle.bpf_insn.specs.Codes.{ld_class, ldx_class, st_class, stx_class, alu_class, jump_class, negate_code, end_code, always_code}
use Rattle.bpf_insn.specs.Codes.{call_code, exit_code, memory_mode}
use Rattle.bpf_insn.specs.Private.Lookup.{register_at, alu_op_at, extension_at, byte_swap_at, swap_width_at, condition_at, size_at}
use Rattle.bpf_insn.specs.Private.Lookup.{signed_size_at, atomic_width_at, atomic_op_at}
use Rattle.bpf_insn.specs.declared.register.Reg.{Reg}
use Rattle.bpf_insn.specs.declared.register.Reg.TheVariants.{R0}
use Rattle.bpf_insn.specs.declared.operation.widths.Width.{Width}
use Rattle.bpf_insn.specs.declared.operation.widths.Width.TheVariants.{Bits32, Bits64}
use Rattle.bpf_insn.specs.declared.operation.extensions.SignExtension.{SignExtension}
use Rattle.bpf_insn.specs.declared.instruction.Operand.{Operand}
use Rattle.bpf_insn.specs.declared.instruction.Operand.TheVariants.{Immediate, Register}
use Rattle.bpf_insn.specs.declared.instruction.Insn.{Insn}
use Rattle.bpf_insn.specs.declared.instruction.Insn.TheVariants as insn
use Rattle.bpf_insn.specs.declared.word.Word.{Word}
use Rattle.bpf_insn.specs.declared.word.Window.{Window}

infixl 10 ◌>>=◌
abbrev pub ◌>>=◌ : {A B : Type 0} → Option A → (A → Option B) → Option B
(Some x) >>= f = f x
None >>= f = None

-- ---- what fields hold; R0 for a register that there isn't

abbrev pub dst_of : Word → Reg
dst_of w = unwrap_or (register_at w.dst) R0

abbrev pub src_of : Word → Reg
src_of w = unwrap_or (register_at w.src) R0

abbrev pub offset_of : Word → ℤ
offset_of w = cast_signed w16 w.offset

abbrev pub imm_of : Word → ℤ
imm_of w = cast_signed w32 w.imm

abbrev pub second_operand : Word → Operand
second_operand w = if w.opcode / 8 % 2 == 0 then Immediate (imm_of w) else Register (src_of w)

abbrev pub high_of : Option Word → ℕ
high_of None = 0
high_of (Some w) = w.imm

-- ---- arithmetic

unfoldable pub alu_at : Width → Word → Option Insn
alu_at width w = do
  op ← alu_op_at (w.opcode / 16) w.offset
  Some (insn.Alu width op (dst_of w) (second_operand w))

unfoldable pub swap_bytes_at : Word → Option Insn
swap_bytes_at w = do
  swap ← byte_swap_at w.opcode
  bits ← swap_width_at w.imm
  Some (insn.SwapBytes swap bits (dst_of w))

abbrev pub extended_or : Word → Option Insn → Option SignExtension → Option Insn
extended_or w other None = other
extended_or w other (Some e) = Some (insn.SignExtend e (dst_of w) (src_of w))

unfoldable pub arithmetic_at : Width → Word → Option Insn
arithmetic_at width w =
    extended_or w (if w.opcode / 16 == negate_code then Some (insn.Negate width (dst_of w))
    else (if w.opcode / 16 == end_code then swap_bytes_at w
    else alu_at width w)) (extension_at w.opcode w.offset)

-- ---- jumps

abbrev pub call_at : Word → Insn
call_at w = if w.src == 0 then insn.CallHelper w.imm else insn.CallLocal (imm_of w)

abbrev pub jump_at : Width → Word → Insn
jump_at Bits32 w = insn.JumpLong (imm_of w)
jump_at Bits64 w = insn.Jump (offset_of w)

unfoldable pub jump_if_at : Width → Word → Option Insn
jump_if_at width w = do
  c ← condition_at (w.opcode / 16)
  Some (insn.JumpIf width c (dst_of w) (second_operand w) (offset_of w))

unfoldable pub jumps_at : Width → Word → Option Insn
jumps_at width w =
    if w.opcode / 16 == always_code then Some (jump_at width w)
    else (if w.opcode / 16 == call_code then Some (call_at w)
    else (if w.opcode / 16 == exit_code then Some insn.Exit
    else jump_if_at width w))

-- ---- loads and stores

abbrev pub wide_at : Window → Insn
wide_at w =
    if w.word.src == 0 then insn.LoadNumber (dst_of w.word) (high_of w.next * 2 ^ 32 + w.word.imm)
    else insn.LoadMap (dst_of w.word) w.word.imm

unfoldable pub loads_at : Word → Option Insn
loads_at w = if w.opcode / 32 == memory_mode then (do
  z ← size_at (w.opcode / 8 % 4)
  Some (insn.Load z (dst_of w) (src_of w) (offset_of w))) else (do
    z ← signed_size_at (w.opcode / 8 % 4)
    Some (insn.LoadSigned z (dst_of w) (src_of w) (offset_of w)))

unfoldable pub immediate_stores_at : Word → Option Insn
immediate_stores_at w = do
  z ← size_at (w.opcode / 8 % 4)
  Some (insn.StoreImmediate z (dst_of w) (offset_of w) (imm_of w))

unfoldable pub stores_at : Word → Option Insn
stores_at w = if w.opcode / 32 == memory_mode then (do
  z ← size_at (w.opcode / 8 % 4)
  Some (insn.Store z (dst_of w) (offset_of w) (src_of w))) else (do
    width ← atomic_width_at (w.opcode / 8 % 4)
    op ← atomic_op_at w.imm
    Some (insn.Atomic width op (dst_of w) (offset_of w) (src_of w)))

-- ---- the classes

unfoldable pub candidate_at : Window → Option Insn
candidate_at w =
    if w.word.opcode % 8 == ld_class then Some (wide_at w)
    else (if w.word.opcode % 8 == ldx_class then loads_at w.word
    else (if w.word.opcode % 8 == st_class then immediate_stores_at w.word
    else (if w.word.opcode % 8 == stx_class then stores_at w.word
    else (if w.word.opcode % 8 == alu_class Bits32 then arithmetic_at Bits32 w.word
    else (if w.word.opcode % 8 == jump_class Bits64 then jumps_at Bits64 w.word
    else (if w.word.opcode % 8 == jump_class Bits32 then jumps_at Bits32 w.word
    else arithmetic_at Bits64 w.word))))))
