-- A word of a row is found to be of that row, and of no other.
use Rattle.std.proofs.Common.{◌≡◌, ℤ, ◌+◌, ◌*◌, ◌^◌, Option, Some, refl, sym, ap, ◌∙◌}
use Rattle.bpf_insn.specs.Table.{row_of}
use Rattle.bpf_insn.specs.Refusal.{IsOfRow}
use Rattle.bpf_insn.specs.Private.Lookup.{alu_op_at, extension_at, byte_swap_at, swap_width_at, condition_at, size_at, signed_size_at}
use Rattle.bpf_insn.specs.Private.Lookup.{atomic_width_at, atomic_op_at}
use Rattle.bpf_insn.specs.Private.Candidate.{dst_of, src_of, offset_of, imm_of, high_of, alu_at, swap_bytes_at, arithmetic_at, jump_if_at}
use Rattle.bpf_insn.specs.Private.Candidate.{jumps_at, loads_at, immediate_stores_at, stores_at, candidate_at}
use Rattle.bpf_insn.specs.declared.register.Reg.{Reg}
use Rattle.bpf_insn.specs.declared.operation.widths.Width.{Width}
use Rattle.bpf_insn.specs.declared.operation.widths.Width.TheVariants.{Bits32, Bits64}
use Rattle.bpf_insn.specs.declared.operation.arithmetic.AluOp.{AluOp}
use Rattle.bpf_insn.specs.declared.operation.arithmetic.AluOp.TheVariants as alu
use Rattle.bpf_insn.specs.declared.operation.conditions.Condition.{Condition}
use Rattle.bpf_insn.specs.declared.operation.conditions.Condition.TheVariants as condition
use Rattle.bpf_insn.specs.declared.operation.extensions.SignExtension.{SignExtension}
use Rattle.bpf_insn.specs.declared.operation.extensions.SignExtension.TheVariants.{From8To32}
use Rattle.bpf_insn.specs.declared.operation.swaps.ByteSwap.{ByteSwap}
use Rattle.bpf_insn.specs.declared.operation.swaps.ByteSwap.TheVariants.{ToLittle, ToBig, Reverse}
use Rattle.bpf_insn.specs.declared.operation.swaps.SwapWidth.{SwapWidth}
use Rattle.bpf_insn.specs.declared.operation.swaps.SwapWidth.TheVariants as swap_width
use Rattle.bpf_insn.specs.declared.operation.sizes.Size.{Size}
use Rattle.bpf_insn.specs.declared.operation.sizes.Size.TheVariants as size
use Rattle.bpf_insn.specs.declared.operation.sizes.SignedSize.{SignedSize}
use Rattle.bpf_insn.specs.declared.operation.sizes.SignedSize.TheVariants as signed_size
use Rattle.bpf_insn.specs.declared.operation.atomics.AtomicOp.{AtomicOp}
use Rattle.bpf_insn.specs.declared.operation.atomics.AtomicOp.TheVariants as atomic
use Rattle.bpf_insn.specs.declared.instruction.Operand.TheVariants.{Immediate, Register}
use Rattle.bpf_insn.specs.declared.instruction.Insn.{Insn}
use Rattle.bpf_insn.specs.declared.instruction.Insn.TheVariants as insn
use Rattle.bpf_insn.specs.declared.word.Word.{Word}
use Rattle.bpf_insn.specs.declared.word.Window.{Window}
use Rattle.bpf_insn.proofs.Shape.{shape}

-- the instruction of a row with what words hold
abbrev pub rebuilt : Insn → Word → Option Word → Insn
rebuilt (insn.Alu width op d (Immediate n)) w next = insn.Alu width op (dst_of w) (Immediate (imm_of w))
rebuilt (insn.Alu width op d (Register s)) w next = insn.Alu width op (dst_of w) (Register (src_of w))
rebuilt (insn.Negate width d) w next = insn.Negate width (dst_of w)
rebuilt (insn.SignExtend e d s) w next = insn.SignExtend e (dst_of w) (src_of w)
rebuilt (insn.SwapBytes k b d) w next = insn.SwapBytes k b (dst_of w)
rebuilt (insn.Jump o) w next = insn.Jump (offset_of w)
rebuilt (insn.JumpLong n) w next = insn.JumpLong (imm_of w)
rebuilt (insn.JumpIf width c d (Immediate n) o) w next =
    insn.JumpIf width c (dst_of w) (Immediate (imm_of w)) (offset_of w)
rebuilt (insn.JumpIf width c d (Register s) o) w next =
    insn.JumpIf width c (dst_of w) (Register (src_of w)) (offset_of w)
rebuilt (insn.CallHelper n) w next = insn.CallHelper w.imm
rebuilt (insn.CallLocal n) w next = insn.CallLocal (imm_of w)
rebuilt insn.Exit w next = insn.Exit
rebuilt (insn.Load z d b o) w next = insn.Load z (dst_of w) (src_of w) (offset_of w)
rebuilt (insn.LoadSigned z d b o) w next = insn.LoadSigned z (dst_of w) (src_of w) (offset_of w)
rebuilt (insn.StoreImmediate z b o n) w next = insn.StoreImmediate z (dst_of w) (offset_of w) (imm_of w)
rebuilt (insn.Store z b o s) w next = insn.Store z (dst_of w) (offset_of w) (src_of w)
rebuilt (insn.Atomic width op b o s) w next = insn.Atomic width op (dst_of w) (offset_of w) (src_of w)
rebuilt (insn.LoadNumber d n) w next = insn.LoadNumber (dst_of w) (high_of next * 2 ^ 32 + w.imm)
rebuilt (insn.LoadMap d m) w next = insn.LoadMap (dst_of w) w.imm

-- a word of the row of i is found to be of it
abbrev pub IsFound : Insn → Type 0
IsFound i = (w : Window) → IsOfRow (row_of i) w.word → candidate_at w ≡ Some (rebuilt i w.word w.next)

found_alu_immediate : (width : Width) (op : AluOp) (d : Reg) (n : ℤ) → IsFound (insn.Alu width op d (Immediate n))
unfolding candidate_at arithmetic_at alu_at alu_op_at extension_at
found_alu_immediate Bits32 alu.Div d n w e = rw (e.opcode, e.offset) refl
found_alu_immediate Bits32 alu.Sdiv d n w e = rw (e.opcode, e.offset) refl
found_alu_immediate Bits32 alu.Mod d n w e = rw (e.opcode, e.offset) refl
found_alu_immediate Bits32 alu.Smod d n w e = rw (e.opcode, e.offset) refl
found_alu_immediate Bits32 op d n w e = rw e.opcode refl
found_alu_immediate Bits64 alu.Div d n w e = rw (e.opcode, e.offset) refl
found_alu_immediate Bits64 alu.Sdiv d n w e = rw (e.opcode, e.offset) refl
found_alu_immediate Bits64 alu.Mod d n w e = rw (e.opcode, e.offset) refl
found_alu_immediate Bits64 alu.Smod d n w e = rw (e.opcode, e.offset) refl
found_alu_immediate Bits64 op d n w e = rw e.opcode refl

found_alu_register : (width : Width) (op : AluOp) (d s : Reg) → IsFound (insn.Alu width op d (Register s))
unfolding candidate_at arithmetic_at alu_at alu_op_at extension_at
found_alu_register Bits32 alu.Div d s w e = rw (e.opcode, e.offset) refl
found_alu_register Bits32 alu.Sdiv d s w e = rw (e.opcode, e.offset) refl
found_alu_register Bits32 alu.Mod d s w e = rw (e.opcode, e.offset) refl
found_alu_register Bits32 alu.Smod d s w e = rw (e.opcode, e.offset) refl
found_alu_register Bits32 alu.Mov d s w e = rw (e.opcode, e.offset) refl
found_alu_register Bits32 op d s w e = rw e.opcode refl
found_alu_register Bits64 alu.Div d s w e = rw (e.opcode, e.offset) refl
found_alu_register Bits64 alu.Sdiv d s w e = rw (e.opcode, e.offset) refl
found_alu_register Bits64 alu.Mod d s w e = rw (e.opcode, e.offset) refl
found_alu_register Bits64 alu.Smod d s w e = rw (e.opcode, e.offset) refl
found_alu_register Bits64 alu.Mov d s w e = rw (e.opcode, e.offset) refl
found_alu_register Bits64 op d s w e = rw e.opcode refl

found_jump_immediate : (width : Width) (c : Condition) (d : Reg) (n o : ℤ) → IsFound (insn.JumpIf width c d (Immediate n) o)
unfolding candidate_at jumps_at jump_if_at condition_at
found_jump_immediate Bits32 condition.Eq d n o w e = rw e.opcode refl
found_jump_immediate Bits32 c d n o w e = rw e.opcode refl
found_jump_immediate Bits64 condition.Eq d n o w e = rw e.opcode refl
found_jump_immediate Bits64 c d n o w e = rw e.opcode refl

found_jump_register : (width : Width) (c : Condition) (d s : Reg) (o : ℤ) → IsFound (insn.JumpIf width c d (Register s) o)
unfolding candidate_at jumps_at jump_if_at condition_at
found_jump_register Bits32 condition.Eq d s o w e = rw e.opcode refl
found_jump_register Bits32 c d s o w e = rw e.opcode refl
found_jump_register Bits64 condition.Eq d s o w e = rw e.opcode refl
found_jump_register Bits64 c d s o w e = rw e.opcode refl

found_sign_extend : (x : SignExtension) (d s : Reg) → IsFound (insn.SignExtend x d s)
unfolding candidate_at arithmetic_at extension_at
found_sign_extend From8To32 d s w e = rw (e.opcode, e.offset) refl
found_sign_extend x d s w e = rw (e.opcode, e.offset) refl

found_swap_bytes : (k : ByteSwap) (b : SwapWidth) (d : Reg) → IsFound (insn.SwapBytes k b d)
unfolding candidate_at arithmetic_at extension_at swap_bytes_at byte_swap_at swap_width_at
found_swap_bytes ToLittle swap_width.Bits16 d w e = rw (e.opcode, e.imm) refl
found_swap_bytes ToLittle b d w e = rw (e.opcode, e.imm) refl
found_swap_bytes ToBig swap_width.Bits16 d w e = rw (e.opcode, e.imm) refl
found_swap_bytes ToBig b d w e = rw (e.opcode, e.imm) refl
found_swap_bytes Reverse swap_width.Bits16 d w e = rw (e.opcode, e.imm) refl
found_swap_bytes Reverse b d w e = rw (e.opcode, e.imm) refl

found_load : (z : Size) (d b : Reg) (o : ℤ) → IsFound (insn.Load z d b o)
unfolding candidate_at loads_at size_at
found_load size.Byte d b o w e = rw e.opcode refl
found_load z d b o w e = rw e.opcode refl

found_load_signed : (z : SignedSize) (d b : Reg) (o : ℤ) → IsFound (insn.LoadSigned z d b o)
unfolding candidate_at loads_at signed_size_at
found_load_signed signed_size.Byte d b o w e = rw e.opcode refl
found_load_signed z d b o w e = rw e.opcode refl

found_store_immediate : (z : Size) (b : Reg) (o n : ℤ) → IsFound (insn.StoreImmediate z b o n)
unfolding candidate_at immediate_stores_at size_at
found_store_immediate size.Byte b o n w e = rw e.opcode refl
found_store_immediate z b o n w e = rw e.opcode refl

found_store : (z : Size) (b : Reg) (o : ℤ) (s : Reg) → IsFound (insn.Store z b o s)
unfolding candidate_at stores_at size_at
found_store size.Byte b o s w e = rw e.opcode refl
found_store z b o s w e = rw e.opcode refl

found_atomic : (width : Width) (op : AtomicOp) (b : Reg) (o : ℤ) (s : Reg) → IsFound (insn.Atomic width op b o s)
unfolding candidate_at stores_at atomic_width_at atomic_op_at
found_atomic Bits32 atomic.Add b o s w e = rw (e.opcode, e.imm) refl
found_atomic Bits32 op b o s w e = rw (e.opcode, e.imm) refl
found_atomic Bits64 atomic.Add b o s w e = rw (e.opcode, e.imm) refl
found_atomic Bits64 op b o s w e = rw (e.opcode, e.imm) refl

pub found : (i : Insn) → IsFound i
unfolding candidate_at arithmetic_at extension_at jumps_at
found (insn.Alu width op d (Immediate n)) w e = found_alu_immediate width op d n w e
found (insn.Alu width op d (Register s)) w e = found_alu_register width op d s w e
found (insn.Negate Bits32 d) w e = rw e.opcode refl
found (insn.Negate Bits64 d) w e = rw e.opcode refl
found (insn.SignExtend x d s) w e = found_sign_extend x d s w e
found (insn.SwapBytes k b d) w e = found_swap_bytes k b d w e
found (insn.Jump o) w e = rw e.opcode refl
found (insn.JumpLong n) w e = rw e.opcode refl
found (insn.JumpIf width c d (Immediate n) o) w e = found_jump_immediate width c d n o w e
found (insn.JumpIf width c d (Register s) o) w e = found_jump_register width c d s o w e
found (insn.CallHelper n) w e = rw (e.opcode, e.src) refl
found (insn.CallLocal n) w e = rw (e.opcode, e.src) refl
found insn.Exit w e = rw e.opcode refl
found (insn.Load z d b o) w e = found_load z d b o w e
found (insn.LoadSigned z d b o) w e = found_load_signed z d b o w e
found (insn.StoreImmediate z b o n) w e = found_store_immediate z b o n w e
found (insn.Store z b o s) w e = found_store z b o s w e
found (insn.Atomic width op b o s) w e = found_atomic width op b o s w e
found (insn.LoadNumber d n) w e = rw (e.opcode, e.src) refl
found (insn.LoadMap d m) w e = rw (e.opcode, e.src) refl

-- ---- rows of one word have one shape

same_shape : (i : Insn) (w : Word) (next : Option Word) → shape (row_of (rebuilt i w next)) ≡ shape (row_of i)
same_shape (insn.Alu width op d (Immediate n)) w next = refl
same_shape (insn.Alu width op d (Register s)) w next = refl
same_shape (insn.JumpIf width c d (Immediate n) o) w next = refl
same_shape (insn.JumpIf width c d (Register s) o) w next = refl
same_shape i w next = refl

pub found_shape : (i j : Insn) (w : Window) → IsOfRow (row_of i) w.word → candidate_at w ≡ Some j → shape (row_of i) ≡ shape (row_of j)
found_shape i j w o e =
    let both : Some (rebuilt i w.word w.next) ≡ Some j = sym (found i w o) ∙ e in
    let same : rebuilt i w.word w.next ≡ j = cc in
    sym (same_shape i w.word w.next) ∙ ap (λ (x : Insn). shape (row_of x)) same

pub one_shape : (i j : Insn) (w : Window) → IsOfRow (row_of i) w.word → IsOfRow (row_of j) w.word → shape (row_of i) ≡ shape (row_of j)
one_shape i j w o p = found_shape i (rebuilt j w.word w.next) w o (found j w p) ∙ same_shape j w.word w.next
