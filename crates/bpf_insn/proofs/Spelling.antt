-- What is written is of its row and read as itself, and what passes for a row's word is what its
-- instruction is written as.
use Rattle.std.proofs.Common.{◌≡◌, ℕ, ◌/◌, ◌^◌, ◌<◌, ◌≤◌, Option, Some, None, refl, sym, ap, subst, ◌∙◌}
use Rattle.std.specs.Int.{w16, w32, cast_signed, cast_unsigned}
use Rattle.std.proofs.lemmas.Int.{to_z-of_z, of_z-to_z}
use Rattle.std.proofs.lemmas.Nat.{shr_high, mod_low, div-add-mod'}
use Rattle.bpf_insn.specs.Register.{register_number}
use Rattle.bpf_insn.specs.Table.{row_of, offset_k, offset_x}
use Rattle.bpf_insn.specs.Encoding.{value_of, first_word, second_word, IsFollowed, IsWrittenAs, Fits}
use Rattle.bpf_insn.specs.Refusal.{Selected, IsOfRow, IsZeroed, IsZeroedSecond, IsClean, IsWhole, HasRegisters}
use Rattle.bpf_insn.specs.Private.Bytes.{IsNarrow}
use Rattle.bpf_insn.specs.Private.Candidate.{dst_of, src_of, high_of}
use Rattle.bpf_insn.specs.declared.operation.arithmetic.AluOp.{AluOp}
use Rattle.bpf_insn.specs.declared.operation.arithmetic.AluOp.TheVariants as alu
use Rattle.bpf_insn.specs.declared.instruction.Operand.TheVariants.{Immediate, Register}
use Rattle.bpf_insn.specs.declared.instruction.Insn.{Insn}
use Rattle.bpf_insn.specs.declared.instruction.Insn.TheVariants as insn
use Rattle.bpf_insn.specs.declared.row.Field.{Field}
use Rattle.bpf_insn.specs.declared.row.Field.TheVariants.{Unused, Selects, Holds}
use Rattle.bpf_insn.specs.declared.row.Encoding.{Encoding}
use Rattle.bpf_insn.specs.declared.row.Encoding.TheVariants.{Basic, Wide}
use Rattle.bpf_insn.specs.declared.row.Row.{Row}
use Rattle.bpf_insn.specs.declared.word.Word.{Word}
use Rattle.bpf_insn.specs.declared.word.Window.{Window}
use Rattle.bpf_insn.proofs.Registers.{register_at-number, register-there, number-small}
use Rattle.bpf_insn.proofs.Dispatch.{rebuilt}

-- ---- words by their fields

word : ℕ → ℕ → ℕ → ℕ → ℕ → Word
word o d s f i = record { opcode = o; dst = d; src = s; offset = f; imm = i }

word_of_fields : (w : Word) → word w.opcode w.dst w.src w.offset w.imm ≡ w
unfolding word
word_of_fields w = refl

pub word_is : (w v : Word) → w.opcode ≡ v.opcode → w.dst ≡ v.dst → w.src ≡ v.src → w.offset ≡ v.offset → w.imm ≡ v.imm → w ≡ v
word_is w v a b c d e =
    let same : word w.opcode w.dst w.src w.offset w.imm ≡ word v.opcode v.dst v.src v.offset v.imm = cc in
    sym (word_of_fields w) ∙ same ∙ word_of_fields v

-- ---- what an instruction is written as is of its row, clean, whole, and names registers

selected_value : (f : Field) → Selected f (value_of f)
selected_value Unused = tt
selected_value (Selects n) = refl
selected_value (Holds n) = tt

zeroed_value : (f : Field) → IsZeroed f (value_of f)
zeroed_value Unused = refl
zeroed_value (Selects n) = tt
zeroed_value (Holds n) = tt

zeroed_second : (s : Encoding) (next : Option Word) → IsFollowed s next → IsZeroedSecond s next
zeroed_second Basic next h = tt
zeroed_second (Wide f) None h = tt
zeroed_second (Wide f) (Some v) h = blank_is f v (cc)
  where
    blank_is : (f : Field) (v : Word) → v ≡ record { opcode = 0; dst = 0; src = 0; offset = 0; imm = value_of f } → IsZeroedSecond (Wide f) (Some v)
    blank_is f v e = rw e (refl, refl, refl, refl, zeroed_value f)

followed_whole : (s : Encoding) (next : Option Word) → IsFollowed s next → IsWhole s next
followed_whole Basic next h = tt
followed_whole (Wide f) None h = absurd cc
followed_whole (Wide f) (Some v) h = λ n. cc

first_of_row : (r : Row) → IsOfRow r (first_word r)
first_of_row r = record { opcode = refl; dst = selected_value r.dst; src = selected_value r.src; offset = selected_value r.offset; imm = selected_value r.imm }

pub written_of_row : (i : Insn) (w : Window) → IsWrittenAs i w → IsOfRow (row_of i) w.word
written_of_row i w p = subst (λ (x : Word). IsOfRow (row_of i) x) (sym p.first) (first_of_row (row_of i))

clean_words : (r : Row) (w : Window) → w.word ≡ first_word r → IsFollowed r.encoding w.next → IsClean r w
clean_words r w e h = record {
  dst = subst (λ (x : Word). IsZeroed r.dst x.dst) (sym e) (zeroed_value r.dst);
  src = subst (λ (x : Word). IsZeroed r.src x.src) (sym e) (zeroed_value r.src);
  offset = subst (λ (x : Word). IsZeroed r.offset x.offset) (sym e) (zeroed_value r.offset);
  imm = subst (λ (x : Word). IsZeroed r.imm x.imm) (sym e) (zeroed_value r.imm);
  second = zeroed_second r.encoding w.next h;
}

pub written_clean : (i : Insn) (w : Window) → IsWrittenAs i w → IsClean (row_of i) w
written_clean i w p = clean_words (row_of i) w p.first p.second

pub written_whole : (i : Insn) (w : Window) → IsWrittenAs i w → IsWhole (row_of i).encoding w.next
written_whole i w p = followed_whole (row_of i).encoding w.next p.second

row_registers : (i : Insn) → HasRegisters (row_of i) (first_word (row_of i))
row_registers (insn.Alu width op d (Immediate n)) = record { dst = number-small d; src = tt }
row_registers (insn.Alu width op d (Register s)) = record { dst = number-small d; src = number-small s }
row_registers (insn.Negate width d) = record { dst = number-small d; src = tt }
row_registers (insn.SignExtend x d s) = record { dst = number-small d; src = number-small s }
row_registers (insn.SwapBytes k b d) = record { dst = number-small d; src = tt }
row_registers (insn.Jump o) = record { dst = tt; src = tt }
row_registers (insn.JumpLong n) = record { dst = tt; src = tt }
row_registers (insn.JumpIf width c d (Immediate n) o) = record { dst = number-small d; src = tt }
row_registers (insn.JumpIf width c d (Register s) o) = record { dst = number-small d; src = number-small s }
row_registers (insn.CallHelper n) = record { dst = tt; src = tt }
row_registers (insn.CallLocal n) = record { dst = tt; src = tt }
row_registers insn.Exit = record { dst = tt; src = tt }
row_registers (insn.Load z d b o) = record { dst = number-small d; src = number-small b }
row_registers (insn.LoadSigned z d b o) = record { dst = number-small d; src = number-small b }
row_registers (insn.StoreImmediate z b o n) = record { dst = number-small b; src = tt }
row_registers (insn.Store z b o s) = record { dst = number-small b; src = number-small s }
row_registers (insn.Atomic width op b o s) = record { dst = number-small b; src = number-small s }
row_registers (insn.LoadNumber d n) = record { dst = number-small d; src = tt }
row_registers (insn.LoadMap d m) = record { dst = number-small d; src = tt }

pub written_registers : (i : Insn) (w : Window) → IsWrittenAs i w → HasRegisters (row_of i) w.word
written_registers i w p = subst (λ (x : Word). HasRegisters (row_of i) x) (sym p.first) (row_registers i)

-- ---- and the fields hold its numbers

held_by : (i : Insn) (w : Window) → IsWrittenAs i w → rebuilt i (first_word (row_of i)) w.next ≡ i → rebuilt i w.word w.next ≡ i
held_by i w p e = ap (λ (x : Word). rebuilt i x w.next) p.first ∙ e

pub held : (i : Insn) (w : Window) → IsWrittenAs i w → Fits i → rebuilt i w.word w.next ≡ i
held (insn.Alu width op d (Immediate n)) w p f = held_by (insn.Alu width op d (Immediate n)) w p (rw (register_at-number d, to_z-of_z w32 n f) refl)
held (insn.Alu width op d (Register s)) w p f = held_by (insn.Alu width op d (Register s)) w p (rw (register_at-number d, register_at-number s) refl)
held (insn.Negate width d) w p f = held_by (insn.Negate width d) w p (rw (register_at-number d) refl)
held (insn.SignExtend x d s) w p f = held_by (insn.SignExtend x d s) w p (rw (register_at-number d, register_at-number s) refl)
held (insn.SwapBytes k b d) w p f = held_by (insn.SwapBytes k b d) w p (rw (register_at-number d) refl)
held (insn.Jump o) w p f = held_by (insn.Jump o) w p (rw (to_z-of_z w16 o f) refl)
held (insn.JumpLong n) w p f = held_by (insn.JumpLong n) w p (rw (to_z-of_z w32 n f) refl)
held (insn.JumpIf width c d (Immediate n) o) w p f = held_by (insn.JumpIf width c d (Immediate n) o) w p
    (rw (register_at-number d, to_z-of_z w32 n f.0, to_z-of_z w16 o f.1) refl)
held (insn.JumpIf width c d (Register s) o) w p f = held_by (insn.JumpIf width c d (Register s) o) w p
    (rw (register_at-number d, register_at-number s, to_z-of_z w16 o f) refl)
held (insn.CallHelper n) w p f = held_by (insn.CallHelper n) w p refl
held (insn.CallLocal n) w p f = held_by (insn.CallLocal n) w p (rw (to_z-of_z w32 n f) refl)
held insn.Exit w p f = refl
held (insn.Load z d b o) w p f = held_by (insn.Load z d b o) w p (rw (register_at-number d, register_at-number b, to_z-of_z w16 o f) refl)
held (insn.LoadSigned z d b o) w p f = held_by (insn.LoadSigned z d b o) w p (rw (register_at-number d, register_at-number b, to_z-of_z w16 o f) refl)
held (insn.StoreImmediate z b o n) w p f = held_by (insn.StoreImmediate z b o n) w p (rw (register_at-number b, to_z-of_z w16 o f.0, to_z-of_z w32 n f.1) refl)
held (insn.Store z b o s) w p f = held_by (insn.Store z b o s) w p (rw (register_at-number b, to_z-of_z w16 o f, register_at-number s) refl)
held (insn.Atomic width op b o s) w p f = held_by (insn.Atomic width op b o s) w p (rw (register_at-number b, to_z-of_z w16 o f, register_at-number s) refl)
held (insn.LoadNumber d n) w p f = held_by (insn.LoadNumber d n) w p (rw (register_at-number d, ap high_of p.second, div-add-mod' n (2 ^ 32)) refl)
held (insn.LoadMap d m) w p f = held_by (insn.LoadMap d m) w p (rw (register_at-number d) refl)

-- ---- what passes for a word of a row is what its instruction is written as

back16 : (n : ℕ) → n < 2 ^ 16 → n ≡ cast_unsigned w16 (cast_signed w16 n)
back16 n h = sym (of_z-to_z w16 n h)

back32 : (n : ℕ) → n < 2 ^ 32 → n ≡ cast_unsigned w32 (cast_signed w32 n)
back32 n h = sym (of_z-to_z w32 n h)

-- a field that holds nothing has the row's value
abbrev IsFixed : Field → Type 0
IsFixed Unused = Unit {0}
IsFixed (Selects n) = Unit {0}
IsFixed (Holds n) = ⊥

fixed_value : (f : Field) (n : ℕ) → IsFixed f → Selected f n → IsZeroed f n → n ≡ value_of f
fixed_value Unused n h a z = z
fixed_value (Selects m) n h a z = a
fixed_value (Holds m) n h a z = absurd h

fixed_k : (op : AluOp) → IsFixed (offset_k op)
fixed_k alu.Add = tt
fixed_k op = tt

fixed_x : (op : AluOp) → IsFixed (offset_x op)
fixed_x alu.Add = tt
fixed_x op = tt

-- the second word of a number, and of a map
second_number : (next : Option Word) (n m : ℕ) → IsWhole (Wide (Holds n)) next → IsZeroedSecond (Wide (Holds n)) next → high_of next ≡ m →
    next ≡ second_word (Wide (Holds m))
second_number None n m h z k = absurd (h refl)
second_number (Some v) n m h z k = ap (λ (x : Word). Some x) (word_is v _ z.0 z.1 z.2 z.3 k)

second_map : (next : Option Word) → IsWhole (Wide Unused) next → IsZeroedSecond (Wide Unused) next → next ≡ second_word (Wide Unused)
second_map None h z = absurd (h refl)
second_map (Some v) h z = ap (λ (x : Word). Some x) (word_is v _ z.0 z.1 z.2 z.3 z.4)

d_is : (w : Word) → w.dst ≤ 10 → w.dst ≡ register_number (dst_of w)
d_is w h = sym (register-there w.dst h)

s_is : (w : Word) → w.src ≤ 10 → w.src ≡ register_number (src_of w)
s_is w h = sym (register-there w.src h)

-- of one word
narrow : (i : Insn) (w : Window) → IsFollowed (row_of i).encoding w.next → w.word ≡ first_word (row_of i) → IsWrittenAs i w
narrow i w n e = record { first = e; second = n }

pub passing : (i : Insn) (w : Window) → IsNarrow w.word → IsOfRow (row_of i) w.word → IsClean (row_of i) w → IsWhole (row_of i).encoding
    w.next → HasRegisters (row_of i) w.word → IsWrittenAs (rebuilt i w.word w.next) w
passing (insn.Alu width op d (Immediate n)) w k e z h r = narrow _ w tt
    (word_is w.word _ e.opcode (d_is w.word r.dst) z.src (fixed_value (offset_k op) w.word.offset (fixed_k op) e.offset z.offset) (back32 _ k.imm))
passing (insn.Alu width op d (Register s)) w k e z h r = narrow _ w tt
    (word_is w.word _ e.opcode (d_is w.word r.dst) (s_is w.word r.src) (fixed_value (offset_x op) w.word.offset (fixed_x op) e.offset z.offset) z.imm)
passing (insn.Negate width d) w k e z h r = narrow _ w tt (word_is w.word _ e.opcode (d_is w.word r.dst) z.src z.offset z.imm)
passing (insn.SignExtend x d s) w k e z h r = narrow _ w tt (word_is w.word _ e.opcode (d_is w.word r.dst) (s_is w.word r.src) e.offset z.imm)
passing (insn.SwapBytes b c d) w k e z h r = narrow _ w tt (word_is w.word _ e.opcode (d_is w.word r.dst) z.src z.offset e.imm)
passing (insn.Jump o) w k e z h r = narrow _ w tt (word_is w.word _ e.opcode z.dst z.src (back16 _ k.offset) z.imm)
passing (insn.JumpLong n) w k e z h r = narrow _ w tt (word_is w.word _ e.opcode z.dst z.src z.offset (back32 _ k.imm))
passing (insn.JumpIf width c d (Immediate n) o) w k e z h r = narrow _ w tt
    (word_is w.word _ e.opcode (d_is w.word r.dst) z.src (back16 _ k.offset) (back32 _ k.imm))
passing (insn.JumpIf width c d (Register s) o) w k e z h r = narrow _ w tt
    (word_is w.word _ e.opcode (d_is w.word r.dst) (s_is w.word r.src) (back16 _ k.offset) z.imm)
passing (insn.CallHelper n) w k e z h r = narrow _ w tt (word_is w.word _ e.opcode z.dst e.src z.offset refl)
passing (insn.CallLocal n) w k e z h r = narrow _ w tt (word_is w.word _ e.opcode z.dst e.src z.offset (back32 _ k.imm))
passing insn.Exit w k e z h r = narrow _ w tt (word_is w.word _ e.opcode z.dst z.src z.offset z.imm)
passing (insn.Load b d s o) w k e z h r = narrow _ w tt (word_is w.word _ e.opcode (d_is w.word r.dst) (s_is w.word r.src) (back16 _ k.offset) z.imm)
passing (insn.LoadSigned b d s o) w k e z h r = narrow _ w tt (word_is w.word _ e.opcode (d_is w.word r.dst) (s_is w.word r.src) (back16 _ k.offset) z.imm)
passing (insn.StoreImmediate b d o n) w k e z h r = narrow _ w tt (word_is w.word _ e.opcode (d_is w.word r.dst) z.src (back16 _ k.offset) (back32 _ k.imm))
passing (insn.Store b d o s) w k e z h r = narrow _ w tt (word_is w.word _ e.opcode (d_is w.word r.dst) (s_is w.word r.src) (back16 _ k.offset) z.imm)
passing (insn.Atomic width op d o s) w k e z h r = narrow _ w tt (word_is w.word _ e.opcode (d_is w.word r.dst) (s_is w.word r.src) (back16 _ k.offset) e.imm)
passing (insn.LoadNumber d n) w k e z h r =
    let low = k.imm in
    record {
      first = word_is w.word _ e.opcode (d_is w.word r.dst) e.src z.offset (sym (mod_low (high_of w.next) 32 w.word.imm low));
      second = second_number w.next (n / 2 ^ 32) _ h z.second (sym (shr_high (high_of w.next) 32 w.word.imm low));
    }
passing (insn.LoadMap d m) w k e z h r = record {
  first = word_is w.word _ e.opcode (d_is w.word r.dst) e.src z.offset refl;
  second = second_map w.next h z.second;
}
