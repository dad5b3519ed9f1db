-- RFC 9669, section 3: instructions as bytes.
use Rattle.std.specs.Prelude.{◌≡◌, ℕ, ◌*◌, ◌/◌, ◌%◌, ◌^◌, ◌≤◌, ◌<◌, List, [], ◌∷◌, length, drop, slice_index, Option, Some, None}
use Rattle.std.specs.Prelude.{if◌then◌else◌, nat_lt, FitsSigned}
use Rattle.std.specs.Int.{w16, w32}
use Rattle.byteorder.specs.Endian.{little_number}
use Rattle.bpf_insn.specs.Table.{row_of, words}
use Rattle.bpf_insn.specs.declared.row.Field.{Field}
use Rattle.bpf_insn.specs.declared.row.Field.TheVariants.{Unused, Selects, Holds}
use Rattle.bpf_insn.specs.declared.row.Encoding.{Encoding}
use Rattle.bpf_insn.specs.declared.row.Encoding.TheVariants.{Basic, Wide}
use Rattle.bpf_insn.specs.declared.row.Row.{Row}
use Rattle.bpf_insn.specs.declared.instruction.Operand.TheVariants.{Immediate, Register}
use Rattle.bpf_insn.specs.declared.instruction.Insn.{Insn}
use Rattle.bpf_insn.specs.declared.instruction.Insn.TheVariants as insn
use Rattle.bpf_insn.specs.declared.word.Word.{Word}
use Rattle.bpf_insn.specs.declared.word.Window.{Window}

-- the fields of a word of 8 bytes: opcode; dst in the low and src in the high half of a byte;
-- offset in two bytes; immediate in four, both the lowest byte first
abbrev pub word_at : List ℕ → Word
word_at bytes = record {
  opcode = slice_index bytes 0;
  dst = slice_index bytes 1 % 16;
  src = slice_index bytes 1 / 16;
  offset = little_number 2 (drop 2 bytes);
  imm = little_number 4 (drop 4 bytes);
}

-- the second word, where the bytes have one
abbrev pub next_at : List ℕ → Option Word
next_at bytes = if nat_lt (length bytes) 16 then None else Some (word_at (drop 8 bytes))

-- the first word with the second
abbrev pub window_at : List ℕ → Window
window_at bytes = record { word = word_at bytes; next = next_at bytes }

-- the number that a field has, zero where it is unused
abbrev pub value_of : Field → ℕ
value_of Unused = 0
value_of (Selects n) = n
value_of (Holds n) = n

-- the word that a row spells, and its second one
abbrev pub first_word : Row → Word
first_word r = record {
  opcode = r.opcode;
  dst = value_of r.dst;
  src = value_of r.src;
  offset = value_of r.offset;
  imm = value_of r.imm;
}

abbrev pub second_word : Encoding → Option Word
second_word Basic = None
second_word (Wide n) =
    Some (record { opcode = 0; dst = 0; src = 0; offset = 0; imm = value_of n })

-- what follows is the row's second word, or anything where the row has none
abbrev pub IsFollowed : Encoding → Option Word → Type 0
IsFollowed Basic next = Unit {0}
IsFollowed (Wide n) next = next ≡ second_word (Wide n)

-- these words are the instruction, and where it has one word, whatever follows it
pub record IsWrittenAs (i : Insn) (w : Window) : Type 0 where
  pub first : w.word ≡ first_word (row_of i)
  pub second : IsFollowed (row_of i).encoding w.next

-- the instruction's numbers fit their types
abbrev pub Fits : Insn → Type 0
Fits (insn.Alu w op d (Immediate n)) = FitsSigned w32 n
Fits (insn.Alu w op d (Register s)) = Unit {0}
Fits (insn.Negate w d) = Unit {0}
Fits (insn.SignExtend e d s) = Unit {0}
Fits (insn.SwapBytes k w d) = Unit {0}
Fits (insn.Jump o) = FitsSigned w16 o
Fits (insn.JumpLong n) = FitsSigned w32 n
Fits (insn.JumpIf w c d (Immediate n) o) = FitsSigned w32 n × FitsSigned w16 o
Fits (insn.JumpIf w c d (Register s) o) = FitsSigned w16 o
Fits (insn.CallHelper n) = n < 2 ^ 32
Fits (insn.CallLocal n) = FitsSigned w32 n
Fits insn.Exit = Unit {0}
Fits (insn.Load z d b o) = FitsSigned w16 o
Fits (insn.LoadSigned z d b o) = FitsSigned w16 o
Fits (insn.StoreImmediate z b o n) = FitsSigned w16 o × FitsSigned w32 n
Fits (insn.Store z b o s) = FitsSigned w16 o
Fits (insn.Atomic w op b o s) = FitsSigned w16 o
Fits (insn.LoadNumber d n) = n < 2 ^ 64
Fits (insn.LoadMap d m) = m < 2 ^ 32

-- the bytes begin with the instruction
pub record BeginsWith (i : Insn) (bytes : List ℕ) : Type 0 where
  pub long : 8 * words i ≤ length bytes
  pub written : IsWrittenAs i (window_at bytes)
  pub fits : Fits i

-- the bytes are those of the instructions, in order, and no more
abbrev pub IsEncodedAs : List Insn → List ℕ → Type 0
IsEncodedAs [] bytes = bytes ≡ []
IsEncodedAs (i ∷ is) bytes = BeginsWith i bytes × IsEncodedAs is (drop (8 * words i) bytes)
