-- Why bytes are no instructions. The refusals, their numbers and the order are our own choice; what
-- each is about is RFC 9669's: opcodes and selecting fields that it doesn't have (sections 4 and
-- 5), unused fields that aren't zero (sections 3.1 and 3.2), half of a wide instruction (section
-- 3.2), registers that there aren't (section 3.1).
use Rattle.std.specs.Prelude.{◌≡◌, ◌≢◌, ℕ, ◌+◌, ◌*◌, ◌%◌, ◌≤◌, ◌<◌, List, [], ◌∷◌, length, drop, Option, Some, None, Result, IfOk, IfErr}
use Rattle.bpf_insn.specs.Table.{row_of, words}
use Rattle.bpf_insn.specs.First.{IsFirst}
use Rattle.bpf_insn.specs.declared.row.Field.{Field}
use Rattle.bpf_insn.specs.declared.row.Field.TheVariants.{Unused, Selects, Holds}
use Rattle.bpf_insn.specs.declared.row.Encoding.{Encoding}
use Rattle.bpf_insn.specs.declared.row.Encoding.TheVariants.{Basic, Wide}
use Rattle.bpf_insn.specs.declared.row.Row.{Row}
use Rattle.bpf_insn.specs.Encoding.{window_at, BeginsWith}
use Rattle.bpf_insn.specs.declared.instruction.Insn.{Insn}
use Rattle.bpf_insn.specs.declared.word.Word.{Word}
use Rattle.bpf_insn.specs.declared.word.Window.{Window}
use Rattle.bpf_insn.specs.declared.fault.Fault.{Fault}
use Rattle.bpf_insn.specs.declared.fault.Fault.TheVariants as fault
use Rattle.bpf_insn.specs.declared.error.InsnError.{InsnError}
use Rattle.bpf_insn.specs.declared.error.InsnError.TheVariants as error

-- ---- a word against a row

-- a field that selects has the row's number
abbrev pub Selected : Field → ℕ → Type 0
Selected Unused n = Unit {0}
Selected (Selects m) n = n ≡ m
Selected (Holds m) n = Unit {0}

-- the word has the opcode of the row, and its selecting fields
pub record IsOfRow (r : Row) (w : Word) : Type 0 where
  pub opcode : w.opcode ≡ r.opcode
  pub dst : Selected r.dst w.dst
  pub src : Selected r.src w.src
  pub offset : Selected r.offset w.offset
  pub imm : Selected r.imm w.imm

-- a field that the row doesn't use is zero
abbrev pub IsZeroed : Field → ℕ → Type 0
IsZeroed Unused n = n ≡ 0
IsZeroed (Selects m) n = Unit {0}
IsZeroed (Holds m) n = Unit {0}

-- and of the second word, where there is one, all but the immediate
abbrev pub IsZeroedSecond : Encoding → Option Word → Type 0
IsZeroedSecond Basic next = Unit {0}
IsZeroedSecond (Wide f) None = Unit {0}
IsZeroedSecond (Wide f) (Some w) =
    (w.opcode ≡ 0) × (w.dst ≡ 0) × (w.src ≡ 0) × (w.offset ≡ 0) × IsZeroed f w.imm

pub record IsClean (r : Row) (w : Window) : Type 0 where
  pub dst : IsZeroed r.dst w.word.dst
  pub src : IsZeroed r.src w.word.src
  pub offset : IsZeroed r.offset w.word.offset
  pub imm : IsZeroed r.imm w.word.imm
  pub second : IsZeroedSecond r.encoding w.next

-- a row of two words has its second one
abbrev pub IsWhole : Encoding → Option Word → Type 0
IsWhole Basic next = Unit {0}
IsWhole (Wide f) next = next ≢ None

-- a field that holds a register has the number of one
abbrev pub IsRegister : Field → ℕ → Type 0
IsRegister Unused n = Unit {0}
IsRegister (Selects m) n = Unit {0}
IsRegister (Holds m) n = n ≤ 10

pub record HasRegisters (r : Row) (w : Word) : Type 0 where
  pub dst : IsRegister r.dst w.dst
  pub src : IsRegister r.src w.src

-- ---- what is wrong at a word

-- what each refusal says
abbrev pub IsAmiss : Window → Fault → Type 0
IsAmiss w fault.UnknownOpcode = (i : Insn) → ¬ IsOfRow (row_of i) w.word
IsAmiss w fault.ReservedNotZero = (i : Insn) × IsOfRow (row_of i) w.word × (¬ IsClean (row_of i) w)
IsAmiss w fault.HalfWide =
    (i : Insn) × IsOfRow (row_of i) w.word × (¬ IsWhole (row_of i).encoding w.next)
IsAmiss w fault.BadRegister =
    (i : Insn) × IsOfRow (row_of i) w.word × (¬ HasRegisters (row_of i) w.word)

-- the refusal with the pc that it names
abbrev pub error_at : Fault → ℕ → InsnError
error_at fault.UnknownOpcode pc = error.UnknownOpcode pc
error_at fault.ReservedNotZero pc = error.ReservedNotZero pc
error_at fault.HalfWide pc = error.HalfWide pc
error_at fault.BadRegister pc = error.BadRegister pc

-- the number of the refusal's code
abbrev pub error_number : InsnError → ℕ
error_number error.Empty = 1
error_number (error.Ragged n) = 2
error_number error.TooLong = 3
error_number (error.UnknownOpcode pc) = 4
error_number (error.ReservedNotZero pc) = 5
error_number (error.HalfWide pc) = 6
error_number (error.BadRegister pc) = 7
error_number error.OutOfMemory = 14

-- of what is wrong at one word, the lowest number is answered
abbrev pub IsFirstAmiss : Window → Fault → Type 0
IsFirstAmiss w f = IsFirst (λ (g : Fault). 0) (λ g. error_number (error_at g 0)) (IsAmiss w) f

-- at word pc, after instructions that are spelled, something is wrong
abbrev pub IsWrongAfter : List Insn → ℕ → Fault → List ℕ → Type 0
IsWrongAfter [] pc f bytes = (pc ≡ 0) × (8 ≤ length bytes) × IsFirstAmiss (window_at bytes) f
IsWrongAfter (i ∷ is) pc f bytes =
    (q : ℕ) × (pc ≡ words i + q) × BeginsWith i bytes
    × IsWrongAfter is q f (drop (8 * words i) bytes)

-- pc is the lowest at which something is wrong
abbrev pub IsWrong : ℕ → Fault → List ℕ → Type 0
IsWrong pc f bytes = (is : List Insn) × IsWrongAfter is pc f bytes

-- ---- refusals of bytes

-- how many words there may be (our own choice)
abbrev pub max_words : ℕ
max_words = 65536

-- the bytes are some whole words, and not too many
pub record IsSized (bytes : List ℕ) : Type 0 where
  pub some : bytes ≢ []
  pub whole : length bytes % 8 ≡ 0
  pub bounded : length bytes ≤ 8 * max_words

-- why bytes are refused: for their length, or else for the lowest pc; for memory only where their
-- length is right
abbrev pub IsRefused : InsnError → List ℕ → Type 0
IsRefused error.Empty bytes = bytes ≡ []
IsRefused (error.Ragged n) bytes = (n ≡ length bytes) × (length bytes % 8 ≢ 0)
IsRefused error.TooLong bytes = (length bytes % 8 ≡ 0) × (8 * max_words < length bytes)
IsRefused (error.UnknownOpcode pc) bytes = IsSized bytes × IsWrong pc fault.UnknownOpcode bytes
IsRefused (error.ReservedNotZero pc) bytes = IsSized bytes × IsWrong pc fault.ReservedNotZero bytes
IsRefused (error.HalfWide pc) bytes = IsSized bytes × IsWrong pc fault.HalfWide bytes
IsRefused (error.BadRegister pc) bytes = IsSized bytes × IsWrong pc fault.BadRegister bytes
IsRefused error.OutOfMemory bytes = IsSized bytes

-- the answer is this list, or memory was refused
abbrev pub IsAnswered : {X : Type 0} → (X → List Insn) → Result X InsnError → List Insn → Type 0
IsAnswered items result is =
    IfOk result (λ x. items x ≡ is) × IfErr result (λ e. e ≡ error.OutOfMemory)
