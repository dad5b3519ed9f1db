-- The bytes of an instruction: what the private functions of the encoder compute, and rely on.
use Rattle.std.specs.Prelude.{ℕ, ◌+◌, ◌*◌, ◌^◌, ◌<◌, List, [], ◌∷◌, ◌++◌, Option, Some, None, IfSome}
use Rattle.byteorder.specs.Endian.{little_bytes}
use Rattle.bpf_insn.specs.Table.{row_of}
use Rattle.bpf_insn.specs.Encoding.{first_word, second_word, Fits}
use Rattle.bpf_insn.specs.declared.instruction.Insn.{Insn}
use Rattle.bpf_insn.specs.declared.word.Word.{Word}

abbrev pub word_bytes : Word → List ℕ
word_bytes w = w.opcode ∷ (w.dst + 16 * w.src) ∷ (little_bytes 2 w.offset ++ little_bytes 4 w.imm)

abbrev pub second_bytes : Option Word → List ℕ
second_bytes None = []
second_bytes (Some w) = word_bytes w

abbrev pub insn_bytes : Insn → List ℕ
insn_bytes i = word_bytes (first_word (row_of i)) ++ second_bytes (second_word (row_of i).encoding)

-- the fields fit their bits
pub record IsNarrow (w : Word) : Type 0 where
  pub dst : w.dst < 16
  pub src : w.src < 16
  pub offset : w.offset < 2 ^ 16
  pub imm : w.imm < 2 ^ 32

-- an instruction whose bytes say it
pub record IsWritable (i : Insn) : Type 0 where
  pub fits : Fits i
  pub first : IsNarrow (first_word (row_of i))
  pub second : IfSome (second_word (row_of i).encoding) IsNarrow
