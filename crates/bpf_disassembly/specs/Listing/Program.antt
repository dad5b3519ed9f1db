-- A program's canonical lines, each with its pc and its words after it, as a comment of the
-- assembly language. Our own choice.
use Rattle.std.specs.Prelude.{ℕ, ◌+◌, ◌*◌, ◌++◌, List, [], ◌∷◌, codes, drop, take}
use Rattle.std.specs.Fmt.{decimal}
use Rattle.hex.specs.Hex.{encode_lower}
use Rattle.bpf_insn.specs.Table.{words}
use Rattle.bpf_insn.specs.declared.instruction.Insn.{Insn}
use Rattle.bpf_text.specs.Form.{line_of}

-- a comment with the pc, counted in words, and the words' bytes as hex digits
abbrev pub place_comment : ℕ → List ℕ → List ℕ
place_comment pc bytes = codes " ; " ++ decimal pc ++ codes ": " ++ encode_lower bytes

-- the line of the instruction whose words the bytes begin with
abbrev pub line_at : ℕ → List ℕ → Insn → List ℕ
line_at pc bytes i = line_of i ++ (place_comment pc (take (8 * words i) bytes) ++ codes "\n")

-- the lines of a program, from a pc and its bytes on
abbrev pub program_lines : ℕ → List ℕ → List Insn → List ℕ
program_lines pc bytes [] = []
program_lines pc bytes (i ∷ is) =
    line_at pc bytes i ++ program_lines (pc + words i) (drop (8 * words i) bytes) is
