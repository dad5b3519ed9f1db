-- What is printed of a refusal: its code and, after it, the number of the place that it names. Our
-- own choice.
use Rattle.std.specs.Prelude.{ℕ, ◌++◌, List, [], codes}
use Rattle.std.specs.Fmt.{decimal}
use Rattle.bpf_codes.specs.declared.code.Code.{Code}
use Rattle.bpf_codes.specs.declared.diagnostic.Diagnostic.{Diagnostic}
use Rattle.bpf_codes.specs.declared.diagnostic.Position.{Position}
use Rattle.bpf_codes.specs.declared.diagnostic.Position.TheVariants as position
use Rattle.bpf_codes.specs.CodeText.{code_text}

abbrev pub somewhere : Code → Position → Diagnostic
somewhere code place = record { code = code; position = place }

abbrev pub nowhere : Code → Diagnostic
nowhere code = somewhere code position.Nowhere

-- a line, from 1
abbrev pub at_line : Code → ℕ → Diagnostic
at_line code line = somewhere code (position.Line line)

-- an instruction, by its place in words from 0
abbrev pub at_pc : Code → ℕ → Diagnostic
at_pc code pc = somewhere code (position.Pc pc)

-- a length in bytes
abbrev pub with_length : Code → ℕ → Diagnostic
with_length code length = somewhere code (position.Length length)

abbrev pub position_text : Position → List ℕ
position_text position.Nowhere = []
position_text (position.Line line) = codes " " ++ decimal line
position_text (position.Pc pc) = codes " " ++ decimal pc
position_text (position.Length length) = codes " " ++ decimal length

abbrev pub diagnostic_text : Diagnostic → List ℕ
diagnostic_text d = code_text d.code ++ position_text d.position
