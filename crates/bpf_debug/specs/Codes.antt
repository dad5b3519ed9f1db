-- The codes that are printed of refusals (our own choice).
use Rattle.std.specs.Prelude.{ℕ, List, ◌++◌, codes}
use Rattle.bpf_codes.specs.declared.code.Code.{Code}
use Rattle.bpf_codes.specs.declared.code.Code.TheVariants as code
use Rattle.bpf_codes.specs.CodeText.{code_text}
use Rattle.bpf_debug.specs.declared.error.DebugError.{DebugError}
use Rattle.bpf_debug.specs.declared.error.DebugError.TheVariants as error

-- G1 to G5
abbrev pub refusal_code : DebugError → Code
refusal_code error.NoCpu = code.G1
refusal_code error.NoPc = code.G2
refusal_code error.NoMap = code.G3
refusal_code error.BadCommand = code.G4
refusal_code error.OutOfMemory = code.G5
refusal_code error.BadOperand = code.G4

-- the line of one
abbrev pub refusal_line : DebugError → List ℕ
refusal_line e = codes "refused " ++ code_text (refusal_code e) ++ codes "\n"
