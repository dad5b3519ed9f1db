-- Programs of a run file, as assembly or as hex digits, and why they are refused (our own choice).
use Rattle.std.specs.Prelude.{◌≡◌, ◌≢◌, ℕ, ◌+◌, List, [], ◌∷◌, ◌++◌, Option, Result, Ok, Err, MatchResult}
use Rattle.hex.specs.Hex.{decode_of}
use Rattle.bpf_insn.specs.declared.instruction.Insn.{Insn}
use Rattle.bpf_insn.specs.declared.error.InsnError.{InsnError}
use Rattle.bpf_insn.specs.declared.error.InsnError.TheVariants as insn
use Rattle.bpf_insn.specs.Encoding.{IsEncodedAs}
use Rattle.bpf_insn.specs.Refusal.{IsSized, IsRefused}
use Rattle.bpf_text.specs.declared.error.TextError.{TextError}
use Rattle.bpf_text.specs.declared.error.TextError.TheVariants as text
use Rattle.bpf_text.specs.Assembly.{AssemblesWith}
use Rattle.bpf_text.specs.Symbols.{Table}
use Rattle.bpf_loader.specs.declared.refusal.LoadError.{LoadError}
use Rattle.bpf_loader.specs.declared.named.Named.{Named}
use Rattle.bpf_loader.specs.Loaded.{Loaded}
use Rattle.bpf_loader.specs.Sound.{IsSound, IsFirstRefusal}
use Rattle.bpf_file.specs.declared.error.FileError.{FileError}
use Rattle.bpf_file.specs.declared.error.FileError.TheVariants.{Refused, OutOfMemory}
use Rattle.bpf_file.specs.declared.error.Reason.TheVariants as reason

-- the program of these instructions, where these maps and arrays may be named; or its first
-- refusal, at this line
abbrev pub LoadsProgram : ℕ → Named → List Insn → Result Loaded FileError → Type 0
LoadsProgram line named is (Ok program) =
    (program ≡ record { instructions = is; named = named }) × IsSound named is
LoadsProgram line named is (Err e) =
    (why : LoadError) × (e ≡ Refused line (reason.Load why)) × IsFirstRefusal named is why

-- ---- as hex digits

-- the instructions of bytes, or why they are none
abbrev pub Decodes : List ℕ → Result (List Insn) InsnError → Type 0
Decodes bytes (Ok is) = IsSized bytes × IsEncodedAs is bytes
Decodes bytes (Err e) = IsRefused e bytes × (e ≢ insn.OutOfMemory)

abbrev pub OfBytes : ℕ → Named → List ℕ → Result Loaded FileError → Type 0
OfBytes line named bytes r =
    (o : Result (List Insn) InsnError) × Decodes bytes o
    × MatchResult o (λ is. LoadsProgram line named is r)
    (λ e. r ≡ Err (Refused line (reason.Insn e)))

-- the program in this line's digits; or its refusal
abbrev pub OfDigits : ℕ → Named → List ℕ → Result Loaded FileError → Type 0
OfDigits line named digits r =
    MatchResult (decode_of digits) (λ bytes. OfBytes line named bytes r)
    (λ e. r ≡ Err (Refused line reason.NotHex))

-- ---- as assembly

-- lines, each with its line feed
abbrev pub text_of_lines : List (List ℕ) → List ℕ
text_of_lines [] = []
text_of_lines (l ∷ ls) = l ++ 10 ∷ text_of_lines ls

-- a refusal of assembly that follows this line of the file
abbrev pub refusal_behind : ℕ → TextError → FileError
refusal_behind line (text.BadLine n) = Refused (line + n) reason.BadInstruction
refusal_behind line (text.BadNumber n) = Refused (line + n) reason.BadOperand
refusal_behind line (text.UnknownLabel n) = Refused (line + n) reason.UnknownLabel
refusal_behind line (text.TwiceLabel n) = Refused (line + n) reason.TwiceLabel
refusal_behind line (text.FarLabel n) = Refused (line + n) reason.FarLabel
refusal_behind line text.OutOfMemory = OutOfMemory

-- the program in the assembly after this line, which may use the names of a table, if there is
-- one; or its refusal: of the first line that has one, or else of the whole program, at the line of
-- its `prog`
abbrev pub OfAssembly : ℕ → Named → Option Table → List ℕ → Result Loaded FileError → Type 0
OfAssembly line named names assembly r =
    (o : Result (List Insn) TextError) × AssemblesWith names assembly o
    × MatchResult o (λ is. LoadsProgram line named is r) (λ e. r ≡ Err (refusal_behind line e))
