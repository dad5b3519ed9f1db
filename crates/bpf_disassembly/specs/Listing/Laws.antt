-- What follows from the definitions of listings.
use Rattle.std.specs.Prelude.{◌≡◌, ℕ, List, Result, Ok}
use Rattle.bpf_insn.specs.Encoding.{IsEncodedAs}
use Rattle.bpf_insn.specs.declared.instruction.Insn.{Insn}
use Rattle.bpf_text.specs.Assembly.{Assembles}
use Rattle.bpf_text.specs.Form.{canonical}
use Rattle.bpf_lines.specs.Lines.{lines_of}
use Rattle.bpf_text.specs.declared.error.TextError.{TextError}
use Rattle.bpf_disassembly.specs.Listing.Program.{program_lines}
use Rattle.bpf_disassembly.specs.Listing.Source.{IsSourceListing}

-- lines have one listing alone
abbrev pub SourceListingsAreDetermined : Type 0
SourceListingsAreDetermined =
    (pc : ℕ) (bytes : List ℕ) (lines : List (List ℕ)) (p q : List ℕ)
    → IsSourceListing pc bytes lines p → IsSourceListing pc bytes lines q → p ≡ q

-- the listing of a text stands for what the text stands for, instructions or a refusal, whatever
-- words it shows
abbrev pub ListingsAssembleAlike : Type 0
ListingsAssembleAlike =
    (pc : ℕ) (bytes text listing : List ℕ) (r : Result (List Insn) TextError)
    → IsSourceListing pc bytes (lines_of text) listing → Assembles text r → Assembles listing r

-- the lines of a program with their pcs and words are the listing of its canonical text
abbrev pub ProgramLinesAreAListing : Type 0
ProgramLinesAreAListing =
    (pc : ℕ) (bytes : List ℕ) (is : List Insn) → IsEncodedAs is bytes
    → IsSourceListing pc bytes (lines_of (canonical is)) (program_lines pc bytes is)

-- and they stand for the instructions whose words they show
abbrev pub ProgramLinesAssembleToTheirWords : Type 0
ProgramLinesAssembleToTheirWords =
    (pc : ℕ) (bytes : List ℕ) (is : List Insn) → IsEncodedAs is bytes
    → Assembles (program_lines pc bytes is) (Ok is)
