-- What follows from the definition of assembly text, of all texts.
use Rattle.std.specs.Prelude.{◌≡◌, ℕ, ◌++◌, List, [], Option, Result}
use Rattle.bpf_insn.specs.declared.instruction.Insn.{Insn}
use Rattle.bpf_text.specs.declared.error.TextError.{TextError}
use Rattle.bpf_text.specs.Tokens.{IsTokens}
use Rattle.bpf_text.specs.Symbols.{Table}
use Rattle.bpf_text.specs.Assembly.{Assembles, AssemblesWith, IsLine, Source}

-- a text stands for one list of instructions alone, or is refused for one reason alone, and
-- never both
abbrev pub TextsAreDetermined : Type 0
TextsAreDetermined =
    (text : List ℕ) (r q : Result (List Insn) TextError) → Assembles text r → Assembles text q
    → r ≡ q

-- the same of a text with any table of names
abbrev pub NamedTextsAreDetermined : Type 0
NamedTextsAreDetermined =
    (names : Option Table) (text : List ℕ) (r q : Result (List Insn) TextError)
    → AssemblesWith names text r → AssemblesWith names text q → r ≡ q

-- what has no tokens, as blanks and a comment, may follow a line: it stays what it is
abbrev pub CommentsSayNothing : Type 0
CommentsSayNothing =
    (line behind : List ℕ) (s : Source) → IsTokens behind [] → IsLine line s
    → IsLine (line ++ behind) s
