-- What a word of assembly text is: a register's name, a keyword, a number or another name (our own
-- choice).
use Rattle.std.specs.Prelude.{ℕ, if◌then◌else◌, List, Option, Some, None}
use Rattle.bpf_insn.specs.declared.register.Reg.{Reg}
use Rattle.bpf_insn.specs.declared.operation.widths.Width.{Width}
use Rattle.bpf_lines.specs.Words.{begins_with_digit, written_number}
use Rattle.bpf_spelling.specs.declared.keywords.Keyword.{Keyword}
use Rattle.bpf_spelling.specs.Names.{register_of, keyword_of}
use Rattle.bpf_spelling.specs.Token.{Tok, Register, Word, Name, Number, Junk}

-- a word that begins with a digit and is no number is junk
abbrev pub number_or_junk : Option ℕ → Tok
number_or_junk (Some n) = Number n
number_or_junk None = Junk

abbrev pub number_tok : List ℕ → Tok
number_tok w = number_or_junk (written_number w)

abbrev pub keyword_or_name : Option Keyword → List ℕ → Tok
keyword_or_name (Some k) w = Word k
keyword_or_name None w = Name w

abbrev pub named_tok : Option (Width × Reg) → Option Keyword → List ℕ → Tok
named_tok (Some r) k w = Register r.0 r.1
named_tok None k w = keyword_or_name k w

-- what a word is
unfoldable pub word_tok : List ℕ → Tok
word_tok w =
    if begins_with_digit w then number_tok w else named_tok (register_of w) (keyword_of w) w
