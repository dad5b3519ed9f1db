-- What the reader's tokens stand for, without where their texts lie.
use Rattle.bpf_lines.specs.Words.{numeral_value}
use Rattle.bpf_text.specs.declared.token.Token.{Token}
use Rattle.bpf_text.specs.declared.token.Token.TheVariants as token
use Rattle.bpf_spelling.specs.Token.{Tok, Register, Word, Name, Number, Mark, Junk}

abbrev pub look : Token → Tok
look (token.Register w r) = Register w r
look (token.Word k) = Word k
look (token.Name w) = Name w.now
look (token.Number radix digits) = Number (numeral_value radix digits.now)
look (token.Mark s) = Mark s
look token.Junk = Junk
