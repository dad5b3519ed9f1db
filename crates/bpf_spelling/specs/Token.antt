-- What lines are made of.
use Rattle.std.specs.Prelude.{ℕ, List}
use Rattle.bpf_insn.specs.declared.register.Reg.{Reg}
use Rattle.bpf_insn.specs.declared.operation.widths.Width.{Width}
use Rattle.bpf_spelling.specs.declared.keywords.Keyword.{Keyword}
use Rattle.bpf_spelling.specs.declared.signs.Sign.{Sign}

-- a word, by what it is: a register's name, a keyword, a number of any size, or any other name;
-- a sign; junk, which no form has
pub data Tok : Type 0 where
  Register : Width → Reg → Tok
  Word : Keyword → Tok
  Name : List ℕ → Tok
  Number : ℕ → Tok
  Mark : Sign → Tok
  Junk : Tok
