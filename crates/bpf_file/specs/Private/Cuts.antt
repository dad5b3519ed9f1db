-- How the reader cuts a program's assembly off. Private functions cite this.
use Rattle.std.specs.Prelude.{◌≡◌, ◌≤◌, ◌+◌, ℕ, List, [], ◌∷◌, ◌++◌, length, false, true}
use Rattle.std.specs.Option.{option_copied}
use Rattle.bpf_lines.specs.Lines.{lines_of, lines_behind, rest_size}
use Rattle.bpf_file.specs.declared.assembly.Assembly.{Assembly}
use Rattle.bpf_file.specs.Programs.{text_of_lines}
use Rattle.bpf_file.specs.Reading.{is_end}

-- no line ends a program
abbrev pub AreOpen : List (List ℕ) → Type 0
AreOpen [] = Unit {0}
AreOpen (l ∷ ls) = (is_end l ≡ false) × AreOpen ls

-- of the text's lines the first that ends a program, and what is before and after it
pub record IsProgramCut (text : List ℕ) (a : Assembly) : Type 0 where
  pub body : List (List ℕ)
  pub last : List ℕ
  pub parts : lines_of text ≡ body ++ last ∷ lines_behind (option_copied a.rest)
  pub assembly : a.text.now ≡ text_of_lines body
  pub short : length a.text.now ≤ length text
  pub count : a.lines ≡ length body
  pub before : AreOpen body
  pub ended : is_end last ≡ true
  pub size : a.lines + rest_size (option_copied a.rest) ≤ length text
