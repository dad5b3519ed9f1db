-- The code that a text spells. Our own choice.
use Rattle.std.specs.Prelude.{ℕ, List, Option, find}
use Rattle.std.specs.Str.{bytes_eq}
use Rattle.bpf_codes.specs.declared.code.Code.{Code}
use Rattle.bpf_codes.specs.declared.code.TheConstants.{CODES}
use Rattle.bpf_codes.specs.CodeText.{code_text}

unfoldable pub code_of : List ℕ → Option Code
code_of text = find (λ c. bytes_eq (code_text c) text) CODES
