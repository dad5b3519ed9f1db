-- Words looked up among some registers or keywords, and signs in a list's order. Private functions
-- cite this.
use Rattle.std.specs.Prelude.{ℕ, List, find, nat_eq, Option}
use Rattle.std.specs.List.{starts_with}
use Rattle.std.specs.Str.{bytes_eq}
use Rattle.bpf_insn.specs.declared.register.Reg.{Reg}
use Rattle.bpf_insn.specs.declared.operation.widths.Width.{Width}
use Rattle.bpf_spelling.specs.declared.keywords.Keyword.{Keyword}
use Rattle.bpf_spelling.specs.declared.signs.Sign.{Sign}
use Rattle.bpf_spelling.specs.declared.signs.TheConstants.{SIGNS}
use Rattle.bpf_spelling.specs.Names.{register_text, keyword_text}
use Rattle.bpf_spelling.specs.Signs.{sign_text}

abbrev pub named : List (Width × Reg) → List ℕ → Option (Width × Reg)
named rs w = find (λ r. bytes_eq (register_text r.0 r.1) w) rs

abbrev pub spelled : List Keyword → List ℕ → Option Keyword
spelled ks w = find (λ k. bytes_eq (keyword_text k) w) ks

-- the first sign of the list that the text begins with
abbrev pub first_sign : List ℕ → Option Sign
first_sign text = find (λ s. starts_with nat_eq text (sign_text s)) SIGNS
