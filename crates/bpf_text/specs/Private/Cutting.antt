-- Cutting a line into tokens. Private functions cite this.
use Rattle.std.specs.Prelude.{◌≡◌, ℕ, ◌≤◌, ◌<◌, ◌⊎◌, List, [], ◌∷◌, ◌++◌, length}
use Rattle.bpf_text.specs.declared.token.Token.{Token}
use Rattle.bpf_spelling.specs.Token.{Tok}
use Rattle.bpf_text.specs.Tokens.{IsTokens}

-- all tokens of a line, or more of them than any form has
abbrev pub BeginTokens : List ℕ → List Tok → Type 0
BeginTokens line ts =
    (rest : List Tok) × IsTokens line (ts ++ rest) × ((rest ≡ []) ⊎ (64 ≤ length ts))

-- a token is put after the others, unless there are that many
abbrev pub KeepsToken : List Token → Token → List Token → Type 0
KeepsToken old token new =
    ((length old < 64) × (new ≡ old ++ token ∷ [])) ⊎ ((64 ≤ length old) × (new ≡ old))
