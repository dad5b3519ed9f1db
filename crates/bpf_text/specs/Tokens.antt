-- The tokens of a line: the longest word, or the longest sign, one after the other. Blanks
-- (space, tab and CR) may be between them, and a comment from `;` after them (our own
-- choice).
use Rattle.std.specs.Prelude.{◌≡◌, ℕ, nat_lt, if◌then◌else◌, List, [], ◌∷◌, length, take_while, take, drop, Option, Some, None}
use Rattle.bpf_spelling.specs.declared.signs.Sign.{Sign}
use Rattle.bpf_spelling.specs.Signs.{sign_text, sign_at}
use Rattle.bpf_lines.specs.Lines.{is_blank}
use Rattle.bpf_lines.specs.Words.{is_word_byte}
use Rattle.bpf_text.specs.Words.{word_tok}
use Rattle.bpf_spelling.specs.Token.{Tok, Mark, Junk}

abbrev pub after_blanks : List ℕ → List ℕ
after_blanks text = drop (length (take_while is_blank text)) text

abbrev pub word_len : List ℕ → ℕ
word_len text = length (take_while is_word_byte text)

-- a sign, or a byte of no word and no sign
abbrev pub sign_tok : Option Sign → Tok
sign_tok (Some s) = Mark s
sign_tok None = Junk

abbrev pub sign_len : Option Sign → ℕ
sign_len (Some s) = length (sign_text s)
sign_len None = 1

-- the token that a text begins with, and its length
unfoldable pub front_tok : List ℕ → Tok
front_tok text =
    if nat_lt 0 (word_len text) then word_tok (take (word_len text) text)
    else sign_tok (sign_at text)

unfoldable pub front_len : List ℕ → ℕ
front_len text = if nat_lt 0 (word_len text) then word_len text else sign_len (sign_at text)

-- nothing is left, or a comment
abbrev pub IsEnd : List ℕ → Type 0
IsEnd [] = Unit {0}
IsEnd (b ∷ bs) = b ≡ 59

-- of a text that doesn't begin with a blank
abbrev pub AreTokens : List ℕ → List Tok → Type 0
AreTokens text [] = IsEnd text
AreTokens text (t ∷ ts) =
    (IsEnd text → ⊥) × (t ≡ front_tok text)
    × AreTokens (after_blanks (drop (front_len text) text)) ts

-- THE TOKENS of a line
abbrev pub IsTokens : List ℕ → List Tok → Type 0
IsTokens line ts = AreTokens (after_blanks line) ts
