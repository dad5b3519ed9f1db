-- The signs of the assembly language, each with its one spelling (our own choice).
use Rattle.std.specs.Prelude.{ℕ, Bool, List, [], ◌∷◌, codes, nat_eq, nat_lt, length, filter, if◌then◌else◌, Option, Some, None}
use Rattle.std.specs.List.{starts_with}
use Rattle.std.specs.Str.{bytes_eq}
use Rattle.bpf_spelling.specs.declared.signs.Sign.{Sign}
use Rattle.bpf_spelling.specs.declared.signs.Sign.TheVariants as sign
use Rattle.bpf_spelling.specs.declared.signs.TheConstants.{SIGNS}

abbrev pub sign_text : Sign → List ℕ
sign_text sign.ShlAssign = codes "<<="
sign_text sign.ShrAssign = codes ">>="
sign_text sign.AddAssign = codes "+="
sign_text sign.SubAssign = codes "-="
sign_text sign.MulAssign = codes "*="
sign_text sign.DivAssign = codes "/="
sign_text sign.OrAssign = codes "|="
sign_text sign.AndAssign = codes "&="
sign_text sign.RemAssign = codes "%="
sign_text sign.XorAssign = codes "^="
sign_text sign.Equal = codes "=="
sign_text sign.NotEqual = codes "!="
sign_text sign.AtLeast = codes ">="
sign_text sign.AtMost = codes "<="
sign_text sign.Assign = codes "="
sign_text sign.Above = codes ">"
sign_text sign.Below = codes "<"
sign_text sign.And = codes "&"
sign_text sign.Plus = codes "+"
sign_text sign.Minus = codes "-"
sign_text sign.Star = codes "*"
sign_text sign.Open = codes "("
sign_text sign.Close = codes ")"
sign_text sign.Comma = codes ","
sign_text sign.Colon = codes ":"

abbrev pub same_sign : Sign → Sign → Bool
same_sign a b = bytes_eq (sign_text a) (sign_text b)

-- of the signs that the text begins with the longest
abbrev pub longer : Sign → Option Sign → Option Sign
longer s None = Some s
longer s (Some t) = if nat_lt (length (sign_text s)) (length (sign_text t)) then Some t else Some s

abbrev pub longest : List Sign → Option Sign
longest [] = None
longest (s ∷ ss) = longer s (longest ss)

unfoldable pub sign_at : List ℕ → Option Sign
sign_at text = longest (filter (λ s. starts_with nat_eq text (sign_text s)) SIGNS)
