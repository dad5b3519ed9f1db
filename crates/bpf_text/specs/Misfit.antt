-- Where a line is refused: at the first token at which no form of the language goes on, at the
-- first number that is out of its range, or at the name that nothing has. Our own choice.
use Rattle.std.specs.Prelude.{◌≡◌, ℕ, ◌+◌, ◌<◌, ◌≤◌, ◌⊎◌, List, [], ◌∷◌, ◌++◌, length, take, drop, map, Option, Some, None, Err, OnErr}
use Rattle.bpf_spelling.specs.Token.{Tok, Number}
use Rattle.bpf_text.specs.declared.misfit.Misfit.{Misfit}
use Rattle.bpf_text.specs.declared.reading.LineError.{LineError}
use Rattle.bpf_text.specs.declared.reading.LineError.TheVariants.{BadLine, BadNumber, UnknownName}
use Rattle.bpf_text.specs.Tokens.{IsTokens, IsEnd, after_blanks, front_len}
use Rattle.bpf_text.specs.Line.{Written, IsSpelled}
use Rattle.bpf_text.specs.Symbols.{Table, Load, load_of}
use Rattle.bpf_text.specs.Assembly.{IsBodyWith, IsLineWith, Source, unlabelled}

-- ---- a line of no form

-- some form goes on after these tokens: with others they spell an instruction
abbrev pub FormGoesOn : List Tok → Type 0
FormGoesOn ts = (i : Written) × (others : List Tok) × IsSpelled i (ts ++ others)

-- a load by a name goes on after these tokens
abbrev pub LoadGoesOn : List Tok → Type 0
LoadGoesOn ts = (load : Load) × (others : List Tok) × (load_of (ts ++ others) ≡ Some load)

-- with a table of names, or with none
abbrev pub GoesOnWith : Option Table → List Tok → Type 0
GoesOnWith None ts = FormGoesOn ts
GoesOnWith (Some table) ts = FormGoesOn ts ⊎ LoadGoesOn ts

-- no form goes on at the token after this many, or there is none
abbrev pub IsLeftAt : Option Table → ℕ → List Tok → Type 0
IsLeftAt names n ts =
    GoesOnWith names (take n ts)
    × ((n ≡ length ts) ⊎ ((n < length ts) × (GoesOnWith names (take (n + 1) ts) → ⊥)))

-- ---- a number that is out of its range

abbrev pub zeroed : Tok → Tok
zeroed (Number n) = Number 0
zeroed t = t

-- this many of the tokens, and the others with 0 for each of their numbers
abbrev pub with_numbers : ℕ → List Tok → List Tok
with_numbers n ts = take n ts ++ map zeroed (drop n ts)

-- they have a form, and a number of theirs is out of its range
abbrev pub IsUnfit : Option Table → List Tok → Type 0
IsUnfit names ts = IsBodyWith names (Err BadNumber) ts

-- the first token with which one is, whatever numbers follow it
abbrev pub IsUnfitAt : Option Table → ℕ → List Tok → Type 0
IsUnfitAt names n ts =
    (n < length ts) × IsUnfit names (with_numbers (n + 1) ts)
    × ((k : ℕ) → k < n → IsUnfit names (with_numbers (k + 1) ts) → ⊥)

-- ---- THE PLACE at which a line is refused

-- a name is after `R = map` or `R = &`
abbrev pub StandsAt : Option Table → LineError → ℕ → List Tok → Type 0
StandsAt names BadLine n ts = IsLeftAt names n ts
StandsAt names BadNumber n ts = IsUnfitAt names n ts
StandsAt names UnknownName n ts = n ≡ 3

pub record IsLineRefusedAt (names : Option Table) (line : List ℕ) (m : Misfit) : Type 0 where
  pub tokens : List Tok
  pub cut_up : IsTokens line tokens
  pub refused : IsBodyWith names (Err m.why) (unlabelled tokens)
  -- how many tokens of the instruction are before it, and how many of the line
  pub behind : ℕ
  pub counted : m.token + length (unlabelled tokens) ≡ length tokens + behind
  pub stands : StandsAt names m.why behind (unlabelled tokens)

-- a line that is refused by itself is so somewhere
abbrev pub IsMisfit : Option Table → List ℕ → Option Misfit → Type 0
IsMisfit names line (Some m) = IsLineRefusedAt names line m
IsMisfit names line None = (s : Source) × IsLineWith names line s × OnErr s.body ⊥

-- ---- where the tokens of a line begin

-- this many bytes of the line are before each token of a text that is left of it, and before its
-- end
abbrev pub StandBehind : List ℕ → List ℕ → List ℕ → Type 0
StandBehind line text [] = ⊥
StandBehind line text (p ∷ []) = (p ≤ length line) × (drop p line ≡ text) × IsEnd text
StandBehind line text (p ∷ q ∷ ps) =
    (p ≤ length line) × (drop p line ≡ text) × (IsEnd text → ⊥)
    × StandBehind line (after_blanks (drop (front_len text) text)) (q ∷ ps)

abbrev pub ArePlaces : List ℕ → List ℕ → Type 0
ArePlaces line places = StandBehind line (after_blanks line) places
