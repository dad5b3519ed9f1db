-- What the reader's loads by a name stand for, without where their names lie.
use Rattle.std.specs.Prelude.{ℕ, Bool, true, false, ◌&&◌, is_some, List, [], ◌∷◌, Option, Result, Ok, Err}
use Rattle.bpf_insn.specs.declared.instruction.Insn.{Insn}
use Rattle.bpf_insn.specs.declared.operation.widths.Width.TheVariants.{Bits64}
use Rattle.bpf_spelling.specs.declared.keywords.Keyword.TheVariants as key
use Rattle.bpf_spelling.specs.declared.signs.Sign.TheVariants as sign
use Rattle.bpf_spelling.specs.Token.{Tok, Register, Word, Number, Mark}
use Rattle.bpf_lines.specs.declared.words.Numeral.{Numeral}
use Rattle.bpf_lines.specs.Words.{numeral_value}
use Rattle.bpf_text.specs.declared.reading.LineError.{LineError}
use Rattle.bpf_text.specs.declared.reading.named.Load.{Load as RawLoad}
use Rattle.bpf_text.specs.declared.reading.named.Load.TheVariants as raw
use Rattle.bpf_text.specs.Line.{Written, name_of}
use Rattle.bpf_text.specs.Symbols.{Load, MapOf, After, Before, whole}

abbrev pub numeral_of : Numeral → ℕ
numeral_of n = numeral_value n.radix n.digits.now

abbrev pub load_view : RawLoad → Load
load_view (raw.MapOf d name) = MapOf d name.now
load_view (raw.After d name n) = After d name.now (numeral_of n)
load_view (raw.Before d name n) = Before d name.now (numeral_of n)

-- an instruction as it is written, or why there is none
abbrev pub coded : Result Insn LineError → Result (Option Written) LineError
coded (Ok i) = whole i
coded (Err e) = Err e

-- ---- whether tokens begin a load by a name

abbrev pub begins_number : List Tok → Bool
begins_number [] = true
begins_number (Number n ∷ []) = true
begins_number ts = false

abbrev pub begins_beside : List Tok → Bool
begins_beside [] = true
begins_beside (Mark sign.Plus ∷ ts) = begins_number ts
begins_beside (Mark sign.Minus ∷ ts) = begins_number ts
begins_beside ts = false

abbrev pub begins_address : List Tok → Bool
begins_address [] = true
begins_address (t ∷ ts) = is_some (name_of t) && begins_beside ts

abbrev pub begins_map : List Tok → Bool
begins_map [] = true
begins_map (t ∷ []) = is_some (name_of t)
begins_map ts = false

abbrev pub begins_name : List Tok → Bool
begins_name [] = true
begins_name (Word key.Map ∷ ts) = begins_map ts
begins_name (Mark sign.And ∷ ts) = begins_address ts
begins_name ts = false

abbrev pub begins_assigned : List Tok → Bool
begins_assigned [] = true
begins_assigned (Mark sign.Assign ∷ ts) = begins_name ts
begins_assigned ts = false

abbrev pub begins_load : List Tok → Bool
begins_load [] = true
begins_load (Register Bits64 d ∷ ts) = begins_assigned ts
begins_load ts = false
