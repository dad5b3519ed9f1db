-- Names in place of numbers: what a line loads by the name of a map, an array or a variable, where
-- there is a table of such names (our own choice).
use Rattle.std.specs.Prelude.{ℕ, ◌+◌, ◌-◌, ◌^◌, nat_lt, nat_le, if◌then◌else◌, List, [], ◌∷◌, Option, Some, None, option_and_then, Result, Ok, Err}
use Rattle.std.specs.Str.{bytes_eq}
use Rattle.std.specs.Option.{option_copied, option_map, option_or}
use Rattle.std.specs.HashMap.{HashMap, get_by}
use Rattle.std.specs.declared.hash.FoldHasher.{FoldHasher}
use Rattle.std.specs.declared.hash.BuildHasherDefault.{BuildHasherDefault}
use Rattle.bpf_insn.specs.declared.register.Reg.{Reg}
use Rattle.bpf_insn.specs.declared.operation.widths.Width.TheVariants.{Bits64}
use Rattle.bpf_insn.specs.declared.instruction.Insn.{Insn}
use Rattle.bpf_insn.specs.declared.instruction.Insn.TheVariants as insn
use Rattle.bpf_spelling.specs.declared.keywords.Keyword.TheVariants as key
use Rattle.bpf_spelling.specs.declared.signs.Sign.TheVariants as sign
use Rattle.bpf_spelling.specs.Token.{Tok, Register, Word, Number, Mark}
use Rattle.bpf_text.specs.declared.reading.LineError.{LineError}
use Rattle.bpf_text.specs.declared.reading.LineError.TheVariants.{BadNumber, UnknownName}
use Rattle.bpf_text.specs.declared.symbols.Symbol.{Symbol}
use Rattle.bpf_text.specs.declared.symbols.Symbol.TheVariants as symbol
use Rattle.bpf_text.specs.Line.{Written, name_of}
use denote.Ref.{Bor}

-- ---- what a name stands for

-- a table of names
abbrev pub Table : Type 0
Table = List ℕ → Option Symbol

abbrev pub Noted : Type 0
Noted = HashMap (Bor (List ℕ)) Symbol (BuildHasherDefault FoldHasher)

-- the table that was noted
abbrev pub table_of : Noted → Table
table_of m name = get_by (λ k. bytes_eq name k.now) m

abbrev pub names_in : Option (Bor Noted) → Option Table
names_in noted = option_map table_of (option_copied noted)

-- with one more name, if it stands for nothing yet
abbrev pub with_name : Table → List ℕ → Symbol → Table
with_name table name symbol q = option_or (table q) (if bytes_eq name q then Some symbol else None)

abbrev pub number_of : Symbol → Option ℕ
number_of (symbol.Map number) = Some number
number_of (symbol.Array number address) = Some number
number_of (symbol.Variable address) = None

abbrev pub address_of : Symbol → Option ℕ
address_of (symbol.Map number) = None
address_of (symbol.Array number address) = Some address
address_of (symbol.Variable address) = Some address

-- ---- what is loaded by a name

-- the number of what has the name, or an address this many bytes after or before it
pub data Load : Type 0 where
  MapOf : Reg → List ℕ → Load
  After : Reg → List ℕ → ℕ → Load
  Before : Reg → List ℕ → ℕ → Load

-- after `R = &NAME`
unfoldable pub beside : Reg → List ℕ → List Tok → Option Load
beside d name [] = Some (After d name 0)
beside d name (Mark sign.Plus ∷ Number n ∷ []) = Some (After d name n)
beside d name (Mark sign.Minus ∷ Number n ∷ []) = Some (Before d name n)
beside d name ts = None

-- after `R = &`
unfoldable pub address_loaded : Reg → List Tok → Option Load
address_loaded d [] = None
address_loaded d (t ∷ ts) = option_and_then (λ name. beside d name ts) (name_of t)

-- after `R =`
unfoldable pub name_loaded : Reg → List Tok → Option Load
name_loaded d (Word key.Map ∷ t ∷ []) = option_and_then (λ name. Some (MapOf d name)) (name_of t)
name_loaded d (Mark sign.And ∷ ts) = address_loaded d ts
name_loaded d ts = None

-- `R = map NAME`, `R = &NAME`, `R = &NAME + n` or `R = &NAME - n`
unfoldable pub load_of : List Tok → Option Load
load_of (Register Bits64 d ∷ Mark sign.Assign ∷ ts) = name_loaded d ts
load_of ts = None

-- ---- the instruction that it stands for

abbrev pub whole : Insn → Result (Option Written) LineError
whole i = Ok (Some (record { insn = i; name = None }))

abbrev pub map_load : Reg → Option ℕ → Result (Option Written) LineError
map_load d (Some number) = whole (insn.LoadMap d number)
map_load d None = Err UnknownName

-- an address that 64 bits hold
abbrev pub fitting : Reg → Option ℕ → Result (Option Written) LineError
fitting d (Some address) = whole (insn.LoadNumber d address)
fitting d None = Err BadNumber

abbrev pub sum_of : ℕ → ℕ → Option ℕ
sum_of address n = if nat_lt (address + n) (2 ^ 64) then Some (address + n) else None

abbrev pub difference_of : ℕ → ℕ → Option ℕ
difference_of address n = if nat_le n address then Some (address - n) else None

abbrev pub address_load : Reg → (ℕ → Option ℕ) → Option ℕ → Result (Option Written) LineError
address_load d shifted (Some address) = fitting d (shifted address)
address_load d shifted None = Err UnknownName

-- an instruction with its number; or the name isn't in the table, or the address has no 64 bits
abbrev pub loaded : Table → Load → Result (Option Written) LineError
loaded table (MapOf d name) = map_load d (option_and_then number_of (table name))
loaded table (After d name n) =
    address_load d (λ address. sum_of address n) (option_and_then address_of (table name))
loaded table (Before d name n) =
    address_load d (λ address. difference_of address n) (option_and_then address_of (table name))
