-- How the pieces of a line are read off the front of its tokens.
use Rattle.std.specs.Prelude.{ℕ, Bool, true, false, ◌==◌, if◌then◌else◌, List, [], ◌∷◌, Option, Some, None, option_and_then, ℤ, pos, neg_ℤ}
use Rattle.bpf_insn.specs.Register.{register_number}
use Rattle.bpf_insn.specs.declared.register.Reg.{Reg}
use Rattle.bpf_insn.specs.declared.operation.widths.Width.{Width}
use Rattle.bpf_insn.specs.declared.operation.widths.Width.TheVariants.{Bits32, Bits64}
use Rattle.bpf_insn.specs.declared.operation.extensions.SignExtension.{SignExtension}
use Rattle.bpf_insn.specs.declared.operation.extensions.SignExtension.TheVariants as extend
use Rattle.bpf_insn.specs.declared.operation.sizes.Size.TheVariants as size
use Rattle.bpf_insn.specs.declared.operation.sizes.SignedSize.{SignedSize}
use Rattle.bpf_insn.specs.declared.operation.sizes.SignedSize.TheVariants as signed_size
use Rattle.bpf_insn.specs.declared.instruction.Operand.{Operand}
use Rattle.bpf_insn.specs.declared.instruction.Operand.TheVariants as operand
use Rattle.bpf_spelling.specs.declared.keywords.Keyword.{Keyword}
use Rattle.bpf_spelling.specs.declared.keywords.Keyword.TheVariants as key
use Rattle.bpf_spelling.specs.declared.operators.Operator.{Operator}
use Rattle.bpf_spelling.specs.declared.operators.Operator.TheVariants.{Plain, Signed}
use Rattle.bpf_spelling.specs.declared.signs.Sign.TheVariants as sign
use Rattle.bpf_spelling.specs.Token.{Tok, Register, Word, Number, Mark}
use Rattle.bpf_text.specs.Line.{name_of}

infixl 10 ◌>>=◌
abbrev pub ◌>>=◌ : {A B : Type 0} → Option A → (A → Option B) → Option B
o >>= f = option_and_then f o

abbrev pub same_width : Width → Width → Bool
same_width Bits32 Bits32 = true
same_width Bits64 Bits64 = true
same_width Bits32 Bits64 = false
same_width Bits64 Bits32 = false

abbrev pub same_register : Reg → Reg → Bool
same_register r s = register_number r == register_number s

-- ---- pieces, with what follows them

pub record Address : Type 0 where
  pub base : Reg
  pub offset : ℤ
  pub rest : List Tok

pub record Place : Type 0 where
  pub size : Keyword
  pub base : Reg
  pub offset : ℤ
  pub rest : List Tok

pub record Second : Type 0 where
  pub operand : Operand
  pub rest : List Tok

pub record Middle : Type 0 where
  pub operator : Operator
  pub rest : List Tok

pub record Target : Type 0 where
  pub distance : ℤ
  pub name : Option (List ℕ)

unfoldable pub address_at : List Tok → Option Address
address_at (Register Bits64 b ∷ Mark sign.Plus ∷ Number n ∷ ts) =
    Some (record { base = b; offset = pos n; rest = ts })
address_at (Register Bits64 b ∷ Mark sign.Minus ∷ Number n ∷ ts) =
    Some (record { base = b; offset = neg_ℤ (pos n); rest = ts })
address_at ts = None

-- after `(u8 *)(R + n`
unfoldable pub closed_at : Keyword → Reg → ℤ → List Tok → Option Place
closed_at k b o (Mark sign.Close ∷ ts) = Some (record { size = k; base = b; offset = o; rest = ts })
closed_at k b o ts = None

-- after `(u8 *`
unfoldable pub pointer_at : Keyword → List Tok → Option Place
pointer_at k (Mark sign.Close ∷ Mark sign.Open ∷ ts) =
    address_at ts >>= λ a. closed_at k a.base a.offset a.rest
pointer_at k ts = None

unfoldable pub cell_at : List Tok → Option Place
cell_at (Mark sign.Open ∷ Word k ∷ Mark sign.Star ∷ ts) = pointer_at k ts
cell_at ts = None

unfoldable pub operand_at : Width → List Tok → Option Second
operand_at width (Register w r ∷ ts) =
    if same_width w width then Some (record { operand = operand.Register r; rest = ts }) else None
operand_at width (Number n ∷ ts) = Some (record { operand = operand.Immediate (pos n); rest = ts })
operand_at width (Mark sign.Minus ∷ Number n ∷ ts) =
    Some (record { operand = operand.Immediate (neg_ℤ (pos n)); rest = ts })
operand_at width ts = None

unfoldable pub label_at : Option (List ℕ) → Option Target
label_at (Some name) = Some (record { distance = pos 0; name = Some name })
label_at None = None

-- a target at the end of a line
unfoldable pub target_at : List Tok → Option Target
target_at (Mark sign.Plus ∷ Number n ∷ []) = Some (record { distance = pos n; name = None })
target_at (Mark sign.Minus ∷ Number n ∷ []) =
    Some (record { distance = neg_ℤ (pos n); name = None })
target_at (t ∷ []) = label_at (name_of t)
target_at ts = None

-- a sign, perhaps after `s`
unfoldable pub operator_at : List Tok → Option Middle
operator_at (Word key.Signed ∷ Mark s ∷ ts) = Some (record { operator = Signed s; rest = ts })
operator_at (Mark s ∷ ts) = Some (record { operator = Plain s; rest = ts })
operator_at ts = None

unfoldable pub extension_of : Width → SignedSize → Option SignExtension
extension_of Bits32 signed_size.Byte = Some extend.From8To32
extension_of Bits32 signed_size.Half = Some extend.From16To32
extension_of Bits32 signed_size.Word = None
extension_of Bits64 signed_size.Byte = Some extend.From8To64
extension_of Bits64 signed_size.Half = Some extend.From16To64
extension_of Bits64 signed_size.Word = Some extend.From32To64

unfoldable pub cell_width : Keyword → Option Width
cell_width (key.Unsigned size.Word) = Some Bits32
cell_width (key.Unsigned size.Double) = Some Bits64
cell_width k = None
