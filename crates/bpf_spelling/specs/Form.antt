-- The forms of the assembly language, one row a form (our own choice, after the notation of the
-- Linux kernel's BPF listings): what a line is made of, what tokens spell it, and its one
-- canonical text.
use Rattle.std.specs.Prelude.{ℕ, ◌+◌, ◌-◌, List, [], ◌∷◌, ◌++◌, length, replicate, codes, Option, Some, None, false, ℤ, pos, negsuc}
use Rattle.std.specs.Fmt.{decimal, signed_decimal, digits}
use Rattle.bpf_insn.specs.declared.register.Reg.{Reg}
use Rattle.bpf_insn.specs.declared.register.Reg.TheVariants.{R0}
use Rattle.bpf_insn.specs.declared.operation.widths.Width.{Width}
use Rattle.bpf_insn.specs.declared.operation.widths.Width.TheVariants.{Bits32, Bits64}
use Rattle.bpf_insn.specs.declared.operation.extensions.SignExtension.{SignExtension}
use Rattle.bpf_insn.specs.declared.operation.extensions.SignExtension.TheVariants as extend
use Rattle.bpf_insn.specs.declared.operation.sizes.Size.TheVariants as size
use Rattle.bpf_insn.specs.declared.operation.sizes.SignedSize.{SignedSize}
use Rattle.bpf_insn.specs.declared.operation.sizes.SignedSize.TheVariants as signed_size
use Rattle.bpf_insn.specs.declared.instruction.Operand.{Operand}
use Rattle.bpf_insn.specs.declared.instruction.Operand.TheVariants as operand
use Rattle.bpf_insn.specs.declared.instruction.Insn.{Insn}
use Rattle.bpf_insn.specs.declared.instruction.Insn.TheVariants as insn
use Rattle.bpf_spelling.specs.declared.atomics.AtomicForm.{AtomicForm}
use Rattle.bpf_spelling.specs.declared.atomics.AtomicForm.TheVariants as form
use Rattle.bpf_spelling.specs.declared.operators.Operator.{Operator}
use Rattle.bpf_spelling.specs.declared.operators.Operator.TheVariants.{Plain, Signed as SignedBy}
use Rattle.bpf_spelling.specs.declared.keywords.Keyword.{Keyword}
use Rattle.bpf_spelling.specs.declared.keywords.Keyword.TheVariants as key
use Rattle.bpf_spelling.specs.declared.signs.Sign.{Sign}
use Rattle.bpf_spelling.specs.declared.signs.Sign.TheVariants as sign
use Rattle.bpf_spelling.specs.Names.{register_text, keyword_text}
use Rattle.bpf_spelling.specs.Signs.{sign_text}
use Rattle.bpf_spelling.specs.Operators.{operator_of, comparison_of, atomic_form}
use Rattle.bpf_spelling.specs.Token.{Tok, Register, Word, Name, Number, Mark, Junk}

-- one piece of a form: a token; a blank of the canonical text; a number that `-` may be
-- before; a number without a sign, in decimal or as sixteen hex digits; a number that `+` or `-`
-- is before; a jump's target, which is such a number or a label's name; or what nothing
-- spells
pub data Item : Type 0 where
  Is : Tok → Item
  Blank : Item
  Signed : ℤ → Item
  Natural : ℕ → Item
  Hex : ℕ → Item
  Offset : ℤ → Item
  Target : ℤ → Option (List ℕ) → Item
  Never : Item

-- ---- the rows

abbrev pub word : Keyword → Item
word k = Is (Word k)

abbrev pub mark : Sign → Item
mark s = Is (Mark s)

abbrev pub reg : Width → Reg → Item
reg w r = Is (Register w r)

-- a sign, perhaps after `s`
abbrev pub operator_items : Operator → List Item
operator_items (Plain s) = mark s ∷ []
operator_items (SignedBy s) = word key.Signed ∷ mark s ∷ []

abbrev pub operand_item : Width → Operand → Item
operand_item w (operand.Immediate n) = Signed n
operand_item w (operand.Register r) = reg w r

-- to how many bits, and from how many, a number is sign-extended
abbrev pub extended_width : SignExtension → Width
extended_width extend.From8To32 = Bits32
extended_width extend.From16To32 = Bits32
extended_width extend.From8To64 = Bits64
extended_width extend.From16To64 = Bits64
extended_width extend.From32To64 = Bits64

abbrev pub extended_size : SignExtension → SignedSize
extended_size extend.From8To32 = signed_size.Byte
extended_size extend.From16To32 = signed_size.Half
extended_size extend.From8To64 = signed_size.Byte
extended_size extend.From16To64 = signed_size.Half
extended_size extend.From32To64 = signed_size.Word

-- `R + n`
abbrev pub address : Reg → ℤ → List Item → List Item
address b o next = reg Bits64 b ∷ Blank ∷ Offset o ∷ next

-- `(u8 *)(R + n)`
abbrev pub cell_items : Keyword → Reg → ℤ → List Item → List Item
cell_items k b o next =
    mark sign.Open ∷ word k ∷ Blank ∷ mark sign.Star ∷ mark sign.Close ∷ mark sign.Open
    ∷ address b o (mark sign.Close ∷ next)

-- an atomic operation works on as many bytes as its registers have
abbrev pub cell_size : Width → Keyword
cell_size Bits32 = key.Unsigned size.Word
cell_size Bits64 = key.Unsigned size.Double

-- `lock *(u64 *)(R + n) += R`
abbrev pub locked : Sign → Width → Reg → ℤ → Reg → List Item
locked s w b o r =
    word key.Lock ∷ Blank ∷ mark sign.Star ∷ cell_items (cell_size w) b o (Blank ∷ mark s ∷ Blank
    ∷ reg Bits64 r ∷ [])

-- `R = atomic_fetch_add((u64 *)(R + n), R)`
abbrev pub fetched : Keyword → Width → Reg → ℤ → Reg → List Item
fetched k w b o r =
    reg w r ∷ Blank ∷ mark sign.Assign ∷ Blank ∷ word k ∷ mark sign.Open
    ∷ cell_items (cell_size w) b o (mark sign.Comma ∷ Blank ∷ reg w r ∷ mark sign.Close ∷ [])

-- `R = xchg_64(R + n, R)`
abbrev pub exchanged : Width → Reg → ℤ → Reg → List Item
exchanged w b o r =
    reg w r ∷ Blank ∷ mark sign.Assign ∷ Blank ∷ word (key.Exchange w) ∷ mark sign.Open
    ∷ address b o (mark sign.Comma ∷ Blank ∷ reg w r ∷ mark sign.Close ∷ [])

-- `r0 = cmpxchg_64(R + n, r0, R)`
abbrev pub compare_exchanged : Width → Reg → ℤ → Reg → List Item
compare_exchanged w b o r =
    reg w R0 ∷ Blank ∷ mark sign.Assign ∷ Blank ∷ word (key.CompareExchange w) ∷ mark sign.Open
    ∷ address b o (mark sign.Comma ∷ Blank ∷ reg w R0
    ∷ mark sign.Comma ∷ Blank ∷ reg w r ∷ mark sign.Close ∷ [])

abbrev pub atomic_items : AtomicForm → Width → Reg → ℤ → Reg → List Item
atomic_items (form.Locked s) w b o r = locked s w b o r
atomic_items (form.Fetch k) w b o r = fetched k w b o r
atomic_items form.Exchange w b o r = exchanged w b o r
atomic_items form.CompareExchange w b o r = compare_exchanged w b o r

-- THE TABLE. A name is that of a jump's target, whose distance then stands for nothing yet and
-- is 0.
abbrev pub form_of : Insn → Option (List ℕ) → List Item
form_of (insn.Alu w op d s) None =
    reg w d ∷ Blank ∷ (operator_items (operator_of op) ++ Blank ∷ operand_item w s ∷ [])
form_of (insn.Negate w d) None =
    reg w d ∷ Blank ∷ mark sign.Assign ∷ Blank ∷ mark sign.Minus ∷ reg w d ∷ []
form_of (insn.SignExtend e d s) None =
    reg (extended_width e) d ∷ Blank ∷ mark sign.Assign ∷ Blank ∷ mark sign.Open
    ∷ word (key.Extended (extended_size e)) ∷ mark sign.Close ∷ reg (extended_width e) s ∷ []
form_of (insn.SwapBytes k b d) None =
    reg Bits64 d ∷ Blank ∷ mark sign.Assign ∷ Blank ∷ word (key.Swap k b) ∷ Blank ∷ reg Bits64 d
    ∷ []
form_of (insn.Jump o) name = word key.Goto ∷ Blank ∷ Target o name ∷ []
form_of (insn.JumpLong o) name = word key.GotoLong ∷ Blank ∷ Target o name ∷ []
form_of (insn.JumpIf w c d s o) name =
    word key.If ∷ Blank ∷ reg w d ∷ Blank ∷ (operator_items (comparison_of c) ++ Blank
    ∷ operand_item w s ∷ Blank ∷ word key.Goto ∷ Blank ∷ Target o name ∷ [])
form_of (insn.CallHelper n) None = word key.Call ∷ Blank ∷ Natural n ∷ []
form_of (insn.CallLocal o) name = word key.Call ∷ Blank ∷ Target o name ∷ []
form_of insn.Exit None = word key.Exit ∷ []
form_of (insn.Load z d b o) None =
    reg Bits64 d ∷ Blank ∷ mark sign.Assign ∷ Blank ∷ mark sign.Star
    ∷ cell_items (key.Unsigned z) b o []
form_of (insn.LoadSigned z d b o) None =
    reg Bits64 d ∷ Blank ∷ mark sign.Assign ∷ Blank ∷ mark sign.Star
    ∷ cell_items (key.Extended z) b o []
form_of (insn.StoreImmediate z b o v) None =
    mark sign.Star ∷ cell_items (key.Unsigned z) b o
    (Blank ∷ mark sign.Assign ∷ Blank ∷ Signed v ∷ [])
form_of (insn.Store z b o s) None =
    mark sign.Star ∷ cell_items (key.Unsigned z) b o
    (Blank ∷ mark sign.Assign ∷ Blank ∷ reg Bits64 s
    ∷ [])
form_of (insn.Atomic w op b o s) None = atomic_items (atomic_form op) w b o s
form_of (insn.LoadNumber d n) None =
    reg Bits64 d ∷ Blank ∷ mark sign.Assign ∷ Blank ∷ Hex n ∷ Blank ∷ word key.Wide ∷ []
form_of (insn.LoadMap d n) None =
    reg Bits64 d ∷ Blank ∷ mark sign.Assign ∷ Blank ∷ word key.Map ∷ Blank ∷ Natural n ∷ []
form_of i (Some name) = Never ∷ []

-- ---- the canonical text

abbrev pub token_text : Tok → List ℕ
token_text (Register w r) = register_text w r
token_text (Word k) = keyword_text k
token_text (Mark s) = sign_text s
token_text (Name w) = w
token_text (Number n) = decimal n
token_text Junk = []

-- `+` or `-`, the blank, if any, and the number without its sign
abbrev pub offset_text : List ℕ → ℤ → List ℕ
offset_text blank (pos n) = 43 ∷ (blank ++ decimal n)
offset_text blank (negsuc n) = 45 ∷ (blank ++ decimal (n + 1))

-- `0x` and sixteen hex digits in lower case: the shortest ones of the number, after zeros
abbrev pub wide_text : ℕ → List ℕ
wide_text n = codes "0x" ++ (replicate (16 - length (digits 16 false n)) 48 ++ digits 16 false n)

abbrev pub item_text : Item → List ℕ
item_text (Is t) = token_text t
item_text Blank = 32 ∷ []
item_text (Signed z) = signed_decimal z
item_text (Natural n) = decimal n
item_text (Hex n) = wide_text n
item_text (Offset z) = offset_text (32 ∷ []) z
item_text (Target z name) = offset_text [] z
item_text Never = []

abbrev pub text_of : List Item → List ℕ
text_of [] = []
text_of (i ∷ is) = item_text i ++ text_of is

-- the canonical line of an instruction
abbrev pub line_of : Insn → List ℕ
line_of i = text_of (form_of i None)

-- the canonical text of a program: its lines, with a line feed after each
abbrev pub canonical : List Insn → List ℕ
canonical [] = []
canonical (i ∷ is) = line_of i ++ 10 ∷ canonical is
