-- What each piece of a form leaves open, and the item that it then is.
use Rattle.std.proofs.Common.{◌≡◌, ℕ, List, [], ◌∷◌, ◌++◌, Option, None, refl}
use Rattle.std.specs.Prelude.{ℤ, pos}
use Rattle.bpf_insn.specs.declared.register.Reg.{Reg}
use Rattle.bpf_insn.specs.declared.register.Reg.TheVariants.{R0}
use Rattle.bpf_insn.specs.declared.operation.widths.Width.{Width}
use Rattle.bpf_insn.specs.declared.operation.widths.Width.TheVariants.{Bits32, Bits64}
use Rattle.bpf_insn.specs.declared.operation.arithmetic.AluOp.{AluOp}
use Rattle.bpf_insn.specs.declared.operation.arithmetic.AluOp.TheVariants as alu
use Rattle.bpf_insn.specs.declared.operation.atomics.AtomicOp.{AtomicOp}
use Rattle.bpf_insn.specs.declared.operation.atomics.AtomicOp.TheVariants as atomic
use Rattle.bpf_insn.specs.declared.operation.conditions.Condition.{Condition}
use Rattle.bpf_insn.specs.declared.operation.conditions.Condition.TheVariants as test
use Rattle.bpf_insn.specs.declared.operation.extensions.SignExtension.{SignExtension}
use Rattle.bpf_insn.specs.declared.operation.extensions.SignExtension.TheVariants as extend
use Rattle.bpf_insn.specs.declared.operation.sizes.Size.{Size}
use Rattle.bpf_insn.specs.declared.operation.sizes.Size.TheVariants as size
use Rattle.bpf_insn.specs.declared.operation.sizes.SignedSize.{SignedSize}
use Rattle.bpf_insn.specs.declared.operation.sizes.SignedSize.TheVariants as signed_size
use Rattle.bpf_insn.specs.declared.operation.swaps.ByteSwap.{ByteSwap}
use Rattle.bpf_insn.specs.declared.operation.swaps.ByteSwap.TheVariants as swap
use Rattle.bpf_insn.specs.declared.operation.swaps.SwapWidth.{SwapWidth}
use Rattle.bpf_insn.specs.declared.operation.swaps.SwapWidth.TheVariants as bits
use Rattle.bpf_insn.specs.declared.instruction.Operand.{Operand}
use Rattle.bpf_insn.specs.declared.instruction.Operand.TheVariants as operand
use Rattle.bpf_spelling.specs.declared.atomics.AtomicForm.TheVariants as form
use Rattle.bpf_spelling.specs.declared.keywords.Keyword.{Keyword}
use Rattle.bpf_spelling.specs.declared.keywords.Keyword.TheVariants as key
use Rattle.bpf_spelling.specs.declared.operators.Operator.TheVariants.{Plain, Signed as SignedBy}
use Rattle.bpf_spelling.specs.declared.signs.Sign.{Sign}
use Rattle.bpf_spelling.specs.declared.signs.Sign.TheVariants as sign
use Rattle.bpf_spelling.specs.Form.{Item, Natural, Offset, Target, word, mark, reg, cell_size, operand_item, extended_width, extended_size}
use Rattle.bpf_spelling.specs.Operators.{operator_of, comparison_of, atomic_form}
use Rattle.bpf_spelling.specs.Token.{Tok, Register, Word, Number, Mark}
use Rattle.bpf_text.specs.declared.forms.Piece.{Piece}
use Rattle.bpf_text.specs.declared.forms.Piece.TheVariants as piece
use Rattle.bpf_text.specs.Line.{ItemThen, Spells}

abbrev pub Choice : Width → Piece → Type 0
Choice w piece.Source = Reg
Choice w piece.Whole = Reg
Choice w piece.Operation = (op : AluOp) × (s : Sign) × (operator_of op ≡ Plain s)
Choice w piece.SignedOperation = (op : AluOp) × (s : Sign) × (operator_of op ≡ SignedBy s)
Choice w piece.Comparison = (c : Condition) × (s : Sign) × (comparison_of c ≡ Plain s)
Choice w piece.SignedComparison = (c : Condition) × (s : Sign) × (comparison_of c ≡ SignedBy s)
Choice w piece.LockSign = (op : AtomicOp) × (s : Sign) × (atomic_form op ≡ form.Locked s)
Choice w piece.FetchName = (op : AtomicOp) × (k : Keyword) × (atomic_form op ≡ form.Fetch k)
Choice w piece.Operand = Operand
Choice w piece.Stored = Operand
Choice w piece.Extended = (e : SignExtension) × (extended_width e ≡ w)
Choice w piece.Swap = ByteSwap × SwapWidth
Choice w piece.Unsigned = Size
Choice w piece.SignedSize = SignedSize
Choice w piece.Number = ℕ
Choice w piece.Offset = ℤ
Choice w piece.Target = ℤ × Option (List ℕ)
Choice w p = Unit {0}

abbrev pub item_of : (w : Width) (r : Reg) (p : Piece) → Choice w p → Item
item_of w r (piece.Word k) c = word k
item_of w r (piece.Mark s) c = mark s
item_of w r piece.Same c = reg w r
item_of w r piece.SameWhole c = reg Bits64 r
item_of w r piece.Source c = reg w c
item_of w r piece.Whole c = reg Bits64 c
item_of w r piece.Zero c = reg w R0
item_of w r piece.Operation c = mark c.1
item_of w r piece.SignedOperation c = mark c.1
item_of w r piece.Comparison c = mark c.1
item_of w r piece.SignedComparison c = mark c.1
item_of w r piece.LockSign c = mark c.1
item_of w r piece.FetchName c = word c.1
item_of w r piece.Operand c = operand_item w c
item_of w r piece.Stored c = operand_item Bits64 c
item_of w r piece.Extended c = word (key.Extended (extended_size c.0))
item_of w r piece.Swap c = word (key.Swap c.0 c.1)
item_of w r piece.Unsigned c = word (key.Unsigned c)
item_of w r piece.SignedSize c = word (key.Extended c)
item_of w r piece.Cell c = word (cell_size w)
item_of w r piece.Exchange c = word (key.Exchange w)
item_of w r piece.CompareExchange c = word (key.CompareExchange w)
item_of w r piece.Number c = Natural c
item_of w r piece.Offset c = Offset c
item_of w r piece.Target c = Target c.0 c.1

abbrev pub Choices : Width → List Piece → Type 0
Choices w [] = Unit {0}
Choices w (p ∷ ps) = Choice w p × Choices w ps

abbrev pub items_of : (w : Width) (r : Reg) (ps : List Piece) → Choices w ps → List Item
items_of w r [] c = []
items_of w r (p ∷ ps) c = item_of w r p c.0 ∷ items_of w r ps c.1

-- ---- each piece can be spelled, and each list of them

-- these tokens spell the piece before whatever follows
abbrev pub Opens : (w : Width) (r : Reg) (p : Piece) → Choice w p → List Tok → Type 1
Opens w r p c us = (next : List Tok → Type 0) (ts : List Tok) → next ts → ItemThen (item_of w r p c) next (us ++ ts)

abbrev Spelling : Width → Reg → Piece → Type 1
Spelling w r p = (c : Choice w p) × (us : List Tok) × Opens w r p c us

extension : (w : Width) → (e : SignExtension) × (extended_width e ≡ w)
extension Bits32 = (extend.From8To32, refl)
extension Bits64 = (extend.From8To64, refl)

spelling : (w : Width) (r : Reg) (p : Piece) → Spelling w r p
spelling w r (piece.Word k) = (tt, Word k ∷ [], λ next ts h. (refl, h))
spelling w r (piece.Mark s) = (tt, Mark s ∷ [], λ next ts h. (refl, h))
spelling w r piece.Same = (tt, Register w r ∷ [], λ next ts h. (refl, h))
spelling w r piece.SameWhole = (tt, Register Bits64 r ∷ [], λ next ts h. (refl, h))
spelling w r piece.Source = (R0, Register w R0 ∷ [], λ next ts h. (refl, h))
spelling w r piece.Whole = (R0, Register Bits64 R0 ∷ [], λ next ts h. (refl, h))
spelling w r piece.Zero = (tt, Register w R0 ∷ [], λ next ts h. (refl, h))
spelling w r piece.Operation = ((alu.Add, sign.AddAssign, refl), Mark sign.AddAssign ∷ [], λ next ts h. (refl, h))
spelling w r piece.SignedOperation = ((alu.Sdiv, sign.DivAssign, refl), Mark sign.DivAssign ∷ [], λ next ts h. (refl, h))
spelling w r piece.Comparison = ((test.Eq, sign.Equal, refl), Mark sign.Equal ∷ [], λ next ts h. (refl, h))
spelling w r piece.SignedComparison = ((test.Sgt, sign.Above, refl), Mark sign.Above ∷ [], λ next ts h. (refl, h))
spelling w r piece.LockSign = ((atomic.Add, sign.AddAssign, refl), Mark sign.AddAssign ∷ [], λ next ts h. (refl, h))
spelling w r piece.FetchName = ((atomic.FetchAdd, key.FetchAdd, refl), Word key.FetchAdd ∷ [], λ next ts h. (refl, h))
spelling w r piece.Operand = (operand.Immediate (pos 0), Number 0 ∷ [], λ next ts h. (refl, h))
spelling w r piece.Stored = (operand.Immediate (pos 0), Number 0 ∷ [], λ next ts h. (refl, h))
spelling w r piece.Extended = let e = extension w in (e, Word (key.Extended (extended_size e.0)) ∷ [], λ next ts h. (refl, h))
spelling w r piece.Swap = ((swap.ToBig, bits.Bits16), Word (key.Swap swap.ToBig bits.Bits16) ∷ [], λ next ts h. (refl, h))
spelling w r piece.Unsigned = (size.Byte, Word (key.Unsigned size.Byte) ∷ [], λ next ts h. (refl, h))
spelling w r piece.SignedSize = (signed_size.Byte, Word (key.Extended signed_size.Byte) ∷ [], λ next ts h. (refl, h))
spelling w r piece.Cell = (tt, Word (cell_size w) ∷ [], λ next ts h. (refl, h))
spelling w r piece.Exchange = (tt, Word (key.Exchange w) ∷ [], λ next ts h. (refl, h))
spelling w r piece.CompareExchange = (tt, Word (key.CompareExchange w) ∷ [], λ next ts h. (refl, h))
spelling w r piece.Number = (0, Number 0 ∷ [], λ next ts h. (refl, h))
spelling w r piece.Offset = (pos 0, Mark sign.Plus ∷ Number 0 ∷ [], λ next ts h. (refl, h))
spelling w r piece.Target = ((pos 0, None), Mark sign.Plus ∷ Number 0 ∷ [], λ next ts h. (refl, h))

-- this many pieces with what they leave open, and tokens that spell them after others
abbrev pub Completed : Width → Reg → List Piece → List Tok → Type 0
Completed w r ps ts = (c : Choices w ps) × (others : List Tok) × Spells (items_of w r ps c) (ts ++ others)

pub spelled : (w : Width) (r : Reg) (ps : List Piece) → Completed w r ps []
spelled w r [] = (tt, [], refl)
spelled w r (p ∷ ps) =
    let first = spelling w r p in
    let behind = spelled w r ps in
    ((first.0, behind.0), first.1 ++ behind.1, first.2 (Spells (items_of w r ps behind.0)) behind.1 behind.2)
