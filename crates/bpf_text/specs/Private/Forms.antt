-- The forms as lists of pieces, and how tokens fit them. That they are the language's forms, and
-- all of them, is proved in proofs/Forms.
use Rattle.std.specs.Prelude.{Bool, true, false, ◌&&◌, List, [], ◌∷◌, is_some}
use Rattle.std.specs.List.{list_any}
use Rattle.bpf_insn.specs.declared.register.Reg.{Reg}
use Rattle.bpf_insn.specs.declared.register.Reg.TheVariants.{R0}
use Rattle.bpf_insn.specs.declared.operation.widths.Width.{Width}
use Rattle.bpf_insn.specs.declared.operation.widths.Width.TheVariants.{Bits64}
use Rattle.bpf_spelling.specs.declared.keywords.Keyword.{Keyword}
use Rattle.bpf_spelling.specs.declared.keywords.Keyword.TheVariants as key
use Rattle.bpf_spelling.specs.declared.operators.Operator.TheVariants.{Plain, Signed}
use Rattle.bpf_spelling.specs.declared.registers.TheConstants.{REGISTERS}
use Rattle.bpf_spelling.specs.declared.signs.Sign.{Sign}
use Rattle.bpf_spelling.specs.declared.signs.Sign.TheVariants.{Plus, Minus}
use Rattle.bpf_spelling.specs.Form.{cell_size}
use Rattle.bpf_spelling.specs.Names.{same_keyword}
use Rattle.bpf_spelling.specs.Operators.{operation_named, condition_named, locked_op, fetched_op}
use Rattle.bpf_spelling.specs.Signs.{same_sign}
use Rattle.bpf_spelling.specs.Token.{Tok, Register, Word, Number, Mark}
use Rattle.bpf_text.specs.declared.forms.Fit.{Fit}
use Rattle.bpf_text.specs.declared.forms.Fit.TheVariants as fitting
use Rattle.bpf_text.specs.declared.forms.Piece.{Piece}
use Rattle.bpf_text.specs.declared.forms.Piece.TheVariants as piece
use Rattle.bpf_text.specs.declared.forms.Form.{Form}
use Rattle.bpf_text.specs.declared.forms.Form.TheVariants as form
use Rattle.bpf_text.specs.declared.forms.TheConstants.{FORMS, ALU, SIGNED_ALU, NEGATE, SIGN_EXTEND, SWAP_BYTES, LOAD_NUMBER, LOAD_MAP, LOAD}
use Rattle.bpf_text.specs.declared.forms.TheConstants.{LOAD_SIGNED, STORE, LOCKED, FETCHED, EXCHANGE, COMPARE_EXCHANGE, JUMP, JUMP_LONG}
use Rattle.bpf_text.specs.declared.forms.TheConstants.{BRANCH, SIGNED_BRANCH, CALL_HELPER, CALL_LOCAL, EXIT}
use Rattle.bpf_text.specs.Line.{name_of}
use Rattle.bpf_text.specs.Private.Pieces.{same_width, same_register, extension_of}

-- ---- which tokens fit a piece

abbrev pub whole_if : Bool → Fit
whole_if true = fitting.Whole
whole_if false = fitting.Not

abbrev pub is_register : Width → Reg → Tok → Bool
is_register w r (Register v s) = same_width v w && same_register s r
is_register w r t = false

abbrev pub is_of_width : Width → Tok → Bool
is_of_width w (Register v s) = same_width v w
is_of_width w t = false

abbrev pub is_word : Keyword → Tok → Bool
is_word k (Word j) = same_keyword j k
is_word k t = false

abbrev pub is_mark : Sign → Tok → Bool
is_mark s (Mark m) = same_sign m s
is_mark s t = false

abbrev pub is_operation : Tok → Bool
is_operation (Mark s) = is_some (operation_named (Plain s))
is_operation t = false

abbrev pub is_signed_operation : Tok → Bool
is_signed_operation (Mark s) = is_some (operation_named (Signed s))
is_signed_operation t = false

abbrev pub is_comparison : Tok → Bool
is_comparison (Mark s) = is_some (condition_named (Plain s))
is_comparison t = false

abbrev pub is_signed_comparison : Tok → Bool
is_signed_comparison (Mark s) = is_some (condition_named (Signed s))
is_signed_comparison t = false

abbrev pub is_lock_sign : Tok → Bool
is_lock_sign (Mark s) = is_some (locked_op s)
is_lock_sign t = false

abbrev pub is_fetch_name : Tok → Bool
is_fetch_name (Word k) = is_some (fetched_op k)
is_fetch_name t = false

abbrev pub is_extended : Width → Tok → Bool
is_extended w (Word (key.Extended z)) = is_some (extension_of w z)
is_extended w t = false

abbrev pub is_swap : Tok → Bool
is_swap (Word (key.Swap k z)) = true
is_swap t = false

abbrev pub is_unsigned : Tok → Bool
is_unsigned (Word (key.Unsigned z)) = true
is_unsigned t = false

abbrev pub is_signed_size : Tok → Bool
is_signed_size (Word (key.Extended z)) = true
is_signed_size t = false

abbrev pub is_number : Tok → Bool
is_number (Number n) = true
is_number t = false

-- a number, or its sign
abbrev pub operand_fit : Width → Tok → Fit
operand_fit w (Register v r) = whole_if (same_width v w)
operand_fit w (Number n) = fitting.Whole
operand_fit w (Mark Minus) = fitting.Sign
operand_fit w t = fitting.Not

abbrev pub offset_fit : Tok → Fit
offset_fit (Mark Plus) = fitting.Sign
offset_fit (Mark Minus) = fitting.Sign
offset_fit t = fitting.Not

abbrev pub target_fit : Tok → Fit
target_fit (Mark Plus) = fitting.Sign
target_fit (Mark Minus) = fitting.Sign
target_fit t = whole_if (is_some (name_of t))

unfoldable pub fit_of : Width → Reg → Piece → Tok → Fit
fit_of w r (piece.Word k) t = whole_if (is_word k t)
fit_of w r (piece.Mark s) t = whole_if (is_mark s t)
fit_of w r piece.Same t = whole_if (is_register w r t)
fit_of w r piece.SameWhole t = whole_if (is_register Bits64 r t)
fit_of w r piece.Source t = whole_if (is_of_width w t)
fit_of w r piece.Whole t = whole_if (is_of_width Bits64 t)
fit_of w r piece.Zero t = whole_if (is_register w R0 t)
fit_of w r piece.Operation t = whole_if (is_operation t)
fit_of w r piece.SignedOperation t = whole_if (is_signed_operation t)
fit_of w r piece.Comparison t = whole_if (is_comparison t)
fit_of w r piece.SignedComparison t = whole_if (is_signed_comparison t)
fit_of w r piece.LockSign t = whole_if (is_lock_sign t)
fit_of w r piece.FetchName t = whole_if (is_fetch_name t)
fit_of w r piece.Operand t = operand_fit w t
fit_of w r piece.Stored t = operand_fit Bits64 t
fit_of w r piece.Extended t = whole_if (is_extended w t)
fit_of w r piece.Swap t = whole_if (is_swap t)
fit_of w r piece.Unsigned t = whole_if (is_unsigned t)
fit_of w r piece.SignedSize t = whole_if (is_signed_size t)
fit_of w r piece.Cell t = whole_if (is_word (cell_size w) t)
fit_of w r piece.Exchange t = whole_if (is_word (key.Exchange w) t)
fit_of w r piece.CompareExchange t = whole_if (is_word (key.CompareExchange w) t)
fit_of w r piece.Number t = whole_if (is_number t)
fit_of w r piece.Offset t = offset_fit t
fit_of w r piece.Target t = target_fit t

-- ---- forms

-- all tokens fit the pieces, one after the other; pieces may be left
abbrev pub fits : Width → Reg → List Piece → List Tok → Bool
fits w r ps [] = true
fits w r [] (t ∷ ts) = false
fits w r (p ∷ ps) (t ∷ ts) =
    elim (fit_of w r p t) [
      | fitting.Not ↦ false
      | fitting.Whole ↦ fits w r ps ts
      | fitting.Sign ↦ fits w r (piece.Number ∷ ps) ts
    ]

abbrev pub is_not : Fit → Bool
is_not fitting.Not = true
is_not f = false

abbrev pub is_sign : Fit → Bool
is_sign fitting.Sign = true
is_sign f = false

-- after a sign its number is left too
abbrev pub left_of : Bool → List Piece → List Piece
left_of true ps = piece.Number ∷ ps
left_of false ps = ps

abbrev pub pieces : Form → List Piece
pieces form.Alu = ALU
pieces form.SignedAlu = SIGNED_ALU
pieces form.Negate = NEGATE
pieces form.SignExtend = SIGN_EXTEND
pieces form.SwapBytes = SWAP_BYTES
pieces form.LoadNumber = LOAD_NUMBER
pieces form.LoadMap = LOAD_MAP
pieces form.Load = LOAD
pieces form.LoadSigned = LOAD_SIGNED
pieces form.Store = STORE
pieces form.Locked = LOCKED
pieces form.Fetched = FETCHED
pieces form.Exchange = EXCHANGE
pieces form.CompareExchange = COMPARE_EXCHANGE
pieces form.Jump = JUMP
pieces form.JumpLong = JUMP_LONG
pieces form.Branch = BRANCH
pieces form.SignedBranch = SIGNED_BRANCH
pieces form.CallHelper = CALL_HELPER
pieces form.CallLocal = CALL_LOCAL
pieces form.Exit = EXIT

-- they begin a form that is taken with this width and register
abbrev pub begins_form : Width → Reg → List Tok → Bool
begins_form w r ts = list_any (λ f. fits w r (pieces f) ts) FORMS

abbrev pub begins : List Tok → Bool
begins ts = list_any (λ r. begins_form r.0 r.1 ts) REGISTERS
