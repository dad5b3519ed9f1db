-- How one line's tokens are read, in the order of the reader. That it gives what the forms say,
-- and all of it, is proved in proofs/Sound and proofs/Complete.
use Rattle.std.specs.Prelude.{ℕ, ◌&&◌, if◌then◌else◌, List, [], ◌∷◌, Option, Some, None, ℤ, pos, neg_ℤ}
use Rattle.bpf_insn.specs.declared.register.Reg.{Reg}
use Rattle.bpf_insn.specs.declared.register.Reg.TheVariants.{R0}
use Rattle.bpf_insn.specs.declared.operation.widths.Width.{Width}
use Rattle.bpf_insn.specs.declared.operation.widths.Width.TheVariants.{Bits32, Bits64}
use Rattle.bpf_insn.specs.declared.operation.arithmetic.AluOp.{AluOp}
use Rattle.bpf_insn.specs.declared.operation.arithmetic.AluOp.TheVariants as alu
use Rattle.bpf_insn.specs.declared.operation.conditions.Condition.{Condition}
use Rattle.bpf_insn.specs.declared.operation.swaps.ByteSwap.{ByteSwap}
use Rattle.bpf_insn.specs.declared.operation.swaps.SwapWidth.{SwapWidth}
use Rattle.bpf_insn.specs.declared.operation.atomics.AtomicOp.{AtomicOp}
use Rattle.bpf_insn.specs.declared.operation.atomics.AtomicOp.TheVariants as atomic
use Rattle.bpf_insn.specs.declared.instruction.Operand.{Operand}
use Rattle.bpf_insn.specs.declared.instruction.Operand.TheVariants as operand
use Rattle.bpf_insn.specs.declared.instruction.Insn.{Insn}
use Rattle.bpf_insn.specs.declared.instruction.Insn.TheVariants as insn
use Rattle.bpf_spelling.specs.declared.keywords.Keyword.{Keyword}
use Rattle.bpf_spelling.specs.declared.keywords.Keyword.TheVariants as key
use Rattle.bpf_spelling.specs.declared.signs.Sign.TheVariants as sign
use Rattle.bpf_spelling.specs.Token.{Tok, Register, Word, Number, Mark}
use Rattle.bpf_text.specs.Line.{Written}
use Rattle.bpf_text.specs.Private.Pieces.{◌>>=◌, Target, same_width, same_register, address_at, cell_at, operand_at, target_at, operator_at}
use Rattle.bpf_text.specs.Private.Pieces.{extension_of, cell_width}
use Rattle.bpf_spelling.specs.Operators.{operation_named, condition_named, locked_op, fetched_op}

abbrev pub plain : Insn → Option Written
plain i = Some (record { insn = i; name = None })

-- the instruction, where the line ends
abbrev pub ends : Insn → List Tok → Option Written
ends i [] = plain i
ends i (t ∷ ts) = None

unfoldable pub alu_end : Width → Reg → AluOp → Operand → List Tok → Option Written
alu_end w d op s ts = ends (insn.Alu w op d s) ts

-- after an operation's sign
unfoldable pub alu_at : Width → Reg → AluOp → List Tok → Option Written
alu_at w d op ts = operand_at w ts >>= λ s. alu_end w d op s.operand s.rest

-- after a register
unfoldable pub operation_at : Width → Reg → List Tok → Option Written
operation_at w d ts =
    operator_at ts >>= λ m. operation_named m.operator >>= λ op. alu_at w d op m.rest

-- after `(`
unfoldable pub extend_at : Width → Reg → List Tok → Option Written
extend_at w d (Word (key.Extended z) ∷ Mark sign.Close ∷ Register v s ∷ ts) =
    if same_width v w then (extension_of w z >>= λ e. ends (insn.SignExtend e d s) ts) else None
extend_at w d ts = None

-- after `= *`
unfoldable pub loaded_at : Reg → Keyword → Reg → ℤ → List Tok → Option Written
loaded_at d (key.Unsigned z) b o ts = ends (insn.Load z d b o) ts
loaded_at d (key.Extended z) b o ts = ends (insn.LoadSigned z d b o) ts
loaded_at d k b o ts = None

unfoldable pub load_at : Width → Reg → List Tok → Option Written
load_at Bits32 d ts = None
load_at Bits64 d ts = cell_at ts >>= λ c. loaded_at d c.size c.base c.offset c.rest

unfoldable pub atomic_end : AtomicOp → Width → Reg → ℤ → Reg → List Tok → Option Written
atomic_end op w b o s ts = ends (insn.Atomic w op b o s) ts

-- after an address, `, R)`
unfoldable pub atomic_at : AtomicOp → Width → Reg → Reg → ℤ → List Tok → Option Written
atomic_at op w d b o (Mark sign.Comma ∷ Register v s ∷ Mark sign.Close ∷ ts) =
    if same_width v w && same_register s d then atomic_end op w b o d ts else None
atomic_at op w d b o ts = None

-- after `= atomic_fetch_add`
unfoldable pub fetch_at : AtomicOp → Width → Reg → List Tok → Option Written
fetch_at op w d (Mark sign.Open ∷ ts) =
    cell_at ts >>= λ c. cell_width c.size >>= λ v. if same_width v w
    then atomic_at op w d c.base c.offset c.rest else None
fetch_at op w d ts = None

-- after `= xchg_64`
unfoldable pub exchange_at : Width → Reg → List Tok → Option Written
exchange_at w d (Mark sign.Open ∷ ts) =
    address_at ts >>= λ a. atomic_at atomic.Exchange w d a.base a.offset a.rest
exchange_at w d ts = None

-- after `r0 = cmpxchg_64(R + n, r0`
unfoldable pub compared_at : Width → Reg → ℤ → List Tok → Option Written
compared_at w b o (Mark sign.Comma ∷ Register v s ∷ Mark sign.Close ∷ ts) =
    if same_width v w then atomic_end atomic.CompareExchange w b o s ts else None
compared_at w b o ts = None

-- after `r0 = cmpxchg_64(R + n`
unfoldable pub expected_at : Width → Reg → ℤ → List Tok → Option Written
expected_at w b o (Mark sign.Comma ∷ Register v R0 ∷ ts) =
    if same_width v w then compared_at w b o ts else None
expected_at w b o ts = None

-- after `R = cmpxchg_64`
unfoldable pub compare_exchange_at : Width → Reg → List Tok → Option Written
compare_exchange_at w R0 (Mark sign.Open ∷ ts) =
    address_at ts >>= λ a. expected_at w a.base a.offset a.rest
compare_exchange_at w d ts = None

unfoldable pub swap_at : Width → Reg → ByteSwap → SwapWidth → List Tok → Option Written
swap_at Bits64 d k z (Register Bits64 r ∷ ts) =
    if same_register r d then ends (insn.SwapBytes k z d) ts else None
swap_at w d k z ts = None

unfoldable pub map_at : Width → Reg → List Tok → Option Written
map_at Bits64 d (Number n ∷ ts) = ends (insn.LoadMap d n) ts
map_at w d ts = None

-- after `=` and another keyword
unfoldable pub fetched_at : Width → Reg → Keyword → List Tok → Option Written
fetched_at w d k ts = fetched_op k >>= λ op. fetch_at op w d ts

-- after `=` and a keyword
unfoldable pub keyword_at : Width → Reg → Keyword → List Tok → Option Written
keyword_at w d (key.Swap k z) ts = swap_at w d k z ts
keyword_at w d key.Map ts = map_at w d ts
keyword_at w d (key.Exchange v) ts = if same_width v w then exchange_at w d ts else None
keyword_at w d (key.CompareExchange v) ts =
    if same_width v w then compare_exchange_at w d ts else None
keyword_at w d k ts = fetched_at w d k ts

-- a number that is moved, where the line ends
unfoldable pub moved_at : Width → Reg → ℤ → List Tok → Option Written
moved_at w d z ts = ends (insn.Alu w alu.Mov d (operand.Immediate z)) ts

-- after `= n ll`
unfoldable pub wide_at : Reg → ℕ → List Tok → Option Written
wide_at d n ts = ends (insn.LoadNumber d n) ts

-- after `= -`
unfoldable pub negative_at : Width → Reg → List Tok → Option Written
negative_at w d (Register v r ∷ ts) =
    if same_width v w && same_register r d then ends (insn.Negate w d) ts else None
negative_at w d (Number n ∷ ts) = moved_at w d (neg_ℤ (pos n)) ts
negative_at w d ts = None

-- after `= n`
unfoldable pub number_at : Width → Reg → ℕ → List Tok → Option Written
number_at Bits64 d n (Word key.Wide ∷ ts) = wide_at d n ts
number_at w d n ts = moved_at w d (pos n) ts

-- after `=`
unfoldable pub assigned_at : Width → Reg → List Tok → Option Written
assigned_at w d (Mark sign.Minus ∷ ts) = negative_at w d ts
assigned_at w d (Mark sign.Open ∷ ts) = extend_at w d ts
assigned_at w d (Mark sign.Star ∷ ts) = load_at w d ts
assigned_at w d (Word k ∷ ts) = keyword_at w d k ts
assigned_at w d (Number n ∷ ts) = number_at w d n ts
assigned_at w d ts = alu_at w d alu.Mov ts

-- after a register
unfoldable pub register_at : Width → Reg → List Tok → Option Written
register_at w d (Mark sign.Assign ∷ ts) = assigned_at w d ts
register_at w d ts = operation_at w d ts

-- after `*(u8 *)(R + n) =`
unfoldable pub stored_end : Keyword → Reg → ℤ → Operand → List Tok → Option Written
stored_end (key.Unsigned z) b o (operand.Immediate n) ts = ends (insn.StoreImmediate z b o n) ts
stored_end (key.Unsigned z) b o (operand.Register r) ts = ends (insn.Store z b o r) ts
stored_end k b o s ts = None

unfoldable pub stored_at : Keyword → Reg → ℤ → List Tok → Option Written
stored_at k b o (Mark sign.Assign ∷ ts) =
    operand_at Bits64 ts >>= λ s. stored_end k b o s.operand s.rest
stored_at k b o ts = None

-- after `*`
unfoldable pub store_at : List Tok → Option Written
store_at ts = cell_at ts >>= λ c. stored_at c.size c.base c.offset c.rest

-- after `lock *(u64 *)(R + n)`
unfoldable pub locked_at : Width → Reg → ℤ → List Tok → Option Written
locked_at w b o (Mark s ∷ Register Bits64 r ∷ ts) = locked_op s >>= λ op. atomic_end op w b o r ts
locked_at w b o ts = None

-- after `lock`
unfoldable pub lock_at : List Tok → Option Written
lock_at (Mark sign.Star ∷ ts) =
    cell_at ts >>= λ c. cell_width c.size >>= λ w. locked_at w c.base c.offset c.rest
lock_at ts = None

unfoldable pub jump_at : List Tok → Option Written
jump_at ts = target_at ts >>= λ g. Some (record { insn = insn.Jump g.distance; name = g.name })

unfoldable pub jump_long_at : List Tok → Option Written
jump_long_at ts =
    target_at ts >>= λ g. Some (record { insn = insn.JumpLong g.distance; name = g.name })

unfoldable pub branch_to : Width → Condition → Reg → Operand → Target → Option Written
branch_to w c d s g = Some (record { insn = insn.JumpIf w c d s g.distance; name = g.name })

-- after `if R C R`
unfoldable pub branch_end : Width → Condition → Reg → Operand → List Tok → Option Written
branch_end w c d s (Word key.Goto ∷ ts) = target_at ts >>= λ g. branch_to w c d s g
branch_end w c d s ts = None

-- after `if`
unfoldable pub branch_at : List Tok → Option Written
branch_at (Register w d ∷ ts) =
    operator_at ts >>= λ m. condition_named m.operator >>= λ c. operand_at w m.rest
    >>= λ s. branch_end w c d s.operand s.rest
branch_at ts = None

unfoldable pub helper_at : ℕ → List Tok → Option Written
helper_at n ts = ends (insn.CallHelper n) ts

unfoldable pub call_local_at : List Tok → Option Written
call_local_at ts =
    target_at ts >>= λ g. Some (record { insn = insn.CallLocal g.distance; name = g.name })

-- after `call`
unfoldable pub call_at : List Tok → Option Written
call_at (Number n ∷ ts) = helper_at n ts
call_at ts = call_local_at ts

-- after a line's first word
unfoldable pub statement_at : Keyword → List Tok → Option Written
statement_at key.Lock ts = lock_at ts
statement_at key.If ts = branch_at ts
statement_at key.Goto ts = jump_at ts
statement_at key.GotoLong ts = jump_long_at ts
statement_at key.Call ts = call_at ts
statement_at key.Exit ts = ends insn.Exit ts
statement_at k ts = None

-- a line without its label
unfoldable pub line_at : List Tok → Option Written
line_at (Register w d ∷ ts) = register_at w d ts
line_at (Mark sign.Star ∷ ts) = store_at ts
line_at (Word k ∷ ts) = statement_at k ts
line_at ts = None
