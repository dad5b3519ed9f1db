-- How operations are spelled, one row an operation (our own choice, after the notation of the Linux
-- kernel's BPF listings), and which operation is spelled so: the rows read the other way.
use Rattle.std.specs.Prelude.{Bool, false, find, Option}
use Rattle.bpf_insn.specs.declared.operation.arithmetic.AluOp.{AluOp}
use Rattle.bpf_insn.specs.declared.operation.arithmetic.AluOp.TheVariants as alu
use Rattle.bpf_insn.specs.declared.operation.conditions.Condition.{Condition}
use Rattle.bpf_insn.specs.declared.operation.conditions.Condition.TheVariants as cond
use Rattle.bpf_insn.specs.declared.operation.atomics.AtomicOp.{AtomicOp}
use Rattle.bpf_insn.specs.declared.operation.atomics.AtomicOp.TheVariants as atomic
use Rattle.bpf_spelling.specs.declared.atomics.AtomicForm.{AtomicForm}
use Rattle.bpf_spelling.specs.declared.atomics.AtomicForm.TheVariants as form
use Rattle.bpf_insn.specs.declared.operation.atomics.TheConstants.{ATOMIC_OPS}
use Rattle.bpf_spelling.specs.declared.keywords.Keyword.{Keyword}
use Rattle.bpf_spelling.specs.declared.keywords.Keyword.TheVariants as key
use Rattle.bpf_spelling.specs.declared.operators.Operator.{Operator}
use Rattle.bpf_spelling.specs.declared.operators.Operator.TheVariants.{Plain, Signed}
use Rattle.bpf_insn.specs.declared.operation.arithmetic.TheConstants.{ALU_OPS}
use Rattle.bpf_insn.specs.declared.operation.conditions.TheConstants.{CONDITIONS}
use Rattle.bpf_spelling.specs.declared.signs.Sign.{Sign}
use Rattle.bpf_spelling.specs.declared.signs.Sign.TheVariants as sign
use Rattle.bpf_spelling.specs.Names.{same_keyword}
use Rattle.bpf_spelling.specs.Signs.{same_sign}

-- what is between the two sides of an arithmetic operation
abbrev pub operator_of : AluOp → Operator
operator_of alu.Add = Plain sign.AddAssign
operator_of alu.Sub = Plain sign.SubAssign
operator_of alu.Mul = Plain sign.MulAssign
operator_of alu.Div = Plain sign.DivAssign
operator_of alu.Sdiv = Signed sign.DivAssign
operator_of alu.Or = Plain sign.OrAssign
operator_of alu.And = Plain sign.AndAssign
operator_of alu.Lsh = Plain sign.ShlAssign
operator_of alu.Rsh = Plain sign.ShrAssign
operator_of alu.Mod = Plain sign.RemAssign
operator_of alu.Smod = Signed sign.RemAssign
operator_of alu.Xor = Plain sign.XorAssign
operator_of alu.Mov = Plain sign.Assign
operator_of alu.Arsh = Signed sign.ShrAssign

-- and of a condition
abbrev pub comparison_of : Condition → Operator
comparison_of cond.Eq = Plain sign.Equal
comparison_of cond.Gt = Plain sign.Above
comparison_of cond.Ge = Plain sign.AtLeast
comparison_of cond.Set = Plain sign.And
comparison_of cond.Ne = Plain sign.NotEqual
comparison_of cond.Sgt = Signed sign.Above
comparison_of cond.Sge = Signed sign.AtLeast
comparison_of cond.Lt = Plain sign.Below
comparison_of cond.Le = Plain sign.AtMost
comparison_of cond.Slt = Signed sign.Below
comparison_of cond.Sle = Signed sign.AtMost

-- the form of an atomic operation: after `lock`, with a sign; or as a call by a name
abbrev pub atomic_form : AtomicOp → AtomicForm
atomic_form atomic.Add = form.Locked sign.AddAssign
atomic_form atomic.Or = form.Locked sign.OrAssign
atomic_form atomic.And = form.Locked sign.AndAssign
atomic_form atomic.Xor = form.Locked sign.XorAssign
atomic_form atomic.FetchAdd = form.Fetch key.FetchAdd
atomic_form atomic.FetchOr = form.Fetch key.FetchOr
atomic_form atomic.FetchAnd = form.Fetch key.FetchAnd
atomic_form atomic.FetchXor = form.Fetch key.FetchXor
atomic_form atomic.Exchange = form.Exchange
atomic_form atomic.CompareExchange = form.CompareExchange

-- ---- operations, by how they are written

abbrev pub same_operator : Operator → Operator → Bool
same_operator (Plain a) (Plain b) = same_sign a b
same_operator (Signed a) (Signed b) = same_sign a b
same_operator a b = false

unfoldable pub operation_named : Operator → Option AluOp
operation_named o = find (λ op. same_operator (operator_of op) o) ALU_OPS

unfoldable pub condition_named : Operator → Option Condition
condition_named o = find (λ c. same_operator (comparison_of c) o) CONDITIONS

abbrev pub is_locked_by : AtomicForm → Sign → Bool
is_locked_by (form.Locked other) s = same_sign other s
is_locked_by f s = false

abbrev pub is_fetched_by : AtomicForm → Keyword → Bool
is_fetched_by (form.Fetch other) k = same_keyword other k
is_fetched_by f k = false

unfoldable pub locked_op : Sign → Option AtomicOp
locked_op s = find (λ op. is_locked_by (atomic_form op) s) ATOMIC_OPS

unfoldable pub fetched_op : Keyword → Option AtomicOp
fetched_op k = find (λ op. is_fetched_by (atomic_form op) k) ATOMIC_OPS
