-- The atomic operations (RFC 9669, section 5.3): the immediate of each, what it makes of the number
-- in memory, and the register that gets the number found.
use Rattle.std.specs.Prelude.{ℕ, Option, Some, None}
use Rattle.bpf_base.specs.declared.atomic.Change.{Change}
use Rattle.bpf_base.specs.declared.atomic.Change.TheVariants as change
use Rattle.bpf_insn.specs.declared.register.Reg.{Reg}
use Rattle.bpf_insn.specs.declared.register.Reg.TheVariants.{R0}
use Rattle.bpf_insn.specs.declared.operation.atomics.AtomicOp.{AtomicOp}
use Rattle.bpf_insn.specs.declared.operation.atomics.AtomicOp.TheVariants.{Add, Or, And, Xor, FetchAdd, FetchOr, FetchAnd, FetchXor, Exchange, CompareExchange}

-- FETCH is the lowest bit of the immediate
abbrev pub atomic_code : AtomicOp → ℕ
atomic_code Add = 0x00
atomic_code Or = 0x40
atomic_code And = 0x50
atomic_code Xor = 0xa0
atomic_code FetchAdd = 0x01
atomic_code FetchOr = 0x41
atomic_code FetchAnd = 0x51
atomic_code FetchXor = 0xa1
atomic_code Exchange = 0xe1
atomic_code CompareExchange = 0xf1

-- what the operation does with the number in memory, with FETCH or without
abbrev pub change_of : AtomicOp → Change
change_of Add = change.Add
change_of Or = change.Or
change_of And = change.And
change_of Xor = change.Xor
change_of FetchAdd = change.Add
change_of FetchOr = change.Or
change_of FetchAnd = change.And
change_of FetchXor = change.Xor
change_of Exchange = change.Exchange
change_of CompareExchange = change.CompareExchange

-- an operation with FETCH, and XCHG, put the number found in src; CMPXCHG puts it in R0
abbrev pub fetched_into : AtomicOp → Reg → Option Reg
fetched_into Add src = None
fetched_into Or src = None
fetched_into And src = None
fetched_into Xor src = None
fetched_into FetchAdd src = Some src
fetched_into FetchOr src = Some src
fetched_into FetchAnd src = Some src
fetched_into FetchXor src = Some src
fetched_into Exchange src = Some src
fetched_into CompareExchange src = Some R0
