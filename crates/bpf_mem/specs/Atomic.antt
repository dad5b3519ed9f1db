-- What the atomic operations of instructions leave in memory (RFC 9669, section 5.3).
use Rattle.std.specs.Prelude.{ℕ}
use Rattle.bpf_base.specs.Atomic.{number_after}
use Rattle.bpf_insn.specs.Atomic.{change_of}
use Rattle.bpf_insn.specs.declared.operation.atomics.AtomicOp.{AtomicOp}
use Rattle.bpf_insn.specs.declared.operation.widths.Width.{Width}
use Rattle.bpf_mem.specs.Bytes.{length_of, size_of}

-- the number that is left where `before` stood
abbrev pub number_left : AtomicOp → Width → ℕ → ℕ → ℕ → ℕ
number_left op width before operand expected =
    number_after (change_of op) (length_of (size_of width)) before operand expected
