-- A signed remainder fits the width.
use Rattle.std.proofs.Common.{arith, w32, rules}
use Rattle.bpf_alu.specs.Arithmetic.{arithmetic}
use Rattle.bpf_alu.proofs.Quotient.{remainder_value}
use Rattle.bpf_alu.proofs.arithmetic.signed_remainder32.Goals as goal

pub returns : goal.returns
unfolding arithmetic
returns c =
    remainder_value w32 c.args.x c.args.y _ c.cast_signed.result c.cast_signed-2.result (omega arith) (omega arith) (omega arith)
    c.cast_signed.ensures c.cast_signed-2.ensures (search rules) (search (rules, c.cast_unsigned.ensures))
