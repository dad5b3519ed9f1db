-- A signed quotient fits the width, but for the smallest number by -1, which is its own two's complement.
use Rattle.std.proofs.Common.{arith, w32, rules}
use Rattle.bpf_alu.specs.Arithmetic.{arithmetic}
use Rattle.bpf_alu.proofs.Quotient.{quotient_value}
use Rattle.bpf_alu.proofs.arithmetic.signed_quotient32.Goals as goal

pub returns : goal.returns
unfolding arithmetic
returns c =
    quotient_value w32 c.args.x c.args.y _ c.cast_signed.result c.cast_signed-2.result (omega arith) (omega arith) (omega arith)
    c.cast_signed.ensures c.cast_signed-2.ensures (search rules) (search (rules, c.cast_unsigned.ensures))
