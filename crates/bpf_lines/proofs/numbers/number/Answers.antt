use Rattle.std.proofs.Common.{rules}
use Rattle.bpf_lines.proofs.DigitLemmas.{too_large_at, at_end}
use Rattle.bpf_lines.proofs.numbers.number.Goals as goal

pub returns-in_err-checked_mul : goal.returns-in_err-checked_mul
returns-in_err-checked_mul c =
    rw c.from_residual.ensures
    (too_large_at c.args.base c.loop-b.n c.args.digits.now c.loop-b.b-index _ c.requires.some c.loop-b-test.true c.loop-b.invariant
    (search (rules, c.from.ensures, c.in_err-checked_mul.ensures)))

pub returns-in_err-n : goal.returns-in_err-n
returns-in_err-n c =
    rw c.from_residual-in_err-n.ensures
    (too_large_at c.args.base c.loop-b.n c.args.digits.now c.loop-b.b-index _ c.requires.some c.loop-b-test.true c.loop-b.invariant
    (search (rules, c.in_err-n.ensures)))

pub returns : goal.returns
returns c = at_end c.args.base c.loop-b.n c.args.digits.now c.loop-b.b-index _ c.loop-b-test.false c.loop-b.invariant
