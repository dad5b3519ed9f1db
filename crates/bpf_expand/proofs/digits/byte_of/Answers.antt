use Rattle.bpf_expand.proofs.DigitLemmas.{both_are, first_is_none, second_is_none}
use Rattle.bpf_expand.proofs.digits.byte_of.Goals as goal
use Rattle.bpf_expand.proofs.digits.byte_of.Goals.{else-first-lt16-via-then-first-lt16+else-second-lt16, else-first-lt16-via-else-first-lt16}

pub returns-else-first-lt16-clause-none : goal.returns-else-first-lt16-clause-none
returns-else-first-lt16-clause-none c = elim c.else-first-lt16.branch [
  | else-first-lt16-via-then-first-lt16+else-second-lt16 w ↦ second_is_none c.args.high c.args.low c.number_of-first.result
      c.number_of-second.result c.number_of-first.ensures w.if-first-lt16.true c.number_of-second.ensures w.if-second-lt16.false
  | else-first-lt16-via-else-first-lt16 w ↦ first_is_none c.args.high c.args.low c.number_of-first.result c.number_of-first.ensures w.if-first-lt16.false
]

pub returns-then-second-lt16-clause-some : goal.returns-then-second-lt16-clause-some
returns-then-second-lt16-clause-some c = both_are c.args.high c.args.low c.number_of-first.result c.number_of-second.result
    c.number_of-first.ensures c.if-first-lt16.true c.number_of-second.ensures c.if-second-lt16.true
