use Rattle.bpf_file.proofs.Puts.{closed_no, closed_yes}
use Rattle.bpf_file.proofs.statement.closed.Goals as goal

pub returns-then-last-eq93 : goal.returns-then-last-eq93
returns-then-last-eq93 c = closed_yes c.args.word.now c.in_ok-last.digits.now c.in_ok-last.last.now c.in_ok-last.ensures.cases c.if-last-eq93.true

pub returns-else-last-eq93 : goal.returns-else-last-eq93
returns-else-last-eq93 c = closed_no c.args.word.now c.in_ok-last.digits.now c.in_ok-last.last.now c.in_ok-last.ensures.cases c.if-last-eq93.false
