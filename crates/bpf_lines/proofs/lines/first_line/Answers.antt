use Rattle.bpf_lines.proofs.LineCuts.{lines_cut, lines_last}
use Rattle.bpf_lines.proofs.lines.first_line.Goals as goal

pub returns-then-len-text-clause-lines : goal.returns-then-len-text-clause-lines
returns-then-len-text-clause-lines c = lines_cut c.args.text.now c.line_len-len.result c.line_len-len.ensures.value c.if-len-text.true

pub returns-else-len-text-clause-lines : goal.returns-else-len-text-clause-lines
returns-else-len-text-clause-lines c = lines_last c.args.text.now c.line_len-len.result c.line_len-len.ensures.value c.if-len-text.false
