use Rattle.std.proofs.Common.{arith}
use Rattle.std.proofs.lemmas.Iterator.Adapters.{position_from-zero}
use Rattle.bpf_lines.specs.Lines.{lines_of}
use Rattle.bpf_check.specs.Comments.{words_of}
use Rattle.bpf_check.specs.Expectation.{is_amiss}
use Rattle.bpf_check.proofs.expectation.first_amiss.Goals as goal

pub lines-init : goal.lines-init
lines-init c = record {
  first = position_from-zero (λ line. is_amiss c.args.subjects.now (words_of line)) (lines_of c.args.text.now);
  room = omega arith;
}
