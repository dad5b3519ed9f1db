use Rattle.std.proofs.Common.{◌≡◌, false, map}
use Rattle.std.specs.Option.{option_copied}
use Rattle.bpf_lines.specs.Lines.{lines_behind}
use Rattle.bpf_debug.specs.Script.{answer_of}
use Rattle.bpf_replies.specs.Answer.{shown_text}
use Rattle.bpf_replies.proofs.WrittenAnswers.{Wrote, answers_left}
use Rattle.bpf_replies.proofs.printing.write_answers.Given as goal

abbrev pub invariant-loop-answer : goal.invariant-loop-answer
invariant-loop-answer g l = record {
  wrote : Wrote (g.W.Sink.contents l.initial.sink) (g.W.Sink.contents l.sink) (shown_text (lines_behind (option_copied l.lines)) (map answer_of l.answers))
      (answers_left (lines_behind (option_copied l.rest)) l.answers l.answer-index);
  works : g.W.Sink.has_failed l.sink ≡ false;
}
