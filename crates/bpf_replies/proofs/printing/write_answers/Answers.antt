use Rattle.std.proofs.Common.{◌+◌, map, inr, refl}
use Rattle.std.specs.Option.{option_copied}
use Rattle.bpf_lines.specs.Lines.{lines_behind}
use Rattle.bpf_debug.specs.Script.{answer_of}
use Rattle.bpf_replies.specs.Answer.{first_shown, other_lines, shown_text}
use Rattle.bpf_replies.proofs.WrittenAnswers.{answers_left, next_answer, wrote_more, wrote_some}
use Rattle.bpf_replies.proofs.printing.write_answers.Goals as goal

pub returns-in_default : goal.returns-in_default
returns-in_default g c =
    let old = g.W.Sink.contents c.args.sink.now in
    let mid = g.W.Sink.contents c.loop-answer.sink in
    let new = g.W.Sink.contents c.write_next.new.sink in
    let all = shown_text (lines_behind (option_copied c.args.lines)) (map answer_of c.args.answers.now) in
    let lines = lines_behind (option_copied c.loop-answer.rest) in
    let answers = c.args.answers.now in
    let i = c.loop-answer.answer-index in
    let a = c.answer-item.result in
    let next = next_answer lines answers i a c.loop-answer-test.true c.answer-item.is in
    let begun = wrote_some old mid new all (answers_left lines answers i) (first_shown lines (answer_of a)) (answers_left (other_lines lines) answers (i + 1))
    c.loop-answer.invariant.wrote next c.in_default.ensures.begun in
    inr (begun.0, begun.1, c.in_default.ensures.told, refl)

pub loop-answer-preserved : goal.loop-answer-preserved
loop-answer-preserved g c =
    let old = g.W.Sink.contents c.args.sink.now in
    let mid = g.W.Sink.contents c.loop-answer.sink in
    let new = g.W.Sink.contents c.write_next.new.sink in
    let all = shown_text (lines_behind (option_copied c.args.lines)) (map answer_of c.args.answers.now) in
    let lines = lines_behind (option_copied c.loop-answer.rest) in
    let answers = c.args.answers.now in
    let i = c.loop-answer.answer-index in
    let a = c.answer-item.result in
    let next = next_answer lines answers i a c.loop-answer-test.true c.answer-item.is in
    let more = wrote_more old mid new all (answers_left lines answers i) (first_shown lines (answer_of a)) (answers_left (other_lines lines) answers (i + 1))
    c.loop-answer.invariant.wrote next c.in-Ok.ensures.written in
    record {
      wrote = rw c.in-Ok.ensures.behind more;
      works = c.in-Ok.ensures.told;
    }
