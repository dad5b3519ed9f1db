use Rattle.std.proofs.Common.{List, ℕ, ap, ◌∙◌}
use Rattle.std.specs.Prelude.{codes}
use Rattle.bpf_replies.specs.Answer.{IsPrinted, reply_text, status_of}
use Rattle.bpf_replies.specs.declared.reply.Reply.TheVariants as reply
use Rattle.bpf_replies.specs.declared.reply.Status.{Status}
use Rattle.bpf_replies.specs.declared.reply.Status.TheVariants as status
use Rattle.bpf_replies.proofs.WrittenAnswers.{printed_line}
use Rattle.bpf_replies.proofs.printing.answer.Goals as goal

pub returns-in-Ended : goal.returns-in-Ended
returns-in-Ended g c =
    let r = reply.Ended c.in-Ended.outcome in
    let P : List ℕ → Status → Type 0 = λ text s. IsPrinted text s (g.W.Sink.contents c.args.sink.now)
    (g.W.Sink.contents c.write_line.new.sink) (g.W.Sink.has_failed c.write_line.new.sink) c.write_line.result in
    rw c.in-Ended.is (printed_line c.format-line.result (reply_text r) c.status-in-Ended.result (status_of r) P (P (codes "refused L9\n") status.Refused)
    (c.status-in-Ended.ensures ∙ ap status_of c.in-Ended.is) c.format-line.ensures.ok c.write_line.ensures.line c.write_line.ensures.memory)

pub returns-in-Refused : goal.returns-in-Refused
returns-in-Refused g c =
    let r = reply.Refused c.in-Refused.refusal in
    let P : List ℕ → Status → Type 0 = λ text s. IsPrinted text s (g.W.Sink.contents c.args.sink.now)
    (g.W.Sink.contents c.write_line-in-Refused.new.sink) (g.W.Sink.has_failed c.write_line-in-Refused.new.sink)
    c.write_line-in-Refused.result in
    rw c.in-Refused.is (printed_line c.format-line-in-Refused.result (reply_text r) c.status-in-Refused.result (status_of r) P
    (P (codes "refused L9\n") status.Refused)
    (c.status-in-Refused.ensures ∙ ap status_of c.in-Refused.is) c.format-line-in-Refused.ensures.ok c.write_line-in-Refused.ensures.line
    c.write_line-in-Refused.ensures.memory)
