use Rattle.std.proofs.Common.{ℕ, List, Some, subst}
use Rattle.bpf_replies.specs.Answer.{Prints}
use Rattle.bpf_run.proofs.AsObjects.{as_objects}
use Rattle.bpf_run.proofs.objects.answer_as.Goals as goal

pub returns : goal.returns
returns g c =
    let kept = c.answer-meant.new.sink in
    let P : List ℕ → Type 0 = λ t. Prints c.args.reply.now (Some t) (Some kept.text.items) kept.cut c.answer-meant.result in
    as_objects (Prints c.args.reply.now) c.args.json (g.W.Sink.contents c.args.sink.now) (g.W.Sink.contents c.write_objects.new.sink) (Some kept.text.items)
    (g.W.Sink.has_failed c.write_objects.new.sink) kept.cut c.answer-meant.result c.write_objects.result c.nothing.result c.if-not-json.false
    (subst P c.new-kept.ensures.empty c.answer-meant.ensures) c.write_objects.ensures
