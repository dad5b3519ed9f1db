use Rattle.bpf_replies.specs.Answer.{stats_of}
use Rattle.bpf_run.proofs.ReplyLemmas.{opened, unopened}
use Rattle.bpf_run.proofs.perform.perform_file.Goals as goal

pub returns-in-Ok-clause-replies : goal.returns-in-Ok-clause-replies
returns-in-Ok-clause-replies g c =
    opened (g.R.Source.file c.args.source.now c.args.name.now) (g.R.Source.remaining c.open.new.self) c.args.command
    (g.R.Source.has_failed c.perform_threads.new.source)
    (g.W.Sink.contents c.args.sink.now) (g.W.Sink.contents c.perform_threads.new.sink) (g.W.Sink.has_failed c.perform_threads.new.sink)
    c.perform_threads.result.status
    (stats_of c.perform_threads.result.reply) c.in-Ok.ensures.opened c.perform_threads.ensures.replies

pub returns-in-Err-clause-replies : goal.returns-in-Err-clause-replies
returns-in-Err-clause-replies g c =
    unopened (g.R.Source.file c.args.source.now c.args.name.now) c.args.command (g.R.Source.has_failed c.open.new.self)
    (g.W.Sink.contents c.args.sink.now) (g.W.Sink.contents c.answer-status.new.sink) (g.W.Sink.has_failed c.answer-status.new.sink) c.answer-status.result
    c.in-Err.ensures.told c.answer-status.ensures
