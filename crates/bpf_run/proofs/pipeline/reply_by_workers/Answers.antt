use Rattle.bpf_run.specs.Commands.{IsAnswer}
use Rattle.bpf_replies.proofs.Replied.{replied}
use Rattle.bpf_run.proofs.pipeline.reply_by_workers.Goals as goal

pub returns : goal.returns
returns g c = replied (IsAnswer c.args.command c.args.text.now) c.answer_by_workers.result c.of.result c.of.ensures c.answer_by_workers.ensures
