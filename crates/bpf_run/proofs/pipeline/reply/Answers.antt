use Rattle.bpf_run.specs.Commands.{IsAnswer}
use Rattle.bpf_replies.proofs.Replied.{replied}
use Rattle.bpf_run.proofs.pipeline.reply.Goals as goal

pub returns : goal.returns
returns g c = replied (IsAnswer c.args.command c.args.text.now) c.answer_to.result c.of.result c.of.ensures c.answer_to.ensures
