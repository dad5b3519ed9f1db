use Rattle.bpf_replies.proofs.Replied.{words_run}
use Rattle.bpf_replies.proofs.programs.assembled_run.Goals as goal

pub returns : goal.returns
returns c =
    words_run c.args.options.budget c.args.options.context.items c.args.text.now c.as_str.result.now c.in_ok-words.words c.run.result
    c.in_ok-words.ensures.shown c.as_str.ensures.value c.run.ensures
