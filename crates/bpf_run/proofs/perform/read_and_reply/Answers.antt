use Rattle.std.proofs.Common.{ℕ, List, Err, ap, subst}
use Rattle.bpf_run.specs.Commands.{IsReply}
use Rattle.bpf_replies.specs.declared.input.InputError.{InputError}
use Rattle.bpf_run.proofs.ReplyLemmas.{replied, unread}
use Rattle.bpf_run.proofs.perform.read_and_reply.Goals as goal

pub returns-in-Ok-clause-reply : goal.returns-in-Ok-clause-reply
returns-in-Ok-clause-reply g c =
    let made = subst (λ (bytes : List ℕ). IsReply c.args.command bytes c.reply_to-made.result) c.deref.ensures.value c.reply_to-made.ensures.reply in
    replied (g.R.Source.remaining c.args.source.now) c.args.command c.in-Ok.input.items c.reply_to-made.result c.in-Ok.ensures.whole made

pub returns-in-Err-clause-reply : goal.returns-in-Err-clause-reply
returns-in-Err-clause-reply g c =
    unread (g.R.Source.remaining c.args.source.now) c.args.command c.in-Err.error
    (λ long. c.in-Err.ensures.too_long (ap (λ (e : InputError). Err e) long))
