use Rattle.std.proofs.Common.{◌≡◌, Err, ap, refl}
use Rattle.bpf_replies.specs.Answer.{stats_of}
use Rattle.bpf_run.specs.Conversing.{Converses}
use Rattle.bpf_replies.specs.declared.input.InputError.{InputError}
use Rattle.bpf_run.proofs.Opened.{not_read, was_read}
use Rattle.bpf_run.proofs.conversing.talk_named.Goals as goal

pub returns-in-Ok : goal.returns-in-Ok
returns-in-Ok g c =
    let hears = c.args.terminal.now in
    let heard = c.talk_input.new.terminal in
    was_read c.args.asked.partner (g.R.Source.file c.args.source.now c.args.asked.name.now) c.in-Ok.input.items (heard ≡ hears)
    (Converses (g.D.Terminal.passes hears heard) (g.D.Terminal.is_unread heard) (g.D.Terminal.has_failed heard) c.args.asked.partner)
    (g.R.Source.has_failed c.read_named.new.source) (g.W.Sink.contents c.args.sink.now) (g.W.Sink.contents c.talk_input.new.sink)
    (g.W.Sink.has_failed c.talk_input.new.sink)
    c.talk_input.result.status (stats_of c.talk_input.result.reply) c.in-Ok.ensures.unread c.in-Ok.ensures.whole c.talk_input.ensures

pub returns-in-Err : goal.returns-in-Err
returns-in-Err g c =
    let hears = c.args.terminal.now in
    not_read c.args.asked.partner (g.R.Source.file c.args.source.now c.args.asked.name.now) c.in-Err.error c.print_reply.result.reply (hears ≡ hears)
    (Converses (g.D.Terminal.passes hears hears) (g.D.Terminal.is_unread hears) (g.D.Terminal.has_failed hears) c.args.asked.partner)
    (g.R.Source.has_failed c.read_named.new.source) (g.W.Sink.contents c.args.sink.now) (g.W.Sink.contents c.print_reply.new.sink)
    (g.W.Sink.has_failed c.print_reply.new.sink)
    c.print_reply.result.status (λ long. c.in-Err.ensures.too_long (ap (λ (e : InputError). Err e) long)) c.in-Err.ensures.unread refl
    c.print_reply.ensures.same c.print_reply.ensures.printed
