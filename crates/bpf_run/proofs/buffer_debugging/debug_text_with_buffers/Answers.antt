use Rattle.std.proofs.Common.{◌≡◌, refl}
use Rattle.bpf_replies.specs.Answer.{stats_of}
use Rattle.bpf_run.specs.Conversing.{Converses}
use Rattle.bpf_replies.specs.BufferScript.{buffer_scene_of}
use Rattle.bpf_run.specs.declared.conversing.Partner.TheVariants as partner
use Rattle.bpf_run.proofs.BufferOpened.{replied, talked}
use Rattle.bpf_run.proofs.buffer_debugging.debug_text_with_buffers.Goals as goal

pub returns-in-Reply : goal.returns-in-Reply
returns-in-Reply g c =
    let hears = c.args.terminal.now in
    replied c.args.echo c.args.strict c.args.text.now c.in-Reply.reply (hears ≡ hears)
    (Converses (g.D.Terminal.passes hears hears) (g.D.Terminal.is_unread hears) (g.D.Terminal.has_failed hears)
    (partner.BufferDebugger c.args.echo c.args.strict))
    (g.W.Sink.contents c.args.sink.now) (g.W.Sink.contents c.answer.new.sink) (g.W.Sink.has_failed c.answer.new.sink) c.answer.result
    c.requires.short c.requires.utf8 refl c.in-Reply.ensures c.answer.ensures

pub returns-in-Talk : goal.returns-in-Talk
returns-in-Talk g c =
    let hears = c.args.terminal.now in
    let heard = c.converse.new.terminal in
    talked c.args.echo c.args.strict c.args.text.now c.in-Talk.session (heard ≡ hears)
    (Converses (g.D.Terminal.passes hears heard) (g.D.Terminal.is_unread heard) (g.D.Terminal.has_failed heard)
    (partner.BufferDebugger c.args.echo c.args.strict))
    (g.W.Sink.contents c.args.sink.now) (g.W.Sink.has_failed c.args.sink.now) c.converse.result.0 (stats_of c.converse.result.1)
    c.requires.short c.requires.utf8 c.requires.writable c.converse.ensures.stats c.in-Talk.ensures
    (λ f shown. c.converse.ensures.talks (buffer_scene_of f) shown)
