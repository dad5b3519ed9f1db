use Rattle.std.proofs.Common.{◌≡◌, refl, subst}
use Rattle.bpf_buffer_expand.specs.Filter.{FilterState}
use Rattle.bpf_replies.specs.Answer.{stats_of}
use Rattle.bpf_run.specs.Conversing.{Converses, BufferStatesFrom}
use Rattle.bpf_run.specs.declared.conversing.Partner.TheVariants as partner
use Rattle.bpf_run.proofs.Opened.{buffer_states_refused, buffer_states_talked}
use Rattle.bpf_run.proofs.buffer_expanding.expand_text_with_buffers.Goals as goal

pub returns-in-Ok : goal.returns-in-Ok
returns-in-Ok g c =
    let hears = c.args.terminal.now in
    let heard = c.answer_states.new.terminal in
    let said = c.in-Ok.ensures.opened in
    let talks = subst (λ (x : FilterState). BufferStatesFrom (g.D.Terminal.passes hears heard) (g.D.Terminal.is_unread heard)
    (g.D.Terminal.has_failed heard) x c.answer_states.result.0) said.2 c.answer_states.ensures.talks in
    buffer_states_talked c.args.patient c.args.text.now said.0 (heard ≡ hears)
    (Converses (g.D.Terminal.passes hears heard) (g.D.Terminal.is_unread heard) (g.D.Terminal.has_failed heard) (partner.BufferStates c.args.patient))
    (g.W.Sink.contents c.args.sink.now) (g.W.Sink.has_failed c.args.sink.now) c.answer_states.result.0 (stats_of c.answer_states.result.1)
    c.requires.short c.requires.utf8 c.requires.writable c.answer_states.ensures.stats said.1 talks

pub returns-in-Err : goal.returns-in-Err
returns-in-Err g c =
    let hears = c.args.terminal.now in
    buffer_states_refused c.args.patient c.args.text.now c.in-Err.refusal (hears ≡ hears)
    (Converses (g.D.Terminal.passes hears hears) (g.D.Terminal.is_unread hears) (g.D.Terminal.has_failed hears) (partner.BufferStates c.args.patient))
    (g.W.Sink.contents c.args.sink.now) (g.W.Sink.contents c.answer.new.sink) (g.W.Sink.has_failed c.answer.new.sink) c.answer.result
    c.requires.short c.requires.utf8 refl c.in-Err.ensures.refused c.answer.ensures
