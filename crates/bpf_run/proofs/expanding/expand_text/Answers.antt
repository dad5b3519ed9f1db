use Rattle.std.proofs.Common.{◌≡◌, refl, subst}
use Rattle.bpf_expand.specs.Filter.{FilterState}
use Rattle.bpf_replies.specs.Answer.{stats_of}
use Rattle.bpf_run.specs.Conversing.{Converses, StatesFrom}
use Rattle.bpf_run.specs.declared.conversing.Partner.TheVariants as partner
use Rattle.bpf_run.proofs.Opened.{states_refused, states_talked}
use Rattle.bpf_run.proofs.expanding.expand_text.Goals as goal

pub returns-in-Ok : goal.returns-in-Ok
returns-in-Ok g c =
    let hears = c.args.terminal.now in
    let heard = c.answer_states.new.terminal in
    let said = c.in-Ok.ensures.opened in
    let talks = subst (λ (x : FilterState). StatesFrom (g.D.Terminal.passes hears heard) (g.D.Terminal.is_unread heard)
    (g.D.Terminal.has_failed heard) x c.answer_states.result.0) said.2 c.answer_states.ensures.talks in
    states_talked c.args.patient c.args.races c.args.text.now said.0 (heard ≡ hears)
    (Converses (g.D.Terminal.passes hears heard) (g.D.Terminal.is_unread heard) (g.D.Terminal.has_failed heard) (partner.States c.args.patient c.args.races))
    (g.W.Sink.contents c.args.sink.now) (g.W.Sink.has_failed c.args.sink.now) c.answer_states.result.0 (stats_of c.answer_states.result.1)
    c.requires.short c.requires.utf8 c.requires.writable c.answer_states.ensures.stats said.1 talks

pub returns-in-Err : goal.returns-in-Err
returns-in-Err g c =
    let hears = c.args.terminal.now in
    states_refused c.args.patient c.args.races c.args.text.now c.in-Err.refusal (hears ≡ hears)
    (Converses (g.D.Terminal.passes hears hears) (g.D.Terminal.is_unread hears) (g.D.Terminal.has_failed hears) (partner.States c.args.patient c.args.races))
    (g.W.Sink.contents c.args.sink.now) (g.W.Sink.contents c.answer.new.sink) (g.W.Sink.has_failed c.answer.new.sink) c.answer.result
    c.requires.short c.requires.utf8 refl c.in-Err.ensures.refused c.answer.ensures
