use Rattle.std.proofs.Common.{◌≡◌, ℕ, List, Some, false, refl, subst}
use Rattle.bpf_replies.specs.Answer.{stats_of}
use Rattle.bpf_run.specs.Conversing.{Converses, Holds}
use Rattle.bpf_run.proofs.Opened.{not_text}
use Rattle.bpf_run.proofs.conversing.talk_bytes.Goals as goal

pub returns-in-Ok : goal.returns-in-Ok
returns-in-Ok g c =
    let hears = c.args.terminal.now in
    let heard = c.talk_text.new.terminal in
    let T : List ℕ → Type 0 = λ bytes. Holds c.args.partner (Some bytes) (heard ≡ hears)
    (Converses (g.D.Terminal.passes hears heard) (g.D.Terminal.is_unread heard) (g.D.Terminal.has_failed heard) c.args.partner) false
    (g.W.Sink.contents c.args.sink.now) (g.W.Sink.contents c.talk_text.new.sink) (g.W.Sink.has_failed c.talk_text.new.sink)
    c.talk_text.result.0 (stats_of c.talk_text.result.1) in
    subst T c.in-Ok.ensures.cases.0 c.talk_text.ensures

pub returns-in-Err : goal.returns-in-Err
returns-in-Err g c =
    let hears = c.args.terminal.now in
    not_text c.args.partner c.args.bytes.now (hears ≡ hears)
    (Converses (g.D.Terminal.passes hears hears) (g.D.Terminal.is_unread hears) (g.D.Terminal.has_failed hears) c.args.partner)
    (g.W.Sink.contents c.args.sink.now) (g.W.Sink.contents c.answer.new.sink) (g.W.Sink.has_failed c.answer.new.sink) c.answer.result
    c.requires.short c.in-Err.ensures.cases.0 refl c.answer.ensures
