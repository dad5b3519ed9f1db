use Rattle.std.proofs.Common.{◌≡◌, ℕ, List, Some, false, subst}
use Rattle.bpf_replies.specs.Answer.{stats_of}
use Rattle.bpf_run.specs.Conversing.{Converses, Holds}
use Rattle.bpf_run.proofs.conversing.talk_input.Goals as goal

pub returns : goal.returns
returns g c =
    let hears = c.args.terminal.now in
    let heard = c.talk_bytes-status.new.terminal in
    let T : List ℕ → Type 0 = λ bytes. Holds c.args.partner (Some bytes) (heard ≡ hears)
    (Converses (g.D.Terminal.passes hears heard) (g.D.Terminal.is_unread heard) (g.D.Terminal.has_failed heard) c.args.partner) false
    (g.W.Sink.contents c.args.sink.now) (g.W.Sink.contents c.talk_bytes-status.new.sink) (g.W.Sink.has_failed c.talk_bytes-status.new.sink)
    c.talk_bytes-status.result.0 (stats_of c.talk_bytes-status.result.1) in
    subst T c.as_slice.ensures.value c.talk_bytes-status.ensures
