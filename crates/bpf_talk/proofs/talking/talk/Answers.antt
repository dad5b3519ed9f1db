use Rattle.std.proofs.Common.{◌∙◌}
use Rattle.bpf_talk.proofs.TalkLaws.{ends, over}
use Rattle.bpf_talk.proofs.talking.talk.Goals as goal

pub returns-in-Ok : goal.returns-in-Ok
returns-in-Ok g c =
    let at = c.in-Ok.ensures.answered in
    over g.S.Respond.answers c.args.echo c.args.session.now (g.D.Terminal.passes c.args.terminal.now c.answer_all.new.terminal)
    c.answer_all.new.session at.0 c.in-Ok.refused
    (g.D.Terminal.is_unread c.answer_all.new.terminal) (g.D.Terminal.has_failed c.answer_all.new.terminal) c.in-Ok.ensures.unread c.in-Ok.ensures.told at.1

pub returns-in-Err : goal.returns-in-Err
returns-in-Err g c =
    let old = c.args.terminal.now in
    let mid = c.answer_all.new.terminal in
    let new = c.end_early.new.terminal in
    ends g.S.Respond.answers c.args.echo c.args.session.now (g.D.Terminal.passes old mid) (g.D.Terminal.passes mid new) (g.D.Terminal.passes old new)
    (λ calls more p q. g.met.D.Terminal.follows old mid new calls more p q) c.answer_all.new.session c.in-Err.why
    (g.D.Terminal.is_unread new) (g.D.Terminal.has_failed new) c.end_early.result (c.end_early.ensures.readable ∙ c.in-Err.ensures.unread)
    c.end_early.ensures.said c.in-Err.ensures.stopped
