use Rattle.std.proofs.Common.{◌∷◌, ℕ, List, refl, subst, sym}
use Rattle.bpf_talk.specs.declared.talking.Stop.TheVariants as stop
use Rattle.bpf_talk.proofs.TalkLaws.{at_next, cut_at, stopped_at}
use Rattle.bpf_talk.proofs.talking.answer_line.Goals as goal

pub returns-in_default-clause-stopped : goal.returns-in_default-clause-stopped
returns-in_default-clause-stopped g c = λ start first left size ended refused at.
    let here = g.D.Terminal.passes start c.args.terminal.now in
    stopped_at g.S.Respond.answers c.args.echo first here here (λ calls p. p) c.args.session.now (c.args.line.now ∷ left) size ended refused
    stop.NotText refl (λ calls sized. c.in_default.ensures.cases.0) at

pub returns-in-Ok-tell-clause-answered : goal.returns-in-Ok-tell-clause-answered
returns-in-Ok-tell-clause-answered g c = λ start first left size ended refused at.
    let old = c.args.terminal.now in
    let new = c.tell.new.terminal in
    let said = c.in-Ok-tell.ensures.said in
    let answered = subst (λ (t : List ℕ). g.S.Respond.answers c.args.session.now c.answer-refused.new.self c.args.line.now t
    c.answer-refused.result) (sym c.told.ensures) c.answer-refused.ensures in
    at_next g.S.Respond.answers c.args.echo first (g.D.Terminal.passes start old) (g.D.Terminal.passes start new) said.0
    (λ calls p. g.met.D.Terminal.follows start old new calls said.0 p said.1)
    c.args.session.now c.answer-refused.new.self c.args.line.now left size ended refused c.told.result.now c.answer-refused.result
    c.in-Ok.ensures.cases.1 answered said.2 at

pub returns-in-Err-clause-stopped : goal.returns-in-Err-clause-stopped
returns-in-Err-clause-stopped g c = λ start first left size ended refused at.
    let old = c.args.terminal.now in
    let new = c.tell.new.terminal in
    let begun = c.in-Err.ensures.begun in
    let answered = subst (λ (t : List ℕ). g.S.Respond.answers c.args.session.now c.answer-refused.new.self c.args.line.now t
    c.answer-refused.result) (sym c.told.ensures) c.answer-refused.ensures in
    cut_at g.S.Respond.answers c.args.echo first (g.D.Terminal.passes start old) (g.D.Terminal.passes start new) begun.1
    (λ calls p. g.met.D.Terminal.follows start old new calls begun.1 p begun.2)
    c.args.session.now c.answer-refused.new.self c.args.line.now left size ended refused c.told.result.now c.answer-refused.result begun.0
    c.in-Ok.ensures.cases.1 answered begun.3 at
