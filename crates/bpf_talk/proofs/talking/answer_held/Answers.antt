use Rattle.std.proofs.Common.{◌∷◌, [], List, ℕ, ap, sym, refl}
use Rattle.std.specs.Prelude.{◌||◌}
use Rattle.bpf_lines.specs.Lines.{lines_of}
use Rattle.bpf_talk.specs.declared.talking.Stop.TheVariants as stop
use Rattle.bpf_talk.proofs.Texts.{err_of}
use Rattle.bpf_talk.proofs.TalkLaws.{at_same, stopped_at}
use Rattle.bpf_talk.proofs.talking.answer_held.Goals as goal

pub returns-clause-answered : goal.returns-clause-answered
returns-clause-answered g c = λ start first size ended refused at.
    let here = g.D.Terminal.passes start c.args.terminal.now in
    let there = g.D.Terminal.passes start c.answer_lines.new.terminal in
    let text = at_same g.S.Respond.answers c.args.echo first here c.args.session.now (lines_of c.args.held.now.items)
    (lines_of c.as_slice.result.now) size ended refused refused
    (ap lines_of (sym c.as_slice.ensures.value)) refl at in
    at_same g.S.Respond.answers c.args.echo first there c.answer_lines.new.session (c.in_ok-rest.rest.now ∷ []) (c.in-Ok.kept.items ∷ []) size ended
    (refused || c.in_ok-rest.refused) (refused || c.in_ok-rest.refused) (ap (λ (t : List ℕ). t ∷ []) (sym c.in-Ok.ensures.items)) refl
    (c.in_ok-rest.ensures.answered start first size ended refused text)

pub returns-in_default-clause-stopped : goal.returns-in_default-clause-stopped
returns-in_default-clause-stopped g c = λ start first size ended refused at.
    let here = g.D.Terminal.passes start c.args.terminal.now in
    let there = g.D.Terminal.passes start c.answer_lines.new.terminal in
    let text = at_same g.S.Respond.answers c.args.echo first here c.args.session.now (lines_of c.args.held.now.items)
    (lines_of c.as_slice.result.now) size ended refused refused
    (ap lines_of (sym c.as_slice.ensures.value)) refl at in
    stopped_at g.S.Respond.answers c.args.echo first there there (λ calls p. p) c.answer_lines.new.session (c.in_ok-rest.rest.now ∷ []) size ended
    (refused || c.in_ok-rest.refused) stop.OutOfMemory refl (λ calls sized. tt) (c.in_ok-rest.ensures.answered start first size ended refused text)

pub returns-in_err-rest-clause-stopped : goal.returns-in_err-rest-clause-stopped
returns-in_err-rest-clause-stopped g c = err_of c.from_residual.result c.in_err-rest.field-0.0 _ (λ start first size ended refused at.
    c.in_err-rest.ensures.stopped start first size ended refused
    (at_same g.S.Respond.answers c.args.echo first (g.D.Terminal.passes start c.args.terminal.now) c.args.session.now
    (lines_of c.args.held.now.items)
    (lines_of c.as_slice.result.now) size ended refused refused (ap lines_of (sym c.as_slice.ensures.value)) refl at)) c.from_residual.ensures.1
