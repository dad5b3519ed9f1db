use Rattle.std.proofs.Common.{◌≡◌, ◌∷◌, ◌∙◌, List, ℕ, Option, Bor, Bool, false, ap, sym, refl}
use Rattle.std.specs.Prelude.{◌||◌}
use Rattle.std.specs.Option.{option_copied}
use Rattle.bpf_lines.specs.Lines.{lines_behind, lines_of}
use Rattle.bpf_talk.proofs.Texts.{err_of}
use Rattle.bpf_talk.proofs.TalkLaws.{at_same, or_assoc, or_none}
use Rattle.bpf_talk.proofs.talking.answer_lines.Goals as goal

pub lines-init : goal.lines-init
lines-init g c = record {
  at = λ start first size ended refused at.
      at_same g.S.Respond.answers c.args.echo first (g.D.Terminal.passes start c.args.terminal.now) c.args.session.now (lines_of c.args.text.now)
      (c.first_line.result.0.now ∷ lines_behind (option_copied c.first_line.result.1)) size ended refused (refused || false)
      c.first_line.ensures.lines (sym (or_none refused)) at;
  works = c.requires;
  quiet = refl;
}

pub lines-preserved : goal.lines-preserved
lines-preserved g c = record {
  at = λ start first size ended refused at.
      let behind = lines_behind (option_copied c.lines.behind) in
      let next = c.first_line-next.result in
      let after = c.in_ok-one.ensures.answered start first behind size ended (refused || c.lines.refused)
      (c.lines.invariant.at start first size ended refused at) in
      let cut : behind ≡ next.0.now ∷ lines_behind (option_copied next.1) = ap
      (λ (r : Option (Bor (List ℕ))). lines_behind (option_copied r)) c.in-Some.is ∙ c.first_line-next.ensures.lines in
      at_same g.S.Respond.answers c.args.echo first (g.D.Terminal.passes start c.answer_line.new.terminal) c.answer_line.new.session behind
      (next.0.now ∷ lines_behind (option_copied next.1)) size ended ((refused || c.lines.refused) || c.in_ok-one.one) (refused || c.either-refused.result) cut
      (or_assoc refused c.lines.refused c.in_ok-one.one ∙ ap (λ (b : Bool). refused || b) (sym c.either-refused.ensures)) after;
  works = c.in_ok-one.ensures.told;
  quiet = c.in_ok-one.ensures.readable ∙ c.lines.invariant.quiet;
}

pub returns-in_err-one-clause-stopped : goal.returns-in_err-one-clause-stopped
returns-in_err-one-clause-stopped g c = err_of c.from_residual.result c.in_err-one.field-0.0 _ (λ start first size ended refused at.
    c.in_err-one.ensures.stopped start first (lines_behind (option_copied c.lines.behind)) size ended (refused || c.lines.refused)
    (c.lines.invariant.at start first size ended refused at)) c.from_residual.ensures.1

pub returns-clause-answered : goal.returns-clause-answered
returns-clause-answered g c = λ start first size ended refused at.
    at_same g.S.Respond.answers c.args.echo first (g.D.Terminal.passes start c.lines.terminal) c.lines.session _ _ size ended _ _
    (ap (λ (r : Option (Bor (List ℕ))). c.lines.line.now ∷ lines_behind (option_copied r)) c.in_default.is) refl
    (c.lines.invariant.at start first size ended refused at)
