use Rattle.std.proofs.Common.{◌≡◌, ◌∷◌, ℕ, Bool, false}
use Rattle.std.specs.Prelude.{◌||◌}
use Rattle.std.specs.Option.{option_copied}
use Rattle.bpf_lines.specs.Lines.{lines_of, lines_behind, rest_size}
use Rattle.bpf_talk.specs.Talking.{IsAt}
use Rattle.bpf_talk.proofs.talking.answer_lines.Given as goal

abbrev pub invariant-lines : goal.invariant-lines
invariant-lines g l = record {
  at : (start : _) (first : _) (size : ℕ) (ended refused : Bool) → IsAt g.S.Respond.answers (g.D.Terminal.passes start l.initial.terminal)
      l.echo first l.initial.session (lines_of l.text) size ended refused
      → IsAt g.S.Respond.answers (g.D.Terminal.passes start l.terminal) l.echo first l.session
      (l.line ∷ lines_behind (option_copied l.behind)) size ended (refused || l.refused);
  works : g.D.Terminal.has_failed l.terminal ≡ false;
  quiet : g.D.Terminal.is_unread l.terminal ≡ g.D.Terminal.is_unread l.initial.terminal;
}

abbrev pub decreases-lines : goal.decreases-lines
decreases-lines g l = rest_size (option_copied l.behind)
