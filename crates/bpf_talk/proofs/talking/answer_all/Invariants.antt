use Rattle.std.proofs.Common.{◌≡◌, ◌∷◌, ◌≤◌, ℕ, [], length, false}
use Rattle.bpf_talk.specs.Talking.{IsAt}
use Rattle.bpf_talk.proofs.talking.answer_all.Given as goal

abbrev pub invariant-loop : goal.invariant-loop
invariant-loop g l = record {
  room : length l.chunk ≡ 65536;
  at : (size : ℕ) × (l.counter ≤ size) × IsAt g.S.Respond.answers (g.D.Terminal.passes l.initial.terminal l.terminal) l.echo
      l.initial.session l.session (l.held.items ∷ []) size false l.refused;
  works : g.D.Terminal.has_failed l.terminal ≡ false;
  quiet : g.D.Terminal.is_unread l.terminal ≡ false;
}
