use Rattle.std.proofs.Common.{◌≡◌, false, map}
use Rattle.std.specs.List.{concat}
use Rattle.bpf_talk.proofs.Texts.{Far, texts_left}
use Rattle.bpf_talk.proofs.talking.put_all.Given as goal

abbrev pub invariant-loop-text : goal.invariant-loop-text
invariant-loop-text g l = record {
  far : Far (g.D.Terminal.passes l.initial.terminal l.terminal) (concat (map (λ t. t.now) l.texts)) (texts_left l.texts l.text-index);
  works : g.D.Terminal.has_failed l.terminal ≡ false;
  quiet : g.D.Terminal.is_unread l.terminal ≡ g.D.Terminal.is_unread l.initial.terminal;
}
