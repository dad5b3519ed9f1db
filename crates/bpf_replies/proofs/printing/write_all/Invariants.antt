use Rattle.std.proofs.Common.{◌≡◌, false, map}
use Rattle.bpf_replies.specs.Answer.{all_of}
use Rattle.bpf_replies.proofs.WrittenAnswers.{Wrote, texts_left}
use Rattle.bpf_replies.proofs.printing.write_all.Given as goal

abbrev pub invariant-loop-text : goal.invariant-loop-text
invariant-loop-text g l = record {
  wrote : Wrote (g.W.Sink.contents l.initial.sink) (g.W.Sink.contents l.sink) (all_of (map (λ t. t.now) l.texts)) (texts_left l.texts l.text-index);
  works : g.W.Sink.has_failed l.sink ≡ false;
}
