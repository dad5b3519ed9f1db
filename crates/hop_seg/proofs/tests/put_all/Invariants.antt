use Rattle.hop_seg.specs.Segment.{Sound}
use Rattle.hop_seg.specs.Plain.{plain_words}
use Rattle.hop_seg.proofs.tests.put_all.Given as goal

abbrev pub invariant-loop-element : goal.invariant-loop-element
invariant-loop-element g l = Sound (plain_words l.words)
