use Rattle.hop_seg.specs.Segment.{Sound}
use Rattle.hop_seg.specs.Plain.{plain_words}
use Rattle.hop_seg.proofs.tests.follow.Given as goal

abbrev pub invariant-loop-token : goal.invariant-loop-token
invariant-loop-token g l = Sound (plain_words l.words)
