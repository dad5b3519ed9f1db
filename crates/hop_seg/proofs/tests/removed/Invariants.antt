use Rattle.hop_seg.specs.Segment.{Sound}
use Rattle.hop_seg.specs.Plain.{plain_words}
use Rattle.hop_seg.proofs.tests.removed.Given as goal

abbrev pub invariant-loop-turn : goal.invariant-loop-turn
invariant-loop-turn g l = Sound (plain_words l.words)

abbrev pub invariant-loop-other : goal.invariant-loop-other
invariant-loop-other g l = Sound (plain_words l.words)
