use Rattle.hop_seg.proofs.Empty.{empty_sound}
use Rattle.hop_seg.proofs.plain.PlainSegment.new.Goals as goal

pub returns-clause-sound : goal.returns-clause-sound
returns-clause-sound c = let e = c.new.ensures in empty_sound _ e.hop e.slot e.head
