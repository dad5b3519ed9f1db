use Rattle.std.proofs.Common.{ap, ◌∙◌}
use Rattle.hop_layout.specs.Layout.{mem}
use Rattle.hop_words.specs.Locking.{lock_of}
use Rattle.hop_map.specs.LockedSegment.{Locked}
use Rattle.hop_map.proofs.locked.LockedWords.read_beside.Goals as goal

pub returns-clause-value : goal.returns-clause-value
returns-clause-value c = c.read_beside.ensures.word ∙ ap (λ (x : Locked). mem x.about.shape (lock_of x.known).copy c.args.place) c.self.view_is
