use Rattle.std.proofs.Common.{◌≢◌, ◌+◌, ◌*◌, ◌≤◌}
use Rattle.hop_seg.specs.Words.{Words}
use Rattle.hop_seg.specs.Segment.{Sound, element_key}
use Rattle.hop_seg.proofs.Walking.{Counted}
use Rattle.hop_seg.proofs.search.locate_listed.Given as goal

abbrev pub invariant-loop-passed : goal.invariant-loop-passed
invariant-loop-passed g l = record {
  rests : g.S.SegReads.rests l.fn.words l.words;
  walk : (w : Words) → g.S.SegReads.agrees l.words w → Sound w → Counted w (λ e. element_key w e ≢ l.key) l.before l.at l._passed;
  reads : g.S.SegReads.reads l.words ≤ g.S.SegReads.reads l.fn.words + 1 + l._passed * (1 + g.S.SegReads.key_words l.fn.words);
}
