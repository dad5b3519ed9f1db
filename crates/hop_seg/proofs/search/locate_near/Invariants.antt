use Rattle.std.proofs.Common.{◌≡◌, ◌≢◌, ℕ, ◌+◌, ◌*◌, ◌<◌, ◌≤◌, ◌⊎◌}
use Rattle.std.specs.Int.{bit_at}
use Rattle.hop_seg.specs.Words.{Words}
use Rattle.hop_seg.specs.Segment.{Sound, element_key}
use Rattle.hop_seg.specs.Spots.{IsNear, bucket_for}
use Rattle.hop_seg.proofs.search.locate_near.Given as goal

abbrev pub invariant-bits : goal.invariant-bits
invariant-bits g l = record {
  rests : g.S.SegReads.rests l.fn.words l.words;
  left : (w : Words) → g.S.SegReads.agrees l.words w → (d : ℕ) → d < 32 → bit_at l.left d ≡ 1 → bit_at (w.hop l.bucket) d ≡ 1;
  passed : (w : Words) → g.S.SegReads.agrees l.words w → Sound w → l.bucket ≡ bucket_for w l.key → (d e : ℕ) → IsNear w l.bucket d e →
      (bit_at l.left d ≡ 1) ⊎ (element_key w e ≢ l.key);
  reads : (n : ℕ) × (n ≤ 32) × ((d : ℕ) → d < n → bit_at l.left d ≡ 0) ×
      (g.S.SegReads.reads l.words ≤ g.S.SegReads.reads l.fn.words + 1 + n * (1 + g.S.SegReads.key_words l.fn.words));
}

abbrev pub decreases-bits : goal.decreases-bits
decreases-bits g l = l.left
