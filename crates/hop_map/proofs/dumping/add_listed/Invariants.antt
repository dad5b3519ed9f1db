use Rattle.std.specs.Prelude.{ℕ, true, Option}
use Rattle.bpf_shared.specs.Listing.{listed}
use Rattle.hop_seg.proofs.Walking.{Counted}
use Rattle.hop_map.specs.Private.LockedSegment.{segment_view}
use Rattle.hop_map.specs.Private.Dumping.{words_in, key_in, IsKeyAmong, AddsPairs}
use Rattle.hop_map.specs.Dumping.{rest_depths}
use Rattle.hop_map.proofs.dumping.add_listed.Given as goal

abbrev pub invariant-list : goal.invariant-list
invariant-list l = record {
  adds : AddsPairs l.rest l.map (listed l.fn.pairs.entries) (listed l.pairs.entries);
  before : Option ℕ;
  walk : Counted (segment_view l.rest.about l.map l.segment (rest_depths l.rest l.map l.segment) (λ i. true) (words_in l.rest))
      (λ i. IsKeyAmong (key_in l.rest l.map i) (listed l.pairs.entries)) before l.at l._passed;
}
