use Rattle.std.specs.Prelude.{◌<◌, ℕ}
use Rattle.bpf_shared.specs.Listing.{listed}
use Rattle.hop_map.specs.Private.Dumping.{key_in, IsReached, IsKeyAmong, AreFound}
use Rattle.hop_map.specs.Dumping.{IsBornHere}
use Rattle.hop_map.proofs.dumping.pairs_of.Given as goal

abbrev pub invariant-segments : goal.invariant-segments
invariant-segments l = record {
  found : AreFound l.rest l.map (listed l.pairs.entries);
  keys : (s i : ℕ) → s < l.segment → IsBornHere l.rest l.map s → IsReached l.rest l.map s i → IsKeyAmong (key_in l.rest l.map i) (listed l.pairs.entries);
}
