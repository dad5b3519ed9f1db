use Rattle.std.specs.Prelude.{◌≡◌, ◌<◌, ℕ, Some}
use Rattle.bpf_shared.specs.Listing.{listed}
use Rattle.hop_words.specs.Content.{item}
use Rattle.hop_map.specs.Private.Dumping.{words_in, key_in, IsKeyAmong, AddsPairs}
use Rattle.hop_map.proofs.dumping.add_placed.Given as goal

abbrev pub invariant-places : goal.invariant-places
invariant-places l = record {
  adds : AddsPairs l.rest l.map (listed l.fn.pairs.entries) (listed l.pairs.entries);
  keys : (p i : ℕ) → p < l.place → item ((words_in l.rest).slot l.map l.segment p) ≡ Some i → IsKeyAmong (key_in l.rest l.map i) (listed l.pairs.entries);
}
