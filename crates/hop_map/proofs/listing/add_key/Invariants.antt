use Rattle.std.specs.Prelude.{◌≡◌, ◌*◌, length, take}
use Rattle.hop_layout.specs.Words.{bytes_of_words}
use Rattle.hop_words.specs.Rule.{image}
use Rattle.hop_words.specs.Locking.{lock_of}
use Rattle.hop_map.proofs.listing.add_key.Given as goal

abbrev pub invariant-words : goal.invariant-words
invariant-words l = record {
  table : l.lane.table ≡ l.fn.lane.table;
  known : l.lane.known ≡ l.fn.lane.known;
  size : length l.bytes ≡ 64;
  words : take (8 * l.word) l.bytes ≡ bytes_of_words l.word ((image l.table.about (lock_of l.fn.lane.known).copy).key l.map l.element);
}
