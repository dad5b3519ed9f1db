use Rattle.std.specs.Prelude.{◌≡◌, ◌*◌, length, take}
use Rattle.hop_layout.specs.Words.{bytes_of_words}
use Rattle.hop_words.specs.Rule.{image}
use Rattle.hop_words.specs.Locking.{lock_of}
use Rattle.hop_map.proofs.locked.LockedWords.key_bytes.Given as goal

abbrev pub invariant-words : goal.invariant-words
invariant-words l = record {
  same : l.self ≡ l.fn.self;
  size : length l.bytes ≡ 64;
  words : take (8 * l.word) l.bytes ≡ bytes_of_words l.word ((image l.fn.self.about (lock_of l.fn.self.known).copy).key l.fn.self.map l.element);
}
