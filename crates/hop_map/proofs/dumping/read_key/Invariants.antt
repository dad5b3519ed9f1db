use Rattle.std.specs.Prelude.{◌≡◌}
use Rattle.hop_layout.specs.Words.{bytes_of_words}
use Rattle.hop_map.specs.Private.Dumping.{words_in}
use Rattle.hop_map.proofs.dumping.read_key.Given as goal

abbrev pub invariant-words : goal.invariant-words
invariant-words l = l.bytes.items ≡ bytes_of_words l.word ((words_in l.rest).key l.map l.element)
