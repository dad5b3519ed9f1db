use Rattle.std.specs.Prelude.{◌≡◌, ◌+◌}
use Rattle.hop_layout.specs.declared.place.Place.TheVariants.{FixedWord}
use Rattle.hop_layout.specs.Layout.{mem}
use Rattle.hop_layout.specs.Words.{bytes_of_words}
use Rattle.hop_map.proofs.indexed.read_words.Given as goal

abbrev pub invariant-words : goal.invariant-words
invariant-words l = l.bytes.items ≡ bytes_of_words l.word (λ k. mem l.rest.about.shape l.rest.words (FixedWord l.array (l.first + k)))
