use Rattle.std.specs.Prelude.{◌≡◌, ◌+◌, ◌<◌, ◌≤◌, ℕ}
use Rattle.hop_words.specs.Content.{MapWords, Reached}
use Rattle.hop_layout.specs.Words.{word_of}
use Rattle.hop_map.specs.Private.Peeks.{OnlyReads, HavePeeks, looks_noted}
use Rattle.hop_map.proofs.peeked.PeekedWords.spells.Given as goal

abbrev pub invariant-words : goal.invariant-words
invariant-words l = record {
  rests : OnlyReads l.fn.self l.self;
  looks : looks_noted l.self ≤ looks_noted l.fn.self + l.word;
  spelled : (w : MapWords) → HavePeeks w l.self → Reached w l.fn.self.map l.fn.self.segment l.element → (j : ℕ) → j < l.word → w.key
      l.fn.self.map l.element j ≡ word_of l.key j;
}
